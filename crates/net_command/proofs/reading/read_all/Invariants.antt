use Rattle.net_command.proofs.FilesRead.{AreReadTo}
use Rattle.net_command.proofs.reading.read_all.Given as goal

-- the files of the processors so far were read
abbrev pub invariant-loop-proc : goal.invariant-loop-proc
invariant-loop-proc g l =
    AreReadTo l.procs l.proc-index (g.D.Desk.view l.fn.desk) (g.D.Desk.view l.desk) l.all
