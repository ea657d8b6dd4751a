use Rattle.std.proofs.Common.{refl, ap, subst, List, ℕ}
use Rattle.desk_core.specs.Whole.{IsWrittenWhole, IsWrittenInPart}
use Rattle.net_command.proofs.NetEnds.{done, cut_short}
use Rattle.statuses.specs.declared.status.Ending.{Ending}
use Rattle.net_command.proofs.joiner.net.Goals as goal

pub returns-in-Ok-clause-ok : goal.returns-in-Ok-clause-ok
returns-in-Ok-clause-ok g c =
    done c.args.net.now c.args.samples.now c.args.output.now c.requires (g.D.Desk.view c.args.desk.now)
    (g.D.Desk.view c.make.new.desk) (g.D.Desk.view c.write_whole.new.desk) c.in_ok-ran.ran.net c.in_ok-ran.ran.text
    c.in_ok-ran.ensures.ok c.in_ok-ran.ensures.reads
    (subst (λ (bytes : List ℕ). IsWrittenWhole c.args.output.now bytes (g.D.Desk.view c.make.new.desk)
    (g.D.Desk.view c.write_whole.new.desk)) c.deref.ensures c.in-Ok.ensures.ok)

pub returns-in-Err-clause-err : goal.returns-in-Err-clause-err
returns-in-Err-clause-err g c =
    cut_short c.args.net.now c.args.samples.now c.args.output.now c.requires (g.D.Desk.view c.args.desk.now)
    (g.D.Desk.view c.make.new.desk) (g.D.Desk.view c.write_whole.new.desk) c.in_ok-ran.ran.net c.in_ok-ran.ran.text
    c.in_ok-ran.ensures.ok c.in_ok-ran.ensures.reads (c.in-Err.ensures.cause refl)
    (subst (λ (bytes : List ℕ). IsWrittenInPart c.args.output.now bytes (g.D.Desk.view c.make.new.desk)
    (g.D.Desk.view c.write_whole.new.desk)) c.deref.ensures c.in-Err.ensures.err)
    c.from.result.status (ap (λ (e : Ending). e.status) c.from.ensures)
