use Rattle.std.proofs.Common.{sym, subst}
use Rattle.silc_files.proofs.Results.{at_error}
use Rattle.net_command.specs.Processors.{names_of}
use Rattle.net_command.specs.Private.Reading.{AreUnreadable}
use Rattle.net_command.proofs.FilesRead.{reads_all, one_more, unread}
use Rattle.net_file.specs.Described.{HasTexts}
use Rattle.net_command.proofs.reading.read_all.Goals as goal

pub read_one-requires : goal.read_one-requires
read_one-requires g c =
    subst HasTexts (sym c.proc-item.is) (c.requires c.loop-proc.proc-index c.proc-item.result c.loop-proc-test.true)

pub returns-in_err-read_one-clause-reads : goal.returns-in_err-read_one-clause-reads
returns-in_err-read_one-clause-reads g c =
    reads_all c.args.procs.now c.loop-proc.proc-index c.proc-item.result c.loop-proc-test.true c.proc-item.is
    (g.D.Desk.view c.args.desk.now) (g.D.Desk.view c.loop-proc.desk) (g.D.Desk.view c.read_one.new.desk)
    c.loop-proc.all c.loop-proc.invariant c.in_err-read_one.ensures.reads

pub returns-in_err-read_one-clause-err : goal.returns-in_err-read_one-clause-err
returns-in_err-read_one-clause-err g c =
    at_error c.from_residual.result c.in_err-read_one.field-0.0 c.from_residual.ensures.1
    (AreUnreadable (names_of c.args.procs.now) (g.D.Desk.view c.args.desk.now) (g.D.Desk.view c.read_one.new.desk))
    (unread c.args.procs.now c.loop-proc.proc-index c.proc-item.result c.loop-proc-test.true c.proc-item.is
    (g.D.Desk.view c.args.desk.now) (g.D.Desk.view c.loop-proc.desk) (g.D.Desk.view c.read_one.new.desk)
    c.loop-proc.all c.loop-proc.invariant c.in_err-read_one.ensures.reads c.in_err-read_one.field-0.0
    c.in_err-read_one.ensures.err)

pub returns-in_err-push-clause-reads : goal.returns-in_err-push-clause-reads
returns-in_err-push-clause-reads g c =
    reads_all c.args.procs.now c.loop-proc.proc-index c.proc-item.result c.loop-proc-test.true c.proc-item.is
    (g.D.Desk.view c.args.desk.now) (g.D.Desk.view c.loop-proc.desk) (g.D.Desk.view c.read_one.new.desk)
    c.loop-proc.all c.loop-proc.invariant c.in_ok-read_one.ensures.reads

pub loop-proc-preserved : goal.loop-proc-preserved
loop-proc-preserved g c =
    one_more c.args.procs.now c.loop-proc.proc-index c.proc-item.result c.loop-proc-test.true c.proc-item.is
    (g.D.Desk.view c.args.desk.now) (g.D.Desk.view c.loop-proc.desk) (g.D.Desk.view c.read_one.new.desk)
    c.loop-proc.all c.loop-proc.invariant c.in_ok-read_one.ensures.reads c.in_ok-read_one.field-0 c.push.new.all
    c.in_ok-read_one.ensures.ok c.in_ok-read_one.ensures.through c.in_ok-push.ensures
