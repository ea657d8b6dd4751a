use Rattle.net_command.specs.Private.Running.{IsNotRun}
use Rattle.net_command.proofs.NetRuns.{not_read, reads_wide, reads_last, narrow, whole_rows, makes_net, was_run}
use Rattle.silc_files.proofs.Results.{at_error}
use Rattle.statuses.specs.declared.status.Ending.{Ending}
use Rattle.net_command.proofs.joiner.make.Goals as goal

pub returns-in_err-file-clause-reads : goal.returns-in_err-file-clause-reads
returns-in_err-file-clause-reads g c =
    reads_wide c.args.net.now c.args.samples.now c.args.output.now (g.D.Desk.view c.args.desk.now)
    (g.D.Desk.view c.read_joined.new.desk) c.in_err-file.ensures.reads

pub returns-in_err-file-clause-err : goal.returns-in_err-file-clause-err
returns-in_err-file-clause-err g c =
    at_error c.from_residual.result c.in_err-file.field-0.0 c.from_residual.ensures.1
    (λ (ending : Ending). IsNotRun c.args.net.now c.args.samples.now c.args.output.now
    (g.D.Desk.view c.args.desk.now) (g.D.Desk.view c.read_joined.new.desk) ending.status)
    (not_read c.args.net.now c.args.samples.now c.args.output.now (g.D.Desk.view c.args.desk.now)
    (g.D.Desk.view c.read_joined.new.desk) c.in_err-file.field-0.0.status c.in_err-file.ensures.err)

pub read_stream-requires-clause-narrow : goal.read_stream-requires-clause-narrow
read_stream-requires-clause-narrow g c =
    narrow c.args.net.now c.args.output.now (g.D.Desk.view c.args.desk.now) c.in_ok-file.field-0
    c.in_ok-file.ensures.ok c.as_slice.result.now c.as_slice.ensures

pub returns-in_err-rows-clause-reads : goal.returns-in_err-rows-clause-reads
returns-in_err-rows-clause-reads g c =
    reads_last c.args.net.now c.args.samples.now c.args.output.now (g.D.Desk.view c.args.desk.now)
    (g.D.Desk.view c.read_joined.new.desk) (g.D.Desk.view c.read_stream.new.desk) c.in_ok-file.ensures.reads
    c.in_err-rows.ensures.reads

pub run_net-requires-clause-rows : goal.run_net-requires-clause-rows
run_net-requires-clause-rows g c =
    whole_rows c.args.net.now c.args.output.now (g.D.Desk.view c.args.desk.now) c.in_ok-file.field-0
    c.in_ok-file.ensures.ok c.as_slice.result.now c.as_slice.ensures c.args.samples.now
    (g.D.Desk.view c.read_joined.new.desk)
    (g.D.Desk.view c.read_stream.new.desk) c.in_ok-file.ensures.reads c.in_ok-rows.rows
    c.in_ok-rows.ensures.ok

pub run_net-requires-clause-parts : goal.run_net-requires-clause-parts
run_net-requires-clause-parts g c =
    makes_net c.args.net.now c.args.output.now (g.D.Desk.view c.args.desk.now) c.in_ok-file.field-0
    c.in_ok-file.ensures.ok c.as_slice.result.now c.as_slice.ensures c.args.samples.now
    (g.D.Desk.view c.read_joined.new.desk)
    (g.D.Desk.view c.read_stream.new.desk) c.in_ok-file.ensures.reads c.in_ok-rows.rows
    c.in_ok-rows.ensures.ok

pub returns-in-Ok-clause-reads : goal.returns-in-Ok-clause-reads
returns-in-Ok-clause-reads g c =
    reads_last c.args.net.now c.args.samples.now c.args.output.now (g.D.Desk.view c.args.desk.now)
    (g.D.Desk.view c.read_joined.new.desk) (g.D.Desk.view c.read_stream.new.desk) c.in_ok-file.ensures.reads
    c.in_ok-rows.ensures.reads

pub returns-in-Ok-clause-ok : goal.returns-in-Ok-clause-ok
returns-in-Ok-clause-ok g c =
    was_run c.args.net.now c.args.output.now (g.D.Desk.view c.args.desk.now) c.in_ok-file.field-0
    c.in_ok-file.ensures.ok c.as_slice.result.now c.as_slice.ensures c.args.samples.now
    (g.D.Desk.view c.read_joined.new.desk)
    (g.D.Desk.view c.read_stream.new.desk) c.in_ok-file.ensures.reads c.in_ok-rows.rows
    c.in_ok-rows.ensures.ok
    c.in-Ok.ran.net c.in-Ok.ran.text c.in-Ok.ensures

pub returns-clause-reads : goal.returns-clause-reads
returns-clause-reads g c =
    reads_last c.args.net.now c.args.samples.now c.args.output.now (g.D.Desk.view c.args.desk.now)
    (g.D.Desk.view c.read_joined.new.desk) (g.D.Desk.view c.read_stream.new.desk) c.in_ok-file.ensures.reads
    c.in_ok-rows.ensures.reads
