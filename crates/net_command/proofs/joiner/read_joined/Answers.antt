use Rattle.std.proofs.Common.{subst, List}
use Rattle.net_command.specs.Private.Running.{AreUnread, AreJoined, IsUnjoined}
use Rattle.net_command.proofs.NetFiles.{reads_net, procs_read, not_joined, are_read}
use Rattle.plan_commands.specs.declared.planning.Inputs.{Inputs}
use Rattle.silc_files.proofs.Results.{at_error}
use Rattle.statuses.specs.declared.status.Ending.{Ending}
use Rattle.net_command.proofs.joiner.read_joined.Goals as goal

pub returns-in_err-inputs-clause-reads : goal.returns-in_err-inputs-clause-reads
returns-in_err-inputs-clause-reads g c =
    reads_net c.args.net.now c.args.output.now (g.D.Desk.view c.args.desk.now)
    (g.D.Desk.view c.read_net_file.new.desk) (g.D.Desk.view c.read_all.new.desk) c.in_ok-file.file
    c.in_ok-file.ensures.ok c.in_ok-file.ensures.reads
    c.as_slice.result.now c.as_slice.ensures c.in_err-inputs.ensures.reads

pub returns-in_err-processors-clause-reads : goal.returns-in_err-processors-clause-reads
returns-in_err-processors-clause-reads g c =
    reads_net c.args.net.now c.args.output.now (g.D.Desk.view c.args.desk.now)
    (g.D.Desk.view c.read_net_file.new.desk) (g.D.Desk.view c.read_all.new.desk) c.in_ok-file.file
    c.in_ok-file.ensures.ok c.in_ok-file.ensures.reads
    c.as_slice.result.now c.as_slice.ensures c.in_ok-inputs.ensures.reads

pub returns-in_err-processors-clause-err : goal.returns-in_err-processors-clause-err
returns-in_err-processors-clause-err g c =
    at_error c.from_residual-in_err-processors.result c.in_err-processors.field-0.0
    c.from_residual-in_err-processors.ensures.1
    (λ (ending : Ending). AreUnread c.args.net.now c.args.output.now (g.D.Desk.view c.args.desk.now)
    (g.D.Desk.view c.read_all.new.desk) ending.status)
    (not_joined c.args.net.now c.args.output.now (g.D.Desk.view c.args.desk.now)
    (g.D.Desk.view c.read_net_file.new.desk) (g.D.Desk.view c.read_all.new.desk) c.in_ok-file.file
    c.in_ok-file.ensures.ok c.in_ok-file.ensures.reads
    c.as_slice.result.now c.as_slice.ensures c.in_ok-inputs.ensures.reads
    c.in_ok-inputs.inputs
    c.in_ok-inputs.ensures.ok
    (procs_read c.args.net.now c.args.output.now (g.D.Desk.view c.args.desk.now)
    (g.D.Desk.view c.read_net_file.new.desk) (g.D.Desk.view c.read_all.new.desk) c.in_ok-file.file
    c.in_ok-file.ensures.ok c.in_ok-file.ensures.reads
    c.as_slice.result.now c.as_slice.ensures c.in_ok-inputs.ensures.reads
    c.in_ok-file.ensures.text.0 c.in_ok-file.ensures.text.1 c.in_ok-inputs.ensures.through)
    c.in_err-processors.field-0.0.status
    (subst (λ (xs : List Inputs). IsUnjoined c.in_ok-file.file xs c.in_err-processors.field-0.0.status)
    c.as_slice-2.ensures c.in_err-processors.ensures.err))

pub returns-clause-reads : goal.returns-clause-reads
returns-clause-reads g c =
    reads_net c.args.net.now c.args.output.now (g.D.Desk.view c.args.desk.now)
    (g.D.Desk.view c.read_net_file.new.desk) (g.D.Desk.view c.read_all.new.desk) c.in_ok-file.file
    c.in_ok-file.ensures.ok c.in_ok-file.ensures.reads
    c.as_slice.result.now c.as_slice.ensures c.in_ok-inputs.ensures.reads

pub returns-clause-ok : goal.returns-clause-ok
returns-clause-ok g c =
    are_read c.args.net.now c.args.output.now (g.D.Desk.view c.args.desk.now)
    (g.D.Desk.view c.read_net_file.new.desk) (g.D.Desk.view c.read_all.new.desk) c.in_ok-file.file
    c.in_ok-file.ensures.ok c.in_ok-file.ensures.reads
    c.as_slice.result.now c.as_slice.ensures c.in_ok-inputs.ensures.reads
    c.in_ok-file.ensures.text.0 c.in_ok-file.ensures.text.1 c.in_ok-inputs.inputs
    c.in_ok-inputs.ensures.ok
    c.in_ok-inputs.ensures.count c.in_ok-processors.processors
    (subst (λ (xs : List Inputs). AreJoined c.in_ok-file.file xs c.in_ok-processors.processors) c.as_slice-2.ensures
    c.in_ok-processors.ensures.ok)
