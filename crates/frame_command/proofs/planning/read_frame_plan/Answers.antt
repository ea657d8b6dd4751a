use Rattle.std.proofs.Common.{None}
use Rattle.lists.proofs.Results.{if_err}
use Rattle.silc_files.proofs.Results.{if_ok, at_error}
use Rattle.plan_commands.proofs.Errors.{not_read, not_planned}
use Rattle.plan_commands.specs.declared.planning.Planned.{Planned}
use Rattle.rate_unfold.specs.Frames.{rates}
use Rattle.frame_command.specs.FramePlans.{IsFrameRefusal, IsFrameRefused, IsFrameError}
use Rattle.frame_command.proofs.Framing.{read_plan}
use Rattle.statuses.specs.declared.status.Ending.{Ending}
use Rattle.frame_command.proofs.planning.read_frame_plan.Goals as goal

pub returns-clause-ok : goal.returns-clause-ok
returns-clause-ok g c =
    if_ok c.frame_plan_of.result _ _
    (λ (planned : Planned).
    read_plan (rates c.args.phases c.args.down.now c.args.up.now) c.args.source.now c.args.datapath.now
    (g.D.Desk.view c.args.desk.now) (g.D.Desk.view c.read_inputs.new.desk) c.in_ok-inputs.inputs
    c.in_ok-inputs.ensures.ok planned)
    c.frame_plan_of.ensures.ok

pub returns-clause-err : goal.returns-clause-err
returns-clause-err g c =
    if_err c.frame_plan_of.result _ _
    (λ ending.
    not_planned IsFrameRefusal (IsFrameRefused (rates c.args.phases c.args.down.now c.args.up.now))
    c.args.source.now c.args.datapath.now (g.D.Desk.view c.args.desk.now) (g.D.Desk.view c.read_inputs.new.desk)
    c.in_ok-inputs.ensures.reads c.in_ok-inputs.inputs c.in_ok-inputs.ensures.ok ending.status)
    c.frame_plan_of.ensures.err

pub returns-in_err-inputs-clause-err : goal.returns-in_err-inputs-clause-err
returns-in_err-inputs-clause-err g c =
    at_error c.from_residual.result
    (record { status = c.in_err-inputs.field-0.0; line = None; element = None; path = None })
    c.from_residual.ensures.1
    (λ (ending : Ending).
    IsFrameError (rates c.args.phases c.args.down.now c.args.up.now) c.args.source.now c.args.datapath.now
    (g.D.Desk.view c.args.desk.now) (g.D.Desk.view c.read_inputs.new.desk) ending.status)
    (not_read IsFrameRefusal (IsFrameRefused (rates c.args.phases c.args.down.now c.args.up.now))
    c.args.source.now c.args.datapath.now (g.D.Desk.view c.args.desk.now) (g.D.Desk.view c.read_inputs.new.desk)
    c.in_err-inputs.field-0.0 c.in_err-inputs.ensures.err)
