use Rattle.std.proofs.Common.{ap, inl, ◌∙◌}
use Rattle.std.proofs.lemmas.Result.{err_from_is_err_and}
use Rattle.statuses.specs.declared.status.Ending.{Ending}
use Rattle.stage_commands.proofs.Piping.{guarded_machine}
use Rattle.stage_commands.proofs.Staging.{is_planned}
use Rattle.stage_commands.proofs.piper.read_ready.Goals as goal

pub ready_for-requires-clause-plan : goal.ready_for-requires-clause-plan
ready_for-requires-clause-plan g c =
    is_planned c.args.stages c.requires c.args.source.now c.args.datapath.now (g.D.Desk.view c.args.desk.now)
    (g.D.Desk.view c.read_stage_plan.new.desk) c.in_ok-planned.planned c.in_ok-planned.ensures.ok

pub returns-clause-machine : goal.returns-clause-machine
returns-clause-machine g c =
    guarded_machine c.args.stages c.args.source.now c.args.datapath.now (g.D.Desk.view c.args.desk.now)
    (g.D.Desk.view c.read_stage_plan.new.desk) c.in_ok-planned.planned c.in_ok-planned.ensures.ok
    c.in_ok-ready_for.field-0.machine c.in_ok-ready_for.ensures.machine

pub returns-in_err-ready_for-clause-err : goal.returns-in_err-ready_for-clause-err
returns-in_err-ready_for-clause-err g c =
    let p = err_from_is_err_and c.from_residual-in_err-ready_for.result c.from_residual-in_err-ready_for.ensures.1 in
    rw p.1
    (inl
    (ap (λ (e : Ending). e.status) p.2 ∙ c.in_err-ready_for.ensures.err, c.in_ok-planned.ensures.reads.unchanged))
