use Rattle.std.proofs.Common.{ap, inl, ◌∙◌}
use Rattle.std.proofs.lemmas.Result.{err_from_is_err_and}
use Rattle.statuses.specs.declared.status.Ending.{Ending}
use Rattle.stage_commands.proofs.Staging.{is_planned, made_text}
use Rattle.stage_commands.proofs.printer.make.Goals as goal

pub text_of-requires-clause-plan : goal.text_of-requires-clause-plan
text_of-requires-clause-plan g c =
    is_planned c.args.stages c.requires c.args.source.now c.args.datapath.now (g.D.Desk.view c.args.desk.now)
    (g.D.Desk.view c.read_stage_plan.new.desk) c.in_ok-planned.planned c.in_ok-planned.ensures.ok

pub returns-clause-ok : goal.returns-clause-ok
returns-clause-ok g c =
    made_text c.args.stages c.requires c.args.source.now c.args.datapath.now (g.D.Desk.view c.args.desk.now)
    (g.D.Desk.view c.read_stage_plan.new.desk) c.in_ok-planned.planned c.in_ok-planned.ensures.ok
    c.in_ok-text_of.field-0 c.in_ok-text_of.ensures.ok

pub returns-in_err-text_of-clause-err : goal.returns-in_err-text_of-clause-err
returns-in_err-text_of-clause-err g c =
    let p = err_from_is_err_and c.from_residual-in_err-text_of.result c.from_residual-in_err-text_of.ensures.1 in
    rw p.1
    (inl
    (ap (λ (e : Ending). e.status) p.2 ∙ c.in_err-text_of.ensures.err, c.in_ok-planned.ensures.reads.unchanged))
