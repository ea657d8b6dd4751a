use Rattle.std.proofs.Common.{◌/◌, ◌<◌, ◌∙◌, ap, sym, subst}
use Rattle.overlap_sim.proofs.StageFacts.{period_some, end_stage}
use Rattle.overlap_sim.proofs.cycles.end_stage_of.Goals as goal

pub stage-requires-clause-some : goal.stage-requires-clause-some
stage-requires-clause-some c = period_some c.args.datapath.now c.args.plan.now c.requires.ready

pub stage-requires-clause-few : goal.stage-requires-clause-few
stage-requires-clause-few c =
    subst (λ t. t / c.args.datapath.now.period < 256) (sym c.end_of.ensures)
    (end_stage c.args.datapath.now c.args.plan.now c.requires.ready c.args.v c.requires.node)

pub returns : goal.returns
returns c = c.stage.ensures ∙ ap (λ t. t / c.args.datapath.now.period) c.end_of.ensures
