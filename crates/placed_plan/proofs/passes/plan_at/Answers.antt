use Rattle.placed_plan.proofs.PlansAt.{if_planned, at_feasible, at_routed, at_narrow, at_given, ordinary}
use Rattle.placed_plan.proofs.passes.plan_at.Goals as goal

pub returns-clause-feasible : goal.returns-clause-feasible
returns-clause-feasible c =
    if_planned c.planned_at.result c.planned_at.ensures.plan
    (at_feasible c.args.graph c.args.datapath.now c.args.places.now c.requires.datapath c.requires.sound)

pub returns-clause-routed : goal.returns-clause-routed
returns-clause-routed c =
    if_planned c.planned_at.result c.planned_at.ensures.plan
    (at_routed c.args.graph c.args.datapath.now c.args.places.now c.requires.datapath c.requires.sound)

pub returns-clause-narrow : goal.returns-clause-narrow
returns-clause-narrow c =
    if_planned c.planned_at.result c.planned_at.ensures.plan
    (at_narrow c.args.graph c.args.datapath.now c.args.places.now c.requires.datapath c.requires.sound)

pub returns-clause-given : goal.returns-clause-given
returns-clause-given c =
    if_planned c.planned_at.result c.planned_at.ensures.plan
    (at_given c.args.graph c.args.datapath.now c.args.places.now c.requires.datapath c.requires.sound)

pub returns-clause-ordinary : goal.returns-clause-ordinary
returns-clause-ordinary c =
    λ p is given.
    c.planned_at.ensures.found p (ordinary c.args.graph c.args.datapath.now c.args.places.now p is given)
