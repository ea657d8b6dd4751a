use Rattle.silc_show.proofs.Planned.{lifetimes_allottable}
use Rattle.silc_show.proofs.plans.turn.Goals as goal

pub registers-requires-clause-arcs : goal.registers-requires-clause-arcs
registers-requires-clause-arcs c = lifetimes_allottable c.args.path.now c.args.plan.now c.requires.path c.requires.plan
