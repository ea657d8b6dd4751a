use Rattle.std.proofs.Common.{sym, subst}
use Rattle.signal_graph.specs.declared.graph.Graph.{Graph}
use Rattle.plan_core.specs.Lowered.{IsLoweredOver}
use Rattle.delay_memory.proofs.lowering.lower_over.Goals as goal

pub returns-clause-found : goal.returns-clause-found
returns-clause-found c l is =
    c.lower_to.ensures.found l
    (subst (λ (g : Graph). IsLoweredOver c.args.hold c.args.spare g c.args.datapath.now l)
    (sym c.in_ok-graph.ensures) is)
