use Rattle.std.proofs.Common.{ℕ, ◌<◌, [], ◌∷◌}
use Rattle.std.specs.Prelude.{slice_index_or}
use Rattle.operations.specs.declared.units.PortRef.{PortRef}
use Rattle.placed_plan.specs.Private.Placing.{Fits}
use Rattle.placed_plan.proofs.obstacles.check_ports.Given as goal

abbrev pub invariant-loop-port : goal.invariant-loop-port
invariant-loop-port l =
    (j : ℕ) (p : PortRef)
    → j < l.port-index
    → Fits l.problem.datapath.now l.problem.assigned.now l.placing l.v l.cycle (slice_index_or l.ports j p ∷ [])
