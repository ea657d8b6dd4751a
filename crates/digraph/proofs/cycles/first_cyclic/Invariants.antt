use Rattle.std.proofs.Common.{ℕ, ◌<◌}
use Rattle.digraph.specs.Arcs.{Reaches}
use Rattle.digraph.specs.Arcs.{HasArc}
use Rattle.digraph.proofs.cycles.first_cyclic.Given as goal

abbrev pub invariant-loop-vertex : goal.invariant-loop-vertex
invariant-loop-vertex l = (k : ℕ) → k < l.vertex → ¬ Reaches (HasArc l.arcs) k k
