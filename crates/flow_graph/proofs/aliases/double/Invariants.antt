use Rattle.std.proofs.Common.{ℕ}
use Rattle.signal_graph.specs.Flat.{Program}
use Rattle.flow_graph.specs.Private.Aliases.{IsInside, Jumps}
use Rattle.flow_graph.proofs.AliasSteps.{DoubledTo}
use Rattle.flow_graph.proofs.aliases.double.Given as goal

abbrev pub invariant-loop-elem : goal.invariant-loop-elem
invariant-loop-elem l = record {
  inside : IsInside l.leads;
  doubled : (p : Program)
      → (height : ℕ → ℕ)
      → (far : ℕ)
      → Jumps p height far l.fn.leads
      → DoubledTo p height far l.elem l.leads;
}
