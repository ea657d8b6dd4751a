use Rattle.std.proofs.Common.{ℕ, length}
use Rattle.plan_core.specs.Arcs.{arc_of}
use Rattle.bucket_sort.specs.Linked.{AreLinked}
use Rattle.microcode_asm.proofs.lifetimes.lifetimes_of.Given as goal

abbrev pub invariant-loop-k : goal.invariant-loop-k
invariant-loop-k l = record {
  kept : AreLinked (λ (j : ℕ). (arc_of l.arcs j).node) l.nodes (length l.arcs) l.k l.kept;
  written : AreLinked (λ (j : ℕ). (arc_of l.arcs j).w) l.period (length l.arcs) l.k l.written;
}
