use Rattle.std.proofs.Common.{◌≡◌, ◌-◌, length, drop}
use Rattle.equation_eval.specs.Private.Rings.{HoldsWordsBefore, SameOutside}
use Rattle.equation_eval.proofs.layout.put_initials.Given as goal

abbrev pub invariant-loop-k : goal.invariant-loop-k
invariant-loop-k l = record {
  len : length l.memory ≡ length l.fn.memory;
  initials : HoldsWordsBefore (drop (length l.inits - l.k) l.inits) l.ring l.memory;
  others : SameOutside l.ring l.fn.memory l.memory;
}
