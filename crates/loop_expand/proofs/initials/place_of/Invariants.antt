use Rattle.std.proofs.Common.{◌≡◌, ◌++◌, ℤ, take, drop}
use Rattle.loop_expand.specs.Private.Elements.{inserted}
use Rattle.loop_expand.proofs.initials.place_of.Given as goal

abbrev pub invariant-loop-k : goal.invariant-loop-k
invariant-loop-k l =
    (word : ℤ) → inserted l.sample word l.inits ≡ take l.k l.inits ++ inserted l.sample word (drop l.k l.inits)
