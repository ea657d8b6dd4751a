use Rattle.std.proofs.Common.{◌≡◌, ◌++◌, drop}
use Rattle.loop_expand.specs.Private.Elements.{view_elems, first_elements}
use Rattle.loop_expand.proofs.elements.first_elements.Given as goal

abbrev pub invariant-loop-k : goal.invariant-loop-k
invariant-loop-k l =
    view_elems l.elems.items ++ first_elements l.inputs l.k (drop l.k l.types) ≡ first_elements l.inputs 0 l.types
