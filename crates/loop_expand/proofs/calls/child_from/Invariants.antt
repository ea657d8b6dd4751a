use Rattle.std.proofs.Common.{◌≡◌, ◌<◌, ◌≤◌, ℕ, Some, false, slice_get}
use Rattle.silage_meaning.specs.Instances.{turns_of}
use Rattle.element_rules.specs.declared.elements.Instance.{Instance}
use Rattle.loop_expand.specs.Private.Children.{is_child}
use Rattle.loop_expand.proofs.calls.child_from.Given as goal

abbrev pub invariant-loop-k : goal.invariant-loop-k
invariant-loop-k l =
    (j : ℕ) (i : Instance)
    → l.from ≤ j
    → j < l.k
    → slice_get l.instances j ≡ Some i
    → is_child l.parent l.at (turns_of l.env) i ≡ false
