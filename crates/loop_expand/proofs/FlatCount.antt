-- A flat program has at most as many elements as the load of its program.
use Rattle.std.proofs.Common.{◌≤◌, length, arith}
use Rattle.silage_syntax.specs.Tree.{Program}
use Rattle.element_rules.specs.declared.elements.Elements.{Elements}
use Rattle.element_rules.specs.Expansion.{IsExpansion}
use Rattle.element_rules.proofs.LoadedElements.{few_elements}
use Rattle.signal_graph.specs.Flat as flat
use Rattle.loop_expand.specs.Checked.{IsChecked}
use Rattle.loop_expand.specs.FlatOf.{IsFlatOf}

pub element_count_is : (p : Program)
    → IsChecked p
    → (es : Elements)
    → IsExpansion p es
    → (f : flat.Program)
    → IsFlatOf p es f
    → length f.elems ≤ 8192
element_count_is p checked es made f flat_of =
    omega (arith, flat_of.count, few_elements p checked.names checked.elements es made)
