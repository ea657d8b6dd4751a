-- The first delay-free loop of a program is that of its flat program.
use Rattle.std.proofs.Common.{◌≡◌, sym, subst, ◌∙◌, ap, ap₂, arith, ℕ, ◌<◌, List, length}
use Rattle.silage_syntax.specs.Tree.{Program}
use Rattle.silage_meaning.specs.Instances.{IsElement}
use Rattle.silage_meaning.specs.Rules.{HasNoDelaylessLoop}
use Rattle.element_rules.specs.declared.elements.Element.{Element as Entry}
use Rattle.element_rules.specs.declared.elements.Elements.{Elements}
use Rattle.element_rules.specs.declared.elements.Instance.{Instance}
use Rattle.element_rules.specs.Expansion.{elements_in, IsExpansion}
use Rattle.signal_graph.specs.Flat as flat
use Rattle.loop_expand.specs.Checked.{IsChecked}
use Rattle.element_rules.specs.Numbers.{IsNumberOf}
use Rattle.loop_expand.specs.FlatOf.{IsFlatOf}
use Rattle.loop_expand.proofs.Expanded.{numbering}
use Rattle.loop_expand.proofs.Numbers.{stands, below, element_once}
use Rattle.element_rules.proofs.OnceTables.{distinct_numbers}
use Rattle.flow_graph.specs.Loops as graph
use Rattle.source_faults.specs.Loops.{IsInLoop, IsFirstLoop}
use Rattle.loop_expand.proofs.FlatLoops.{depends_back, depends_on}

-- a program has one expansion
pub one_expansion : (p : Program) (a b : Elements) → IsExpansion p a → IsExpansion p b → a ≡ b
one_expansion p a b h k =
    let instances : a.instances ≡ b.instances = h.instances ∙ sym k.instances in
    let elements : a.elements ≡ b.elements =
    h.elements ∙ ap (λ (is : List Instance). elements_in p 0 is) instances ∙ sym k.elements in
    ap₂ (λ (is : List Instance) (xs : List Entry). let all : Elements = record { instances = is; elements = xs } in all)
    instances elements

-- where there is no delay-free loop, no element is in one
pub none_in_loop : (p : Program) → IsChecked p → HasNoDelaylessLoop p → (k : ℕ) → IsInLoop p k → ⊥
none_in_loop p checked none k loop =
    let numbered = numbering p checked loop.elements loop.expansion in
    let s = stands p loop.elements numbered k (below p loop.elements numbered k loop.element loop.number) in
    let same : s.of ≡ loop.element = element_once loop.elements k s.of loop.element s.number loop.number in
    none loop.element (subst (IsElement p) same s.is) loop.loops

module _ (p : Program) (checked : IsChecked p) (es : Elements) (made : IsExpansion p es) where
  in_expansion : (k : ℕ) (loop : IsInLoop p k) → IsNumberOf es k loop.element
  in_expansion k loop =
      subst (λ (x : Elements). IsNumberOf x k loop.element) (one_expansion p loop.elements es loop.expansion made)
      loop.number

  module _ (f : flat.Program) (flat_of : IsFlatOf p es f) where
    pub first_loop : (e : ℕ) → graph.IsFirstLoop f e → IsFirstLoop p e
    first_loop e h =
        let numbered = numbering p checked es made in
        let distinct = distinct_numbers p checked.names checked.positions es made in
        let s = stands p es numbered e (let less = h.element in let count = flat_of.count in omega arith) in
        record {
          loop = record {
            elements = es;
            expansion = made;
            element = s.of;
            number = s.number;
            loops = depends_back p checked es numbered distinct f flat_of e e h.loops s.of s.of s.number s.number;
          };
          first = λ l loop.
              let number = in_expansion l loop in
              let less : l < length f.elems =
              let all = below p es numbered l loop.element number in let count = flat_of.count in omega arith in
              h.first l less
              (depends_on p checked es numbered distinct f flat_of loop.element loop.element loop.loops l l number
              number);
        }
