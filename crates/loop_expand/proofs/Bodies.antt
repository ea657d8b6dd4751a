-- What defines an element gives the value of its body, where the elements have the same words.
use Rattle.std.proofs.Common.{◌≡◌, refl, sym, subst, ◌∙◌, ap, arith, ℕ, ◌<◌, List, [], length, slice_get}
use Rattle.std.proofs.Common.{slice_index_or, Some, ℤ}
use Rattle.std.specs.Prelude.{pos, ◌-ℤ◌}
use Rattle.std.proofs.lemmas.Int.{ints}
use Rattle.std.proofs.lemmas.Option.{slice_get_within, slice_get-get_or}
use Rattle.lists.proofs.Places.{contains_at}
use Rattle.lists.specs.Rows.{Rows}
use Rattle.fix_word.specs.declared.types.SigType.{SigType}
use Rattle.silage_syntax.specs.Tree.{Expr, equation, call, function, Program}
use Rattle.silage_meaning.specs.Instances.{Element, Site, inputs}
use Rattle.silage_meaning.specs.Value.{Words, IsValue}
use Rattle.silage_meaning.specs.Solves.{Source, same, number, IsDefined, input, equated, argument, array, table, result}
use Rattle.silage_meaning.specs.Solves.{array_result, Gives, IsStream}
use Rattle.silage_meaning.proofs.InputRows.{row_length}
use Rattle.silage_meaning.specs.Types.{HasShapeOf}
use Rattle.element_rules.specs.declared.elements.Elements.{Elements}
use Rattle.type_rules.specs.Boundary.{IsExpression, right_side, argument as an_argument, KeepsValues}
use Rattle.type_rules.specs.Translation.{typed_expr}
use Rattle.type_rules.proofs.Kept.{keeps_values}
use Rattle.signal_graph.specs.Flat as flat
use Rattle.signal_graph.specs.FlatRules.{IsExpr}
use Rattle.signal_graph.specs.Values as flat_words
use Rattle.signal_graph.specs.Values.{value_of, body_value}
use Rattle.loop_expand.specs.Checked.{IsChecked}
use Rattle.element_rules.specs.Numbers.{IsNumberOf}
use Rattle.loop_expand.specs.FlatOf.{IsBodyOf, IsFlatExpr}
use Rattle.loop_expand.specs.Kept.{HaveSameWords}
use Rattle.loop_expand.proofs.Items.{has_item, instance_top, all_pass}
use Rattle.loop_expand.proofs.Shapes.{declared_type, source_fits, table_entry}
use Rattle.loop_expand.proofs.FlatSound.{IsSoundBody}
use Rattle.loop_expand.proofs.FlatValues.{sample_ago, expr_given}

-- there is a row at each sample, with a word for each input
record HasWord (stream : Rows) (n j : ℕ) : Type 0 where
  row : List ℤ
  there : slice_get stream n ≡ Some row
  has : slice_get row j ≡ Some (flat_words.input_word stream n j)

word_there : (p : Program) (stream : Rows) (n j : ℕ)
    → IsStream p stream
    → n < length stream
    → j < length (inputs p)
    → HasWord stream n j
word_there p stream n j rows inside below =
    let row : List ℤ = slice_index_or stream n [] in
    let there : slice_get stream n ≡ Some row = slice_get-get_or stream n [] inside in
    let long = row_length p row (rows n [] inside) in
    record { row = row; there = there; has = slice_get-get_or row j (pos 0) (omega (arith, long)) }

module _ (p : Program) (checked : IsChecked p) (es : Elements) (stream : Rows) (rows : IsStream p stream)
    (f : flat.Program) where
  keeps : KeepsValues p
  keeps = keeps_values p checked.names checked.numbers (all_pass p checked.names checked.types)

  module _ (words : Words) (numbered : flat_words.Words) (agree : HaveSameWords es stream words numbered) (n : ℕ)
      (inside : n < length stream) where
    -- an expression of the program
    value_given : (s : Site) (x : Expr) (ty : SigType) (y : flat.Expr)
        → (k : ℕ)
        → slice_get p.tops k ≡ Some (function s.function)
        → IsExpression p s.function x ty
        → IsFlatExpr p es s (typed_expr p s.function x ty) y
        → IsExpr f y
        → IsValue p s words n x ty (value_of numbered n y)
    value_given s x ty y k top expression is sound =
        (keeps s.function x ty (contains_at p.tops k (function s.function) top) expression s words n
        (value_of numbered n y) refl).1
        (expr_given p es stream words numbered agree n inside s f (typed_expr p s.function x ty) y is sound)

    now : (k : ℕ) (e : Element) → IsNumberOf es k e → numbered k (pos n -ℤ pos 0) ≡ words e (pos n)
    now k e is =
        let at : pos n -ℤ pos 0 ≡ pos n = omega (arith, ints) in
        agree k e (pos n -ℤ pos 0) is (sample_ago (length stream) n 0 inside (omega arith)) ∙ ap (words e) at

    same_given : (e : Element) (theirs ours : SigType) (body : flat.Body)
        → HasShapeOf theirs ours
        → IsBodyOf p es (same e theirs ours) body
        → Gives p stream words n (same e theirs ours) (body_value stream numbered n body)
    same_given e theirs ours body shape (k, is, b) =
        (shape, subst (λ (z : flat.Body). body_value stream numbered n z ≡ words e (pos n)) (sym b) (now k e is))

    pub source_given : (e : Element) (source : Source) (body : flat.Body)
        → IsDefined p e source
        → IsBodyOf p es source body
        → IsSoundBody f body
        → Gives p stream words n source (body_value stream numbered n body)
    source_given e _ body (input {j = j} at) is sound =
        let w = word_there p stream n j rows inside (slice_get_within (inputs p) j e at) in
        (w.row, w.there, w.has ∙ ap (λ (z : flat.Body). Some (body_value stream numbered n z)) (sym is))
    source_given e _ body (equated {s = s} {x = x} place d k decl found signal at) (y, is, b) sound =
        let top = instance_top p checked.names s.instance s.function found.instance in
        subst (λ (z : flat.Body). IsValue p s words n x decl.ty (body_value stream numbered n z)) (sym b)
        (value_given s x decl.ty y top.position top.there
        (right_side place (has_item s.function.items [] (equation place x) s.indices found.occurs)
        (declared_type p s.function place.name d decl signal.named)) is
        (subst (λ (z : flat.Body). IsSoundBody f z) b sound))
    source_given e _ body (argument {s = s} {x = x} c d decl arg scalar at) (y, is, b) sound =
        let top = instance_top p checked.names s.instance s.function c.found.instance in
        subst (λ (z : flat.Body). IsValue p s words n x decl.ty (body_value stream numbered n z)) (sym b)
        (value_given s x decl.ty y top.position top.there
        (an_argument c.places c.name c.args c.at c.callee d decl
        (has_item s.function.items [] (call c.places c.name c.args c.at) s.indices c.found.occurs) c.named
        arg.parameter arg.argument) is (subst (λ (z : flat.Body). IsSoundBody f z) b sound))
    source_given e _ body (array s c d m k decl theirs place arg arr below at) is sound =
        same_given _ theirs.ty decl.ty body
        (source_fits p checked.names checked.types e _ (array s c d m k decl theirs place arg arr below at)) is
    source_given e _ body (table {t = t} {k = k} s c d decl place arg tab below at) (v, is, b) sound =
        subst (λ (z : flat.Body). Gives p stream words n (number t k decl.ty) (body_value stream numbered n z)) (sym b)
        (table_entry p checked.names checked.types place.name t k decl.ty v tab.named
        (source_fits p checked.names checked.types e _ (table s c d decl place arg tab below at)) is)
    source_given e _ body (result s c r d k theirs decl place res scalar signal at) is sound =
        same_given _ theirs.ty decl.ty body
        (source_fits p checked.names checked.types e _ (result s c r d k theirs decl place res scalar signal at)) is
    source_given e _ body (array_result s c r d k theirs decl place res arr below at) is sound =
        same_given _ theirs.ty decl.ty body
        (source_fits p checked.names checked.types e _ (array_result s c r d k theirs decl place res arr below at)) is
