-- There is one unfolded program.
use Rattle.std.proofs.Common.{◌≡◌, ℕ, ◌/◌, ◌%◌, ◌<◌, ◌≤◌, List, length, refl, sym, ap, ap₂, ◌∙◌, subst}
use Rattle.std.specs.Prelude.{ℤ}
use Rattle.std.proofs.lemmas.List.FromFn.{fill_by_all}
use Rattle.fix_word.specs.declared.types.SigType.{SigType}
use Rattle.signal_graph.specs.Flat.{Expr, raw, read, calculation, Parts, no_part, part, Body, word, value, Element}
use Rattle.signal_graph.specs.Flat.{Program}
use Rattle.signal_graph.specs.FlatRules.{IsFlat}
use Rattle.signal_graph.specs.FlatSolves.{no_element, element_of}
use Rattle.rate_unfold.specs.Frames.{Rates}
use Rattle.rate_unfold.specs.Unfolded.{in_phase, IsExprInPhase, ArePartsInPhase, IsBodyInPhase, IsElementInPhase}
use Rattle.rate_unfold.specs.Unfolded.{IsUnfolded}
use Rattle.rate_unfold.specs.Private.Unfolding.{expr_in_phase, parts_in_phase, body_in_phase, element_in_phase}
use Rattle.rate_unfold.specs.Private.Unfolding.{unfolded}
use Rattle.rate_unfold.specs.Private.Unfolding.{frames_before, phase_before}
use Rattle.rate_unfold.proofs.Samples.{is_before, one_before}
use Rattle.rate_unfold.proofs.UnfoldedElements.{length_unfolded, element_at}
use Rattle.rate_unfold.proofs.UnfoldedSolves.{its_place, phase_below}

module _ (m elements j : ℕ) (inside : j < m) where
  mutual
    expr_one : (x y : Expr) → IsExprInPhase m elements j x y → y ≡ expr_in_phase m elements j x
    expr_one (raw w) (raw v) is = ap raw is
    expr_one (raw w) (read c d) is = absurd is
    expr_one (raw w) (calculation q form others) is = absurd is
    expr_one (read e k) (raw v) is = absurd is
    expr_one (read e k) (read c d) is =
        let same = one_before m j k is.0 d (phase_before m j k) (frames_before m j k) is.1 (is_before m j k inside) in
        ap₂ read (is.2 ∙ ap (λ (q : ℕ). in_phase elements q e) same.0) same.1
    expr_one (read e k) (calculation q form others) is = absurd is
    expr_one (calculation o fmt parts) (raw v) is = absurd is
    expr_one (calculation o fmt parts) (read c d) is = absurd is
    expr_one (calculation o fmt parts) (calculation q form others) is =
        ap (λ s. calculation s form others) is.0
        ∙ ap (λ s. calculation o s others) is.1
        ∙ ap (calculation o fmt) (parts_one parts others is.2)

    parts_one : (xs ys : Parts) → ArePartsInPhase m elements j xs ys → ys ≡ parts_in_phase m elements j xs
    parts_one no_part no_part are = refl
    parts_one no_part (part y others) are = absurd are
    parts_one (part x rest) no_part are = absurd are
    parts_one (part x rest) (part y others) are = ap₂ part (expr_one x y are.0) (parts_one rest others are.1)

body_one : (r : Rates) (elements j : ℕ)
    → j < r.phases
    → (x y : Body)
    → IsBodyInPhase r elements j x y
    → y ≡ body_in_phase r elements j x
body_one r elements j inside (word i) y is = is
body_one r elements j inside (value x) (word i) is = absurd is
body_one r elements j inside (value x) (value y) is = ap value (expr_one r.phases elements j inside x y is)

element_one : (r : Rates) (elements j : ℕ)
    → j < r.phases
    → (e x : Element)
    → IsElementInPhase r elements j e x
    → x ≡ element_in_phase r elements j e
element_one r elements j inside e x is =
    let made : SigType → Body → List (ℕ × ℤ) → Element = λ ty body inits.
    record { ty = ty; body = body; inits = inits } in
    ap (λ (ty : SigType). made ty x.body x.inits) is.ty
    ∙ ap (λ (body : Body). made e.ty body x.inits) (body_one r elements j inside e.body x.body is.body)
    ∙ ap (made e.ty (body_in_phase r elements j e.body)) is.inits

module _ (r : Rates) (p : Program) (sound : IsFlat p) (some : 1 ≤ r.phases) (g : Program) (is : IsUnfolded r p g) where
  abbrev size : ℕ
  size = length p.elems

  same_at : (c : ℕ) → c < length (unfolded r p).elems → element_of g c ≡ element_of (unfolded r p) c
  same_at c el =
      let at = its_place r p sound some c el in
      let inside = phase_below r p sound some c el in
      subst (λ (k : ℕ). element_of g k ≡ element_of (unfolded r p) k) (sym at.same)
      (element_one r size (c / size) inside (element_of p (c % size))
      (element_of g (in_phase size (c / size) (c % size))) (is.elements (c / size) (c % size) inside at.inside)
      ∙ sym (element_at r p (c / size) (c % size) inside at.inside))

  same_elements : g.elems ≡ (unfolded r p).elems
  same_elements =
      fill_by_all (element_of (unfolded r p)) g.elems (length (unfolded r p).elems) no_element
      (is.count ∙ sym (length_unfolded r p)) same_at
      ∙ sym (fill_by_all (element_of (unfolded r p)) (unfolded r p).elems (length (unfolded r p).elems) no_element refl
      (λ c el. refl))

  pub one_unfolded : g ≡ unfolded r p
  one_unfolded =
      let made : List Element → List SigType → List ℕ → Program = λ elems inputs outs.
      record { elems = elems; inputs = inputs; outs = outs } in
      ap (λ (elems : List Element). made elems g.inputs g.outs) same_elements
      ∙ ap (λ (inputs : List SigType). made (unfolded r p).elems inputs g.outs) is.inputs
      ∙ ap (made (unfolded r p).elems (unfolded r p).inputs) is.outs
