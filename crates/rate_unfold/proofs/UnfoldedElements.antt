-- The elements of the unfolded program.
use Rattle.std.proofs.Common.{◌≡◌, ℕ, zero, suc, ◌*◌, ◌<◌, List, [], ◌∷◌, length, get_or, map, refl, ap, ◌∙◌}
use Rattle.std.proofs.Common.{arith}
use Rattle.std.proofs.lemmas.List.{length-map}
use Rattle.std.specs.List.{range_with_len}
use Rattle.std.proofs.lemmas.List.FromFn.{length-range_with_len, get_or-range_with_len}
use Rattle.signal_graph.specs.Flat.{Expr, raw, read, calculation, Parts, no_part, part, Body, word, value, Element}
use Rattle.signal_graph.specs.Flat.{Program}
use Rattle.signal_graph.specs.FlatSolves.{no_element, element_of}
use Rattle.rate_unfold.specs.Frames.{Rates}
use Rattle.rate_unfold.specs.Unfolded.{in_phase, IsExprInPhase, ArePartsInPhase, IsBodyInPhase, IsElementInPhase}
use Rattle.rate_unfold.specs.Unfolded.{IsUnfolded}
use Rattle.rate_unfold.specs.Private.Unfolding.{expr_in_phase, parts_in_phase, body_in_phase, element_in_phase}
use Rattle.rate_unfold.specs.Private.Unfolding.{unfolded}
use Rattle.rate_unfold.specs.Private.Unfolding.{elements_in_phase, phase_before}
use Rattle.rate_unfold.proofs.Blocks.{length_blocks, block_at}
use Rattle.rate_unfold.proofs.Samples.{is_before}

module _ (r : Rates) (p : Program) where
  abbrev size : ℕ
  size = length p.elems

  pieces : (j : ℕ) → length (elements_in_phase r p.elems j) ≡ size
  pieces j = length-map p.elems (element_in_phase r size j)

  pub length_unfolded : length (unfolded r p).elems ≡ r.phases * length p.elems
  length_unfolded =
      length_blocks (elements_in_phase r p.elems) size pieces (range_with_len 0 r.phases)
      ∙ ap (λ (n : ℕ). n * size) (length-range_with_len 0 r.phases)

  pub element_at : (j e : ℕ)
      → j < r.phases
      → e < length p.elems
      → element_of (unfolded r p) (in_phase (length p.elems) j e)
      ≡ element_in_phase r (length p.elems) j (element_of p e)
  element_at j e inside there =
      block_at (elements_in_phase r p.elems) size pieces (range_with_len 0 r.phases) j e 0 no_element
      (rw (length-range_with_len 0 r.phases) inside) there
      ∙ ap (λ (k : ℕ). get_or (elements_in_phase r p.elems k) e no_element)
      (get_or-range_with_len 0 r.phases j 0 inside ∙ omega arith)
      ∙ got p.elems e there
    where
      got : (xs : List Element) (i : ℕ)
          → i < length xs
          → get_or (map (element_in_phase r size j) xs) i no_element
          ≡ element_in_phase r size j (get_or xs i no_element)
      got [] i less = absurd (omega arith)
      got (x ∷ xs) zero less = refl
      got (x ∷ xs) (suc i) less = got xs i (omega arith)

module _ (m elements j : ℕ) (inside : j < m) where
  mutual
    expr_is : (x : Expr) → IsExprInPhase m elements j x (expr_in_phase m elements j x)
    expr_is (raw w) = refl
    expr_is (read e k) = (phase_before m j k, is_before m j k inside, refl)
    expr_is (calculation o fmt parts) = (refl, refl, parts_are parts)

    parts_are : (parts : Parts) → ArePartsInPhase m elements j parts (parts_in_phase m elements j parts)
    parts_are no_part = tt
    parts_are (part x rest) = (expr_is x, parts_are rest)

body_is : (r : Rates) (elements j : ℕ)
    → j < r.phases
    → (body : Body)
    → IsBodyInPhase r elements j body (body_in_phase r elements j body)
body_is r elements j inside (word i) = refl
body_is r elements j inside (value x) = expr_is r.phases elements j inside x

element_is : (r : Rates) (elements j : ℕ)
    → j < r.phases
    → (e : Element)
    → IsElementInPhase r elements j e (element_in_phase r elements j e)
element_is r elements j inside e = record { ty = refl; body = body_is r elements j inside e.body; inits = refl }

pub is_unfolded : (r : Rates) (p : Program) → IsUnfolded r p (unfolded r p)
is_unfolded r p = record {
  inputs = refl;
  count = length_unfolded r p;
  elements = λ j e inside there.
      rw (element_at r p j e inside there) (element_is r (length p.elems) j inside (element_of p e));
  outs = refl;
}
