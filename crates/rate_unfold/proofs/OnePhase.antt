-- One sample in a frame: the unfolded program is the program.
use Rattle.std.proofs.Common.{◌≡◌, ℕ, zero, suc, ◌+◌, ◌-◌, ◌*◌, ◌/◌, ◌%◌, List, [], ◌∷◌, ◌++◌, length, map}
use Rattle.std.proofs.Common.{refl, sym, ap, ap₂, ◌∙◌, arith, append-nil, true, ◌==◌}
use Rattle.std.specs.Prelude.{ℤ, slice_index_or}
use Rattle.std.specs.List.{range_with_len}
use Rattle.std.proofs.lemmas.List.{map-append}
use Rattle.std.proofs.lemmas.List.FromFn.{fill_by_all}
use Rattle.std.proofs.lemmas.Nat.{div-mul-add, mod-mul-add}
use Rattle.lists.proofs.Ranges.{range_more}
use Rattle.fix_word.specs.declared.types.SigType.{SigType}
use Rattle.fix_word.specs.declared.types.SigType.TheVariants as sig
use Rattle.signal_graph.specs.Flat.{Expr, raw, read, calculation, Parts, no_part, part, Body, word, value, Element}
use Rattle.signal_graph.specs.Flat.{Program}
use Rattle.rate_unfold.specs.Frames.{Rates, place, frame}
use Rattle.rate_unfold.specs.Unfolded.{in_phase, inits_in_phase}
use Rattle.rate_unfold.specs.Private.Unfolding.{expr_in_phase, parts_in_phase, body_in_phase, element_in_phase}
use Rattle.rate_unfold.specs.Private.Unfolding.{unfolded}
use Rattle.rate_unfold.specs.Private.Unfolding.{elements_in_phase, frames_before, phase_before}
use Rattle.rate_unfold.proofs.FrameRows.{place_more, frame_more}

abbrev pub one_phase : Rates
one_phase = record { phases = 1; down = []; up = [] }

by_one : (k : ℕ) → (k / 1 ≡ k) × (k % 1 ≡ 0)
by_one k =
    let e : k ≡ k * 1 + 0 = omega arith in (
      ap (λ (n : ℕ). n / 1) e ∙ div-mul-add k 1 0 (omega arith),
      ap (λ (n : ℕ). n % 1) e ∙ mod-mul-add k 1 0 (omega arith),
    )

no_frames : (k : ℕ) → frames_before 1 0 k ≡ k
no_frames k = ap (λ (n : ℕ). n / 1) (let e : k - 0 + (1 - 1) ≡ k = omega arith in e) ∙ (by_one k).0

no_phase : (k : ℕ) → phase_before 1 0 k ≡ 0
no_phase k = ap (λ (d : ℕ). 0 + d * 1 - k) (no_frames k) ∙ omega arith

module _ (elements : ℕ) where
  mutual
    same_expr : (x : Expr) → expr_in_phase 1 elements 0 x ≡ x
    same_expr (raw w) = refl
    same_expr (read e k) =
        ap₂ (λ (c d : ℕ). read c d) (ap (λ (q : ℕ). in_phase elements q e) (no_phase k) ∙ omega arith) (no_frames k)
    same_expr (calculation o fmt parts) = ap (calculation o fmt) (same_parts parts)

    same_parts : (parts : Parts) → parts_in_phase 1 elements 0 parts ≡ parts
    same_parts no_part = refl
    same_parts (part x rest) = ap₂ part (same_expr x) (same_parts rest)

same_place : (i : ℕ) → place 1 [] i ≡ i
same_place zero = refl
same_place (suc i) =
    let e : suc i ≡ i + 1 = omega arith in
    ap (place 1 []) e ∙ place_more 1 [] i ∙ ap (λ (n : ℕ). n + 1) (same_place i) ∙ omega arith

same_inits : (l : List (ℕ × ℤ)) → inits_in_phase 1 0 l ≡ l
same_inits [] = refl
same_inits ((k, w) ∷ l) =
    let zero_k : 0 + k ≡ k = omega arith in
    let test : ((0 + k) % 1 == 0) ≡ true = ap (λ (n : ℕ). n == 0) (ap (λ (n : ℕ). n % 1) zero_k ∙ (by_one k).1) in
    rw test (ap₂ (λ (n : ℕ) (rest : List (ℕ × ℤ)). (n, w) ∷ rest)
    (ap (λ (n : ℕ). n / 1) zero_k ∙ (by_one k).0) (same_inits l))

same_body : (elements : ℕ) (body : Body) → body_in_phase one_phase elements 0 body ≡ body
same_body elements (word i) = ap word (let e = same_place i in omega (arith, e))
same_body elements (value x) = ap value (same_expr elements x)

same_element : (elements : ℕ) (e : Element) → element_in_phase one_phase elements 0 e ≡ e
same_element elements e =
    ap₂ (λ (b : Body) (i : List (ℕ × ℤ)). record { ty = e.ty; body = b; inits = i }) (same_body elements e.body)
    (same_inits e.inits)

same_elements : (elements : ℕ) (xs : List Element) → map (element_in_phase one_phase elements 0) xs ≡ xs
same_elements elements [] = refl
same_elements elements (x ∷ xs) =
    ap₂ (λ (y : Element) (ys : List Element). y ∷ ys) (same_element elements x) (same_elements elements xs)

one_frame : {A : Type 0} (at : (i j : ℕ) → A) (count : ℕ)
    → frame 1 [] count at ≡ map (λ i. at i 0) (range_with_len 0 count)
one_frame at zero = refl
one_frame {A} at (suc count) =
    let e : suc count ≡ count + 1 = omega arith in
    ap (λ (n : ℕ). frame 1 [] n at) e ∙ frame_more 1 [] at count
    ∙ ap (λ (xs : List A). xs ++ at count 0 ∷ []) (one_frame at count)
    ∙ sym (ap (λ (n : ℕ). map (λ i. at i 0) (range_with_len 0 n)) e ∙ ap (map (λ i. at i 0)) (range_more 0 count)
    ∙ map-append (λ i. at i 0) (range_with_len 0 count) ((0 + count) ∷ [])
    ∙ ap (λ (k : ℕ). map (λ i. at i 0) (range_with_len 0 count) ++ at k 0 ∷ []) (omega arith))

pub same_program : (p : Program) → unfolded one_phase p ≡ p
same_program p =
    rw (append-nil (elements_in_phase one_phase p.elems 0) ∙ same_elements (length p.elems) p.elems)
    (ap₂ (λ (inputs : List SigType) (outs : List ℕ). record { elems = p.elems; inputs = inputs; outs = outs }) inputs
    outs)
  where
    inputs : frame 1 [] (length p.inputs) (λ i j. slice_index_or p.inputs i sig.Bool) ≡ p.inputs
    inputs =
        one_frame (λ i j. slice_index_or p.inputs i sig.Bool) (length p.inputs)
        ∙ sym (fill_by_all (λ i. slice_index_or p.inputs i sig.Bool) p.inputs (length p.inputs) sig.Bool refl
        (λ k less. refl))

    outs : frame 1 [] (length p.outs) (λ i j. in_phase (length p.elems) j (slice_index_or p.outs i 0)) ≡ p.outs
    outs =
        one_frame (λ i j. in_phase (length p.elems) j (slice_index_or p.outs i 0)) (length p.outs)
        ∙ sym (fill_by_all (λ i. in_phase (length p.elems) 0 (slice_index_or p.outs i 0)) p.outs (length p.outs) 0 refl
        (λ k less. omega arith))

pub one_rates : (r : Rates) → r.phases ≡ 1 → r.down ≡ [] → r.up ≡ [] → r ≡ one_phase
one_rates r phases down up =
    ap (λ (m : ℕ). let is : Rates = record { phases = m; down = r.down; up = r.up } in is) phases
    ∙ ap (λ (slow : List ℕ). let is : Rates = record { phases = 1; down = slow; up = r.up } in is) down
    ∙ ap (λ (slow : List ℕ). let is : Rates = record { phases = 1; down = []; up = slow } in is) up
