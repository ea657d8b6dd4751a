-- The unfolded program is sound.
use Rattle.std.proofs.Common.{◌≡◌, ℕ, zero, suc, ◌+◌, ◌*◌, ◌/◌, ◌%◌, ◌<◌, ◌≤◌, ◌^◌, List, [], ◌∷◌, length, map}
use Rattle.std.proofs.Common.{refl, sym, ap, ◌∙◌}
use Rattle.std.proofs.Common.{arith, subst, append-nil, ◌++◌, Bool, true, false, ◌&&◌, if◌then◌else◌, Some, ap₂}
use Rattle.std.specs.Prelude.{pos, All, IsSomeAnd, slice_get, slice_index_or, nat_lt, sum_by}
use Rattle.std.specs.List.{flat_map, range_with_len}
use Rattle.std.proofs.lemmas.Nat.{mul-le}
use Rattle.std.proofs.lemmas.Option.{slice_get_within, slice_get-get_or}
use Rattle.std.proofs.lemmas.List.Elements.{All-head, All-tail, All-from_get_or}
use Rattle.std.proofs.lemmas.List.Sums.{sum_by-cons, sum_by-append}
use Rattle.std.proofs.lemmas.List.Concat.{flat_map-append}
use Rattle.std.proofs.Math.Nat.{mul_comm, mul_assoc}
use Rattle.lists.proofs.Ranges.{range_more}
use Rattle.fix_word.specs.declared.types.SigType.{SigType}
use Rattle.fix_word.specs.declared.types.SigType.TheVariants as sig
use Rattle.signal_graph.specs.Operations.{Class, class_of, quantised, truth, choice}
use Rattle.signal_graph.specs.Rules.{IsWithin, IsType, IsInType, width_of}
use Rattle.signal_graph.specs.Flat.{Expr, raw, read, calculation, Parts, no_part, part, Body, word, value, Element}
use Rattle.signal_graph.specs.Flat.{Program, size_of_body, count}
use Rattle.signal_graph.specs.FlatRules.{IsFlat, IsExpr, AreExprs, IsBodyOf, IsElement, Fits, ChoicesFit, AllFit}
use Rattle.signal_graph.specs.FlatRules.{IsRead, GivesWidth}
use Rattle.signal_graph.specs.Expressions.{operation_count, operation_count_of_parts, operation_count_of_body}
use Rattle.signal_graph.proofs.Fits.{zero_word}
use Rattle.signal_graph.proofs.Sizes.{size_by_operations}
use Rattle.signal_graph.specs.FlatSolves.{no_element, element_of}
use Rattle.rate_unfold.specs.Frames.{Rates, is_slow, places_of, place, frame}
use Rattle.rate_unfold.specs.Unfolded.{in_phase, word_in_phase}
use Rattle.rate_unfold.specs.Faults.{HasNoFrameFault, operations_of, weight, max_weight}
use Rattle.rate_unfold.specs.Private.Unfolding.{expr_in_phase, parts_in_phase, body_in_phase, element_in_phase}
use Rattle.rate_unfold.specs.Private.Unfolding.{unfolded, elements_in_phase}
use Rattle.rate_unfold.specs.Private.Unfolding.{frames_before, phase_before}
use Rattle.rate_unfold.proofs.FrameRows.{length_frame, frame_at, all_of_frame, some_places, few_places, place_rises}
use Rattle.rate_unfold.proofs.FrameRows.{in_place}
use Rattle.rate_unfold.proofs.Samples.{is_before, few_frames, rows_together}
use Rattle.rate_unfold.proofs.InitsRise.{inits_sound}
use Rattle.rate_unfold.proofs.UnfoldedElements.{length_unfolded, element_at}
use Rattle.rate_unfold.proofs.UnfoldedSolves.{its_place, phase_below, in_unfolded}

module _ (r : Rates) (p : Program) (sound : IsFlat p) (some : 1 ≤ r.phases) where
  abbrev size : ℕ
  size = length p.elems

  module _ (j : ℕ) (inside : j < r.phases) where
    read_is : (e k : ℕ)
        → IsRead p e k
        → IsRead (unfolded r p) (in_phase size (phase_before r.phases j k) e) (frames_before r.phases j k)
    read_is e k is =
        let before = is_before r.phases j k inside in
        let few = few_frames r.phases j k (phase_before r.phases j k) (frames_before r.phases j k) inside before in
        record {
          element = in_unfolded r p sound some (phase_before r.phases j k) e before.phase is.element;
          delay = omega (arith, few, is.delay);
        }

    same_count : (parts : Parts) → count (parts_in_phase r.phases size j parts) ≡ count parts
    same_count no_part = refl
    same_count (part x rest) = ap (λ (n : ℕ). 1 + n) (same_count rest)

    mutual
      expr_sound : (x : Expr) → IsExpr p x → IsExpr (unfolded r p) (expr_in_phase r.phases size j x)
      expr_sound (raw w) is = is
      expr_sound (read e k) is = read_is e k is
      expr_sound (calculation o fmt parts) is = (
        record {
          calculation = is.0.calculation;
          parts = same_count parts ∙ is.0.parts;
          fmt = is.0.fmt;
        },
        parts_sound parts is.1,
      )

      parts_sound : (parts : Parts) → AreExprs p parts → AreExprs (unfolded r p) (parts_in_phase r.phases size j parts)
      parts_sound no_part are = tt
      parts_sound (part x rest) are = (expr_sound x are.0, parts_sound rest are.1)

    gives : (c : Class) (fmt : _) (A B : Type 0) (w : ℕ) → (A → B) → GivesWidth c fmt A w → GivesWidth c fmt B w
    gives quantised fmt A B w f is = is
    gives truth fmt A B w f is = is
    gives choice fmt A B w f is = (is.0, f is.1)
    gives _ fmt A B w f is = is

    read_fits : (e k w : ℕ)
        → IsRead p e k
        → IsSomeAnd (slice_get p.elems e) (λ (element : Element). width_of element.ty ≡ w)
        → IsSomeAnd (slice_get (unfolded r p).elems (in_phase size (phase_before r.phases j k) e))
        (λ (element : Element). width_of element.ty ≡ w)
    read_fits e k w is fits =
        let before = is_before r.phases j k inside in
        let there = in_unfolded r p sound some (phase_before r.phases j k) e before.phase is.element in
        let here : slice_get p.elems e ≡ Some (element_of p e) = slice_get-get_or p.elems e no_element is.element in
        let same = element_at r p (phase_before r.phases j k) e before.phase is.element in
        let at = slice_get-get_or (unfolded r p).elems (in_phase size (phase_before r.phases j k) e) no_element there in
        let is_w : width_of (element_of p e).ty ≡ w =
        subst (λ o. IsSomeAnd o (λ (element : Element). width_of element.ty ≡ w)) here fits in
        subst (λ o. IsSomeAnd o (λ (element : Element). width_of element.ty ≡ w)) (sym at)
        (ap (λ (x : Element). width_of x.ty) same ∙ is_w)

    mutual
      expr_fits : (x : Expr) (w : ℕ) → IsExpr p x → Fits p x w → Fits (unfolded r p) (expr_in_phase r.phases size j x) w
      expr_fits (raw v) w is fits = fits
      expr_fits (read e k) w is fits = read_fits e k w is fits
      expr_fits (calculation o fmt parts) w is fits =
          gives (class_of o) fmt (ChoicesFit p parts w)
          (ChoicesFit (unfolded r p) (parts_in_phase r.phases size j parts) w) w
          (choices_fit parts w is.1) fits

      choices_fit : (parts : Parts) (w : ℕ)
          → AreExprs p parts
          → ChoicesFit p parts w
          → ChoicesFit (unfolded r p) (parts_in_phase r.phases size j parts) w
      choices_fit no_part w are fit = tt
      choices_fit (part x rest) w are fit = all_fit rest w are.1 fit

      all_fit : (parts : Parts) (w : ℕ)
          → AreExprs p parts
          → AllFit p parts w
          → AllFit (unfolded r p) (parts_in_phase r.phases size j parts) w
      all_fit no_part w are fit = tt
      all_fit (part x rest) w are fit = (expr_fits x w are.0 fit.0, all_fit rest w are.1 fit.1)

    place_there : (i : ℕ) → (is_slow r.up i && nat_lt 0 j) ≡ false → j < places_of r.phases r.up i
    place_there i first = in_place r.phases j inside (is_slow r.up i) first

    word_there : (ty : SigType) (i : ℕ)
        → slice_get p.inputs i ≡ Some ty
        → (is_slow r.up i && nat_lt 0 j) ≡ false
        → slice_get (unfolded r p).inputs (place r.phases r.up i + j) ≡ Some ty
    word_there ty i is first =
        let at = λ (i j : ℕ). slice_index_or p.inputs i sig.Bool in
        let there : i < length p.inputs = slice_get_within p.inputs i ty is in
        let less = place_there i first in
        let behind = place_rises r.phases r.up i (length p.inputs) there in
        let many : place r.phases r.up i + j < length (unfolded r p).inputs =
        omega (arith, behind, less, length_frame r.phases r.up at (length p.inputs)) in
        slice_get-get_or (unfolded r p).inputs (place r.phases r.up i + j) sig.Bool many
        ∙ ap Some (frame_at r.phases r.up at (length p.inputs) i j sig.Bool there less)
        ∙ sym (slice_get-get_or p.inputs i sig.Bool there) ∙ is

    word_sound : (ty : SigType) (i : ℕ)
        → IsType ty
        → slice_get p.inputs i ≡ Some ty
        → IsBodyOf (unfolded r p) ty (word_in_phase r j i)
    word_sound ty i is_type is = by (is_slow r.up i && nat_lt 0 j) refl
      where
        by : (b : Bool)
            → (is_slow r.up i && nat_lt 0 j) ≡ b
            → IsBodyOf (unfolded r p) ty (if b then value (raw (pos 0)) else word (place r.phases r.up i + j))
        by true e = record { sound = zero_word 40; fits = zero_word (width_of ty) }
        by false e = word_there ty i is e

    body_sound : (ty : SigType) (body : Body)
        → IsType ty
        → IsBodyOf p ty body
        → IsBodyOf (unfolded r p) ty (body_in_phase r size j body)
    body_sound ty (word i) is_type is = word_sound ty i is_type is
    body_sound ty (value x) is_type is =
        record { sound = expr_sound x is.sound; fits = expr_fits x (width_of ty) is.sound is.fits }

    element_sound : (e : Element) → IsElement p e → IsElement (unfolded r p) (element_in_phase r size j e)
    element_sound e is = record {
      ty = is.ty;
      body = body_sound e.ty e.body is.ty is.body;
      inits = inits_sound r.phases j inside (IsInType e.ty) e.inits is.inits;
    }

    -- ---- sizes
    mutual
      same_operations : (x : Expr) → operation_count (expr_in_phase r.phases size j x) ≡ operation_count x
      same_operations (raw w) = refl
      same_operations (read e k) = refl
      same_operations (calculation o fmt parts) = ap (λ (n : ℕ). 1 + n) (same_in_parts parts)

      same_in_parts : (parts : Parts)
          → operation_count_of_parts (parts_in_phase r.phases size j parts) ≡ operation_count_of_parts parts
      same_in_parts no_part = refl
      same_in_parts (part x rest) = ap₂ (λ (a b : ℕ). a + b) (same_operations x) (same_in_parts rest)

    body_size : (ty : SigType) (body : Body)
        → IsBodyOf p ty body
        → size_of_body (body_in_phase r size j body) ≤ 3 * operation_count_of_body body + 1
    body_size ty (word i) is = by (is_slow r.up i && nat_lt 0 j)
      where
        by : (b : Bool)
            → size_of_body (if b then value (raw (pos 0)) else word (place r.phases r.up i + j)) ≤ 1
        by true = omega arith
        by false = omega arith
    body_size ty (value x) is =
        let small = size_by_operations (unfolded r p) (expr_in_phase r.phases size j x) (expr_sound x is.sound) in
        let same = same_operations x in
        omega (arith, small, same)

    phase_size : (xs : List Element)
        → All (IsElement p) xs
        → sum_by (λ (element : Element). size_of_body element.body) (map (element_in_phase r size j) xs)
        ≤ 3 * sum_by (λ (element : Element). operation_count_of_body element.body) xs + length xs
    phase_size [] all = omega arith
    phase_size (x ∷ xs) all =
        let first = body_size x.ty x.body (All-head (IsElement p) x xs all).body in
        let rest = phase_size xs (All-tail (IsElement p) x xs all) in
        let left = sum_by-cons (λ (element : Element). size_of_body element.body) (element_in_phase r size j x)
        (map (element_in_phase r size j) xs) in
        let right = sum_by-cons (λ (element : Element). operation_count_of_body element.body) x xs in
        omega (arith, first, rest, left, right)

  abbrev sizes : List Element → ℕ
  sizes xs = sum_by (λ (element : Element). size_of_body element.body) xs

  all_sizes : (n : ℕ)
      → n ≤ r.phases
      → sizes (flat_map (elements_in_phase r p.elems) (range_with_len 0 n)) ≤ n * (3 * operations_of p + size)
  all_sizes zero le = omega arith
  all_sizes (suc n) le =
      let e : suc n ≡ n + 1 = omega arith in
      let parts : flat_map (elements_in_phase r p.elems) (range_with_len 0 (suc n))
      ≡ flat_map (elements_in_phase r p.elems) (range_with_len 0 n) ++ elements_in_phase r p.elems n =
      ap (λ (k : ℕ). flat_map (elements_in_phase r p.elems) (range_with_len 0 k)) e
      ∙ ap (flat_map (elements_in_phase r p.elems)) (range_more 0 n)
      ∙ flat_map-append (elements_in_phase r p.elems) (range_with_len 0 n) ((0 + n) ∷ [])
      ∙ ap (λ (xs : List Element). flat_map (elements_in_phase r p.elems) (range_with_len 0 n) ++ xs)
      (append-nil (elements_in_phase r p.elems (0 + n)) ∙ ap (elements_in_phase r p.elems) (omega arith)) in
      let sum = ap sizes parts
      ∙ sum_by-append (λ (element : Element). size_of_body element.body)
      (flat_map (elements_in_phase r p.elems) (range_with_len 0 n)) (elements_in_phase r p.elems n) in
      let front = all_sizes n (omega arith) in
      let last = phase_size n (omega arith) p.elems sound.elements in
      let product : n * (3 * operations_of p + size) + 1 * (3 * operations_of p + size)
      ≡ (n + 1) * (3 * operations_of p + size) = rows_together n 1 (3 * operations_of p + size) in
      let whole : suc n * (3 * operations_of p + size) ≡ (n + 1) * (3 * operations_of p + size) =
      ap (λ (k : ℕ). k * (3 * operations_of p + size)) e in
      omega (arith, sum, front, last, product, whole)

  unfolded_size : weight r p ≤ max_weight → sizes (unfolded r p).elems ≤ 2 ^ 17
  unfolded_size light =
      let most = all_sizes r.phases (omega arith) in
      let product : r.phases * (3 * operations_of p + size) ≤ r.phases * (3 * (size + operations_of p)) =
      mul-le r.phases (3 * operations_of p + size) r.phases (3 * (size + operations_of p)) (omega arith)
      (omega arith) in
      let three : r.phases * (3 * (size + operations_of p)) ≡ 3 * (r.phases * (size + operations_of p)) =
      sym (mul_assoc r.phases 3 (size + operations_of p))
      ∙ ap (λ (k : ℕ). k * (size + operations_of p)) (mul_comm r.phases 3)
      ∙ mul_assoc 3 r.phases (size + operations_of p) in
      omega (arith, most, product, three, light)

  unfolded_few : weight r p ≤ max_weight → r.phases * size ≤ 8192
  unfolded_few light =
      let product : r.phases * size ≤ r.phases * (size + operations_of p) =
      mul-le r.phases size r.phases (size + operations_of p) (omega arith) (omega arith) in
      omega (arith, product, light)

  unfolded_elements : (c : ℕ) → c < length (unfolded r p).elems → IsElement (unfolded r p) (element_of (unfolded r p) c)
  unfolded_elements c el =
      let at = its_place r p sound some c el in
      let inside = phase_below r p sound some c el in
      subst (λ (k : ℕ). IsElement (unfolded r p) (element_of (unfolded r p) k)) (sym at.same)
      (subst (IsElement (unfolded r p)) (sym (element_at r p (c / size) (c % size) inside at.inside))
      (element_sound (c / size) inside (element_of p (c % size)) (sound.elements (c % size) no_element at.inside)))

  pub unfolded_sound : HasNoFrameFault r p → IsFlat (unfolded r p)
  unfolded_sound none = record {
    input_count = words r.up (length p.inputs) (λ i j. slice_index_or p.inputs i sig.Bool) sound.input_count.0
        none.few.inputs;
    inputs = all_of_frame r.phases r.up (λ i j. slice_index_or p.inputs i sig.Bool) IsType (length p.inputs)
        (λ i j there less. sound.inputs i sig.Bool there);
    out_count = words r.down (length p.outs) (λ i j. in_phase size j (slice_index_or p.outs i 0)) sound.out_count.0
        none.few.outs;
    outs = all_of_frame r.phases r.down (λ i j. in_phase size j (slice_index_or p.outs i 0))
        (λ (e : ℕ). e < length (unfolded r p).elems) (length p.outs)
        (λ i j there less.
        in_unfolded r p sound some j (slice_index_or p.outs i 0)
        (let few = few_places r.phases r.down i some in omega (arith, few, less)) (sound.outs i 0 there));
    element_count = let count = length_unfolded r p in let few = unfolded_few none.light in omega (arith, count, few);
    elements = All-from_get_or (IsElement (unfolded r p)) (unfolded r p).elems no_element unfolded_elements;
    size = unfolded_size none.light;
  }
    where
      words : {A : Type 0} (slow : List ℕ) (count : ℕ) (at : (i j : ℕ) → A)
          → 1 ≤ count
          → place r.phases slow count ≤ 16
          → IsWithin 1 16 (length (frame r.phases slow count at))
      words slow count at first few =
          let same = length_frame r.phases slow at count in
          let one = place_rises r.phases slow 0 count first in
          let more = some_places r.phases slow 0 some in
          (omega (arith, same, one, more), omega (arith, same, few))
