-- The nodes that have a line, one after another.
use Rattle.std.proofs.Common.{◌≡◌, refl, ap, ◌∙◌, arith, ℕ, zero, suc, ◌+◌, ◌<◌, ◌≤◌, List, [], ◌∷◌, length}
use Rattle.std.proofs.Common.{slice_index_or, Bool, true, false, cond}
use Rattle.std.specs.Prelude.{slice_get, filter, take, Some}
use Rattle.std.specs.List.{enumerate_from, AllPairs}
use Rattle.std.proofs.lemmas.Bool.{lt-ltb}
use Rattle.std.proofs.lemmas.Option.{same_Some, none-some, slice_get-get_or}
use Rattle.std.proofs.lemmas.List.{take_all, length-take}
use Rattle.std.proofs.lemmas.List.Sums.{count_by-le-length, length-filter}
use Rattle.std.proofs.lemmas.List.Filters.{length-filter_more}
use Rattle.std.proofs.lemmas.List.FromFn.{length-enumerate_from, get_or-enumerate_from}
use Rattle.std.proofs.lemmas.List.Kept.{AllPairs-filter}
use Rattle.plan_core.specs.Lowered.{stored}
use Rattle.plan_core.proofs.OneHeight.{neither_less}
use Rattle.delay_memory.specs.Private.Delays.{delays_at}
use Rattle.delay_memory.specs.Private.Lines.{has_line, lines_before}

filter_at : {A : Type 0} (p : A → Bool) (xs : List A) (i : ℕ) (x : A)
    → slice_get xs i ≡ Some x
    → p x ≡ true
    → slice_get (filter p xs) (length (filter p (take i xs))) ≡ Some x
filter_at p [] i x is passes = absurd (none-some x is)
filter_at {A} p (y ∷ ys) zero x is passes = by (p y) (ap p (same_Some y x is) ∙ passes)
  where
    by : (b : Bool) → b ≡ true → slice_get (cond b (y ∷ filter p ys) (filter p ys)) 0 ≡ Some x
    by true e = is
    by false e = absurd (cc)
filter_at {A} p (y ∷ ys) (suc i) x is passes =
    by (p y) (filter p ys) (filter p (take i ys)) (filter_at p ys i x is passes)
  where
    by : (b : Bool) (rest front : List A)
        → slice_get rest (length front) ≡ Some x
        → slice_get (cond b (y ∷ rest) rest) (length (cond b (y ∷ front) front)) ≡ Some x
    by true rest front h = h
    by false rest front h = h

module _ (delays : List (List ℕ)) where
  pub entry : (v : ℕ) → v < length delays → slice_index_or (enumerate_from 0 delays) v (0, []) ≡ (v, delays_at delays v)
  entry v less =
      get_or-enumerate_from 0 delays v (0, []) less ∙ ap (λ (k : ℕ). (k, delays_at delays v)) (start v)
    where
      start : (v : ℕ) → 0 + v ≡ v
      start v = omega arith

  entry_at : (v : ℕ) → v < length delays → slice_get (enumerate_from 0 delays) v ≡ Some (v, delays_at delays v)
  entry_at v less =
      let count = length-enumerate_from 0 delays in
      slice_get-get_or (enumerate_from 0 delays) v (0, []) (omega arith)
      ∙ ap (λ (x : ℕ × List ℕ). Some x) (entry v less)

  has_some : (v : ℕ) (long : List ℕ) → 0 < length long → has_line (v, long) ≡ true
  has_some v long some = lt-ltb 0 (length long) some

  has_none : (v : ℕ) (long : List ℕ) → length long ≡ 0 → has_line (v, long) ≡ false
  has_none v [] none = refl
  has_none v (k ∷ ks) none = absurd (omega (arith, none))

  pub stored_next : (v : ℕ)
      → v < length delays
      → 0 < length (delays_at delays v)
      → slice_get (stored delays) (lines_before delays v) ≡ Some (v, delays_at delays v)
  stored_next v less some =
      filter_at has_line (enumerate_from 0 delays) v (v, delays_at delays v) (entry_at v less)
      (has_some v (delays_at delays v) some)

  count_more : (v : ℕ)
      → v < length delays
      → lines_before delays (v + 1) ≡ lines_before delays v + cond (has_line (v, delays_at delays v)) 1 0
  count_more v less =
      let count = length-enumerate_from 0 delays in
      length-filter_more has_line (enumerate_from 0 delays) v (0, []) (omega arith)
      ∙ ap (λ (x : ℕ × List ℕ). lines_before delays v + cond (has_line x) 1 0) (entry v less)

  -- at most all nodes have one
  pub count_few : (v : ℕ) → lines_before delays v ≤ length delays
  count_few v =
      let all = length-filter has_line (take v (enumerate_from 0 delays)) in
      let most = count_by-le-length has_line (take v (enumerate_from 0 delays)) in
      let taken = length-take v (enumerate_from 0 delays) in
      let count = length-enumerate_from 0 delays in
      omega (arith, all, most, taken, count)

  pub count_yes : (v : ℕ)
      → v < length delays
      → 0 < length (delays_at delays v)
      → lines_before delays (v + 1) ≡ lines_before delays v + 1
  count_yes v less some =
      count_more v less
      ∙ ap (λ (b : Bool). lines_before delays v + cond b 1 0) (has_some v (delays_at delays v) some)

  pub count_no : (v : ℕ)
      → v < length delays
      → length (delays_at delays v) ≡ 0
      → lines_before delays (v + 1) ≡ lines_before delays v
  count_no v less none =
      let is = count_more v less
      ∙ ap (λ (b : Bool). lines_before delays v + cond b 1 0) (has_none v (delays_at delays v) none) in
      omega (arith, is)

  pub count_all : (n : ℕ) → n ≡ length delays → lines_before delays n ≡ length (stored delays)
  count_all n is =
      let count = length-enumerate_from 0 delays in
      ap (λ (xs : List (ℕ × List ℕ)). length (filter has_line xs)) (take_all n (enumerate_from 0 delays) (omega arith))

  rise : AllPairs (λ (x y : ℕ × List ℕ). x.0 < y.0) (enumerate_from 0 delays)
  rise i j d less within =
      let count = length-enumerate_from 0 delays in
      let at-i = ap (λ (x : ℕ × List ℕ). x.0) (get_or-enumerate_from 0 delays i d (omega (
        arith,
        less,
        within,
        count,
      ))) in
      let at-j = ap (λ (x : ℕ × List ℕ). x.0) (get_or-enumerate_from 0 delays j d (omega (arith, within, count))) in
      omega (arith, less, at-i, at-j)

  stored_rise : AllPairs (λ (x y : ℕ × List ℕ). x.0 < y.0) (stored delays)
  stored_rise = AllPairs-filter (λ (x y : ℕ × List ℕ). x.0 < y.0) has_line (enumerate_from 0 delays) rise

  -- each node stands in it once
  pub stored_once : (i j : ℕ)
      → i < length (stored delays)
      → j < length (stored delays)
      → (slice_index_or (stored delays) i (0, [])).0 ≡ (slice_index_or (stored delays) j (0, [])).0
      → i ≡ j
  stored_once i j in-i in-j same =
      neither_less i j (λ less. let rise = stored_rise i j (0, []) less in-j in omega (arith, rise, same))
      (λ less. let rise = stored_rise j i (0, []) less in-i in omega (arith, rise, same))
