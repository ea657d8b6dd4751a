-- The places of a frame row.
use Rattle.std.proofs.Common.{◌≡◌, ℕ, zero, suc, ◌+◌, ◌*◌, ◌<◌, ◌≤◌, List, [], ◌∷◌, ◌++◌, length, get_or, take, map}
use Rattle.std.proofs.Common.{refl, sym}
use Rattle.std.proofs.Common.{ap, ap₂, ◌∙◌, arith, true, false, if◌then◌else◌, append-nil, append_assoc}
use Rattle.std.specs.Prelude.{All, ◌⊎◌, nat_lt}
use Rattle.std.proofs.Common.{inl, inr, Bool, ◌&&◌}
use Rattle.std.proofs.lemmas.Bool.{cases_eq, cases_lt, ltb-false}
use Rattle.std.specs.List.{flat_map, range_with_len, sum_by}
use Rattle.std.proofs.lemmas.List.{map-append, map-id}
use Rattle.std.proofs.lemmas.List.Concat.{flat_map-append, length-flat_map, get_or-flat_map}
use Rattle.std.proofs.lemmas.List.Elements.{All-nil, All-append, All-same}
use Rattle.std.proofs.lemmas.List.FromFn.{length-range_with_len, get_or-range_with_len, length-map-range_with_len}
use Rattle.std.proofs.lemmas.List.FromFn.{get_or-map-range_with_len, take-map-range_with_len, map-range_with_len_more}
use Rattle.std.proofs.lemmas.List.Sums.{sum_by-cons, sum_by_push}
use Rattle.lists.proofs.Ranges.{range_more, map_same}
use Rattle.rate_unfold.specs.Frames.{is_slow, places_of, place, frame}

pub take_range : (n i : ℕ) → i ≤ n → take i (range_with_len 0 n) ≡ range_with_len 0 i
take_range n i le =
    ap (take i) (sym (map-id (range_with_len 0 n))) ∙ take-map-range_with_len (λ (k : ℕ). k) 0 n i le
    ∙ map-id (range_with_len 0 i)

pub all_of_range : {A : Type 0} (P : A → Type 0) (f : ℕ → A) (n : ℕ)
    → ((k : ℕ) → k < n → P (f k))
    → All P (map f (range_with_len 0 n))
all_of_range P f n each k d less =
    let inside : k < n = omega (arith, less, length-map-range_with_len f 0 n) in
    rw (get_or-map-range_with_len f 0 n k k d inside (omega arith)) (each k inside)

pub place_more : (m : ℕ) (slow : List ℕ) (i : ℕ) → place m slow (i + 1) ≡ place m slow i + places_of m slow i
place_more m slow i =
    ap (sum_by (places_of m slow)) (range_more 0 i)
    ∙ sum_by_push (places_of m slow) (range_with_len 0 i) (0 + i)
    ∙ ap (λ (k : ℕ). place m slow i + places_of m slow k) (omega arith)

-- the places of a word are before those of a later one
pub place_rises : (m : ℕ) (slow : List ℕ) (i k : ℕ) → i < k → place m slow i + places_of m slow i ≤ place m slow k
place_rises m slow i zero less = absurd (omega arith)
place_rises m slow i (suc k) less = by (cases_eq i k) (λ lt. place_rises m slow i k lt)
  where
    by : (i ≡ k) ⊎ (i ≡ k → ⊥)
        → (i < k → place m slow i + places_of m slow i ≤ place m slow k)
        → place m slow i + places_of m slow i ≤ place m slow (suc k)
    by (inl same) rest =
        let more = ap (place m slow) (let e : suc k ≡ k + 1 = omega arith in e) ∙ place_more m slow k in
        let here = ap (λ (n : ℕ). place m slow n + places_of m slow n) same in
        omega (arith, more, here)
    by (inr other) rest =
        let more = ap (place m slow) (let e : suc k ≡ k + 1 = omega arith in e) ∙ place_more m slow k in
        let before = rest (strict i k less other) in
        omega (arith, more, before)
      where
        strict : (i k : ℕ) → i < suc k → (i ≡ k → ⊥) → i < k
        strict i k less other = below (cases_lt i k)
          where
            below : (i < k) ⊎ (k ≤ i) → i < k
            below (inl lt) = lt
            below (inr le) = absurd (other (omega arith))

-- a phase of a word that is not 0 has a place
pub in_place : (m j : ℕ) → j < m → (b : Bool) → (b && nat_lt 0 j) ≡ false → j < (if b then 1 else m)
in_place m j inside true first = let at : j ≤ 0 = ltb-false 0 j first in omega arith
in_place m j inside false first = inside

pub some_places : (m : ℕ) (slow : List ℕ) (i : ℕ) → 1 ≤ m → 1 ≤ places_of m slow i
some_places m slow i first = by (is_slow slow i)
  where
    by : (b : _) → 1 ≤ (if b then 1 else m)
    by true = omega arith
    by false = first

pub few_places : (m : ℕ) (slow : List ℕ) (i : ℕ) → 1 ≤ m → places_of m slow i ≤ m
few_places m slow i first = by (is_slow slow i)
  where
    by : (b : _) → (if b then 1 else m) ≤ m
    by true = first
    by false = omega arith

pub place_below : (m : ℕ) (slow : List ℕ) (i : ℕ) → 1 ≤ m → place m slow i ≤ i * m
place_below m slow zero first = omega arith
place_below m slow (suc i) first =
    let more = ap (place m slow) (let e : suc i ≡ i + 1 = omega arith in e) ∙ place_more m slow i in
    let below = place_below m slow i first in
    let few = few_places m slow i first in
    grind arith

module _ {A : Type 0} (m : ℕ) (slow : List ℕ) (at : (i j : ℕ) → A) where
  abbrev pub own : ℕ → List A
  own i = map (at i) (range_with_len 0 (places_of m slow i))

  length_own : (i : ℕ) → length (own i) ≡ places_of m slow i
  length_own i = length-map-range_with_len (at i) 0 (places_of m slow i)

  pub frame_more : (i : ℕ) → frame m slow (i + 1) at ≡ frame m slow i at ++ own i
  frame_more i =
      ap (flat_map own) (range_more 0 i)
      ∙ flat_map-append own (range_with_len 0 i) ((0 + i) ∷ [])
      ∙ ap (λ (xs : List A). frame m slow i at ++ xs) (append-nil (own (0 + i)) ∙ ap own (omega arith))

  pub length_frame : (i : ℕ) → length (frame m slow i at) ≡ place m slow i
  length_frame i = length-flat_map own (range_with_len 0 i) ∙ sums (range_with_len 0 i)
    where
      sums : (xs : List ℕ) → sum_by (λ i. length (own i)) xs ≡ sum_by (places_of m slow) xs
      sums [] = refl
      sums (x ∷ xs) =
          sum_by-cons (λ i. length (own i)) x xs ∙ ap₂ (λ (a b : ℕ). a + b) (length_own x) (sums xs)
          ∙ sym (sum_by-cons (places_of m slow) x xs)

  pub frame_at : (count i j : ℕ) (d : A)
      → i < count
      → j < places_of m slow i
      → get_or (frame m slow count at) (place m slow i + j) d ≡ at i j
  frame_at count i j d there less =
      let range = range_with_len 0 count in
      let is : get_or range i 0 ≡ i = get_or-range_with_len 0 count i 0 there ∙ omega arith in
      let front : length (flat_map own (take i range)) ≡ place m slow i =
      ap (λ (xs : List ℕ). length (flat_map own xs)) (take_range count i (omega arith)) ∙ length_frame i in
      let short : j < length (own (get_or range i 0)) = rw is (rw (length_own i) less) in
      let many : i < length range = rw (length-range_with_len 0 count) there in
      ap (λ (n : ℕ). get_or (frame m slow count at) (n + j) d) (sym front)
      ∙ get_or-flat_map own range i j 0 d many short
      ∙ ap (λ (k : ℕ). get_or (own k) j d) is
      ∙ get_or-map-range_with_len (at i) 0 (places_of m slow i) j j d less (omega arith)

  pub all_of_frame : (P : A → Type 0) (count : ℕ)
      → ((i j : ℕ) → i < count → j < places_of m slow i → P (at i j))
      → All P (frame m slow count at)
  all_of_frame P zero each = All-nil P
  all_of_frame P (suc count) each =
      All-same P _ _
      (ap (λ (n : ℕ). frame m slow n at) (let e : suc count ≡ count + 1 = omega arith in e) ∙ frame_more count)
      (All-append P (frame m slow count at) (own count)
      (all_of_frame P count (λ i j less in_it. each i j (omega arith) in_it))
      (all_of_range P (at count) (places_of m slow count) (λ j less. each count j (omega arith) less)))

pub frame_same : {A : Type 0} (m : ℕ) (slow : List ℕ) (at to : (i j : ℕ) → A) (count : ℕ)
    → ((i j : ℕ) → i < count → j < places_of m slow i → at i j ≡ to i j)
    → frame m slow count at ≡ frame m slow count to
frame_same m slow at to zero same = refl
frame_same {A} m slow at to (suc count) same =
    let e : suc count ≡ count + 1 = omega arith in
    ap (λ (n : ℕ). frame m slow n at) e ∙ frame_more m slow at count
    ∙ ap₂ (λ (xs ys : List A). xs ++ ys)
    (frame_same m slow at to count (λ i j less in_it. same i j (omega arith) in_it))
    (map_same (at count) (to count) 0 (places_of m slow count) (λ j low less. same count j (omega arith) (omega arith)))
    ∙ sym (ap (λ (n : ℕ). frame m slow n to) e ∙ frame_more m slow to count)

pub map_frame : {A B : Type 0} (h : A → B) (m : ℕ) (slow : List ℕ) (at : (i j : ℕ) → A) (count : ℕ)
    → map h (frame m slow count at) ≡ frame m slow count (λ i j. h (at i j))
map_frame h m slow at zero = refl
map_frame {B = B} h m slow at (suc count) =
    let e : suc count ≡ count + 1 = omega arith in
    ap (λ (n : ℕ). map h (frame m slow n at)) e ∙ ap (map h) (frame_more m slow at count)
    ∙ map-append h (frame m slow count at) (own m slow at count)
    ∙ ap₂ (λ (xs ys : List B). xs ++ ys) (map_frame h m slow at count)
    (mapped (range_with_len 0 (places_of m slow count)))
    ∙ sym (ap (λ (n : ℕ). frame m slow n (λ i j. h (at i j))) e ∙ frame_more m slow (λ i j. h (at i j)) count)
  where
    mapped : (xs : List ℕ) → map h (map (at count) xs) ≡ map (λ j. h (at count j)) xs
    mapped [] = refl
    mapped (x ∷ xs) = ap (λ (ys : List B). h (at count x) ∷ ys) (mapped xs)

-- one more place of a word
pub one_more_place : {A : Type 0} (f : ℕ → A) (old row new : List A) (k : ℕ) (x : A)
    → row ≡ old ++ map f (range_with_len 0 k)
    → new ≡ row ++ x ∷ []
    → x ≡ f k
    → new ≡ old ++ map f (range_with_len 0 (k + 1))
one_more_place {A} f old row new k x is pushed same =
    pushed ∙ ap₂ (λ (xs : List A) (y : A). xs ++ y ∷ []) is same
    ∙ append_assoc old (map f (range_with_len 0 k)) (f k ∷ [])
    ∙ ap (λ (xs : List A). old ++ xs) (sym (map-range_with_len_more f 0 k k (omega arith)))
