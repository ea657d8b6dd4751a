-- The nodes of the lowered list have numbers, one piece after another.
use Rattle.std.proofs.Common.{◌≡◌, refl, sym, subst, ap, ◌∙◌, arith, ℕ, zero, suc, ◌+◌, ◌*◌, ◌<◌, ◌≤◌, ⊎_elim, List, []}
use Rattle.std.proofs.Common.{◌∷◌, ◌++◌, length, slice_index_or, All}
use Rattle.std.specs.Prelude.{slice_get, flat_map, take, Some}
use Rattle.std.specs.List.{enumerate_from}
use Rattle.std.proofs.lemmas.Bool.{cases_lt}
use Rattle.std.proofs.lemmas.Option.{slice_get_within, slice_get-get_or}
use Rattle.std.proofs.lemmas.List.{length_push, get_or_append_left, get_or_push, length-append, append-nil, take_all}
use Rattle.std.proofs.lemmas.List.{take_more}
use Rattle.std.proofs.lemmas.List.FromFn.{length-enumerate_from}
use Rattle.std.proofs.lemmas.List.Concat.{length-flat_map}
use Rattle.std.proofs.lemmas.List.Sums.{sum_by-le}
use Rattle.std.proofs.lemmas.Grind.{flat_map-append}
use Rattle.plan_core.specs.Lowered.{Origin, own, address, store, load, origins_of, origins, IsNumber}
use Rattle.plan_soundness.proofs.Elements.{default_any}
use Rattle.plan_soundness.proofs.Origins.{first_of, own_number, number_of, own_once, piece}
use Rattle.delay_memory.specs.Private.Delays.{delays_at, AreFew}
use Rattle.delay_memory.proofs.Stored.{entry}
use Rattle.delay_memory.specs.Private.Numbers.{number_in, AreNumbers}
use Rattle.delay_memory.specs.Private.Nodes.{origins_before}

abbrev pub loads : ℕ → List ℕ → List Origin
loads v long = flat_map (λ (ago : ℕ). address v ago ∷ load v ago ∷ []) long

loads_length : (v : ℕ) (long : List ℕ) → length (loads v long) ≡ 2 * length long
loads_length v [] = refl
loads_length v (k ∷ ks) = let rest = loads_length v ks in omega (arith, rest)

pub piece_length : (v : ℕ) (long : List ℕ) → 0 < length long → length (origins_of v long) ≡ 3 + 2 * length long
piece_length v [] some = absurd (omega (arith, some))
piece_length v (k ∷ ks) some = let rest = loads_length v (k ∷ ks) in omega (arith, rest)

pub piece_none : (v : ℕ) (long : List ℕ) → length long ≡ 0 → length (origins_of v long) ≡ 1
piece_none v [] none = refl
piece_none v (k ∷ ks) none = absurd (omega (arith, none))

piece_most : (v : ℕ) (long : List ℕ) → length (origins_of v long) ≤ 3 + 2 * length long
piece_most v [] = omega arith
piece_most v (k ∷ ks) = let rest = loads_length v (k ∷ ks) in omega (arith, rest)

-- the address and the load of a delay
at_address : (v : ℕ) (long : List ℕ) (i j : ℕ)
    → i < length long
    → j ≡ 2 * i
    → slice_get (loads v long) j ≡ Some (address v (slice_index_or long i 0))
at_address v [] i j less is = absurd (omega (arith, less))
at_address v (k ∷ ks) zero zero less is = refl
at_address v (k ∷ ks) zero (suc j) less is = absurd (omega (arith, is))
at_address v (k ∷ ks) (suc i) zero less is = absurd (omega (arith, is))
at_address v (k ∷ ks) (suc i) (suc zero) less is = absurd (omega (arith, is))
at_address v (k ∷ ks) (suc i) (suc (suc j)) less is = at_address v ks i j (omega (arith, less)) (omega (arith, is))

at_load : (v : ℕ) (long : List ℕ) (i j : ℕ)
    → i < length long
    → j ≡ 2 * i + 1
    → slice_get (loads v long) j ≡ Some (load v (slice_index_or long i 0))
at_load v [] i j less is = absurd (omega (arith, less))
at_load v (k ∷ ks) i zero less is = absurd (omega (arith, is))
at_load v (k ∷ ks) zero (suc zero) less is = refl
at_load v (k ∷ ks) zero (suc (suc j)) less is = absurd (omega (arith, is))
at_load v (k ∷ ks) (suc i) (suc zero) less is = absurd (omega (arith, is))
at_load v (k ∷ ks) (suc i) (suc (suc j)) less is = at_load v ks i j (omega (arith, less)) (omega (arith, is))

behind_store : (v : ℕ) (long : List ℕ) (j : ℕ) (o : Origin)
    → 0 < length long
    → slice_get (loads v long) j ≡ Some o
    → slice_get (origins_of v long) (suc (suc (suc j))) ≡ Some o
behind_store v [] j o some is = absurd (omega (arith, some))
behind_store v (k ∷ ks) j o some is = is

address_first : (v : ℕ) (long : List ℕ) → 0 < length long → slice_get (origins_of v long) 1 ≡ Some (address v 0)
address_first v [] some = absurd (omega (arith, some))
address_first v (k ∷ ks) some = refl

store_second : (v : ℕ) (long : List ℕ) → 0 < length long → slice_get (origins_of v long) 2 ≡ Some (store v)
store_second v [] some = absurd (omega (arith, some))
store_second v (k ∷ ks) some = refl

module _ (delays : List (List ℕ)) where
  long_at : (v : ℕ) → v < length delays → slice_get delays v ≡ Some (delays_at delays v)
  long_at v less = slice_get-get_or delays v [] less

  taken : (v : ℕ)
      → v < length delays
      → take (v + 1) (enumerate_from 0 delays) ≡ take v (enumerate_from 0 delays) ++ (v, delays_at delays v) ∷ []
  taken v less =
      let count = length-enumerate_from 0 delays in
      take_more (enumerate_from 0 delays) v (0, []) (omega arith)
      ∙ ap (λ (x : ℕ × List ℕ). take v (enumerate_from 0 delays) ++ x ∷ []) (entry delays v less)

  -- the pieces of the nodes before node v, and that of node v
  pub origins_more : (v : ℕ)
      → v < length delays
      → origins_before delays (v + 1) ≡ origins_before delays v ++ origins_of v (delays_at delays v)
  origins_more v less =
      let count = length-enumerate_from 0 delays in
      ap (λ (xs : List (ℕ × List ℕ)). flat_map piece xs) (taken v less)
      ∙ flat_map-append piece (take v (enumerate_from 0 delays)) ((v, delays_at delays v) ∷ [])
      ∙ ap (λ (xs : List Origin). origins_before delays v ++ xs) (append-nil (origins_of v (delays_at delays v)))

  pub first_more : (v : ℕ)
      → v < length delays
      → first_of delays (v + 1) ≡ first_of delays v + length (origins_of v (delays_at delays v))
  first_more v less =
      ap length (origins_more v less) ∙ length-append (origins_before delays v) (origins_of v (delays_at delays v))

  pub origins_all : (n : ℕ) → n ≡ length delays → origins_before delays n ≡ origins delays
  origins_all n is =
      let count = length-enumerate_from 0 delays in
      ap (flat_map piece) (take_all n (enumerate_from 0 delays) (omega arith))

  pub numbers_more : (v next : ℕ) (numbers : List ℕ)
      → v < length delays
      → AreNumbers delays v numbers
      → next ≡ first_of delays v
      → AreNumbers delays (v + 1) (numbers ++ next ∷ [])
  numbers_more v next numbers less before is = record {
    count = let count = before.count in let more = length_push numbers next in omega arith;
    each = λ w below. ⊎_elim (earlier w) (λ past. here w (omega (arith, past, below))) (cases_lt w v);
  }
    where
      earlier : (w : ℕ) → w < v → IsNumber delays (own w) (number_in (numbers ++ next ∷ []) w)
      earlier w below =
          let count = before.count in
          subst (IsNumber delays (own w)) (sym (get_or_append_left numbers (next ∷ []) 0 w (omega (
            arith,
            below,
            count,
          ))))
          (before.each w below)

      here : (w : ℕ) → w ≡ v → IsNumber delays (own w) (number_in (numbers ++ next ∷ []) w)
      here w same =
          subst (IsNumber delays (own w))
          (ap (first_of delays) same ∙ sym is ∙ sym (get_or_push numbers next 0 w (before.count ∙ sym same)))
          (own_number delays w (delays_at delays w) (long_at w (omega (arith, less, same))))

  -- the numbers in the piece of a node with a line
  module _ (v number : ℕ) (less : v < length delays) (is : IsNumber delays (own v) number)
      (some : 0 < length (delays_at delays v)) where
    shifted : (j n : ℕ) (o : Origin)
        → slice_get (origins_of v (delays_at delays v)) j ≡ Some o
        → n ≡ number + j
        → IsNumber delays o n
    shifted j n o at e =
        let once = own_once delays v number is in
        subst (IsNumber delays o) {x = first_of delays v + j} {y = n} (omega (arith, e, once))
        (number_of delays v (delays_at delays v) j o (long_at v less) at)

    pub newest_number : IsNumber delays (address v 0) (number + 1)
    newest_number = shifted 1 (number + 1) (address v 0) (address_first v (delays_at delays v) some) refl

    pub store_number : IsNumber delays (store v) (number + 2)
    store_number = shifted 2 (number + 2) (store v) (store_second v (delays_at delays v) some) refl

    pub address_number : (i : ℕ)
        → i < length (delays_at delays v)
        → IsNumber delays (address v (slice_index_or (delays_at delays v) i 0)) (number + 3 + 2 * i)
    address_number i below =
        shifted (suc (suc (suc (2 * i)))) (number + 3 + 2 * i) (address v (slice_index_or (delays_at delays v) i 0))
        (behind_store v (delays_at delays v) (2 * i) (address v (slice_index_or (delays_at delays v) i 0)) some
        (at_address v (delays_at delays v) i (2 * i) below refl))
        (omega arith)

    pub load_number : (i : ℕ)
        → i < length (delays_at delays v)
        → IsNumber delays (load v (slice_index_or (delays_at delays v) i 0)) (number + 3 + 2 * i + 1)
    load_number i below =
        shifted (suc (suc (suc (2 * i + 1)))) (number + 3 + 2 * i + 1) (load v (slice_index_or (delays_at
        delays v) i 0))
        (behind_store v (delays_at delays v) (2 * i + 1) (load v (slice_index_or (delays_at delays v) i 0)) some
        (at_load v (delays_at delays v) i (2 * i + 1) below refl))
        (omega arith)

  module _ (few : AreFew delays) where
    pub piece_few : (v : ℕ) → length (origins_of v (delays_at delays v)) ≤ 2051
    piece_few v =
        let most = piece_most v (delays_at delays v) in let short = few.each v in omega (arith, most, short)

    each_few : All (λ (x : ℕ × List ℕ). length (piece x) ≤ 2051) (enumerate_from 0 delays)
    each_few i d less =
        let count = length-enumerate_from 0 delays in
        let is : slice_index_or (enumerate_from 0 delays) i d ≡ (i, delays_at delays i) =
        default_any (enumerate_from 0 delays) i d (0, []) less ∙ entry delays i (omega (arith, less, count)) in
        subst (λ (x : ℕ × List ℕ). length (piece x) ≤ 2051) (sym is)
        (piece_few i)

    -- all nodes can be numbered
    pub origins_few : length (origins delays) ≤ length delays * 2051
    origins_few =
        let count = length-enumerate_from 0 delays in
        let most = sum_by-le (λ (x : ℕ × List ℕ). length (piece x)) 2051 (enumerate_from 0 delays) each_few in
        let sum = length-flat_map piece (enumerate_from 0 delays) in
        subst (λ (n : ℕ). length (origins delays) ≤ n * 2051) count (subst (λ (n : ℕ). n ≤ length
        (enumerate_from 0 delays) * 2051) (sym sum) most)

    pub number_few : (o : Origin) (i : ℕ) → IsNumber delays o i → i < 2150629376
    number_few o i is =
        let inside = slice_get_within (origins delays) i o is in
        let count = few.count in
        let most = origins_few in
        omega (arith, inside, count, most)
