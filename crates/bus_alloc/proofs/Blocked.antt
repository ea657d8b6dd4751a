-- Words with the bits of the cycles that are blocked.
use Rattle.std.proofs.Common.{◌≡◌, ◌≢◌, ◌∙◌, ℕ, ◌+◌, ◌-◌, ◌*◌, ◌/◌, ◌%◌, ◌^◌, ◌<◌, ◌≤◌, ◌↔◌, List, length, take, get_or}
use Rattle.std.proofs.Common.{arith, ap, sym, subst, ⊎_elim, bit_or, w64}
use Rattle.std.specs.Prelude.{slice_index}
use Rattle.std.specs.List.{All}
use Rattle.std.specs.Int.{bit_at, trailing_ones}
use Rattle.std.proofs.lemmas.Bool.{cases_lt}
use Rattle.std.proofs.lemmas.Nat.{one_shl}
use Rattle.std.proofs.lemmas.Nat.Bits.{bit_at_or, bit_at_ones, bit_at_ones_above, bit_at-trailing_ones, bit_at-zero}
use Rattle.std.proofs.lemmas.List.{get_or-take, length-take, take-take}
use Rattle.std.proofs.lemmas.List.Elements.{All-more, All-take}
use Rattle.operations.specs.declared.units.PortRef.{PortRef}
use Rattle.bit_sets.specs.Bits.{Has}
use Rattle.bus_alloc.specs.Sets.{mark}
use Rattle.bus_alloc.specs.Private.Rows.{IsBusOpen, IsRouteOpen, IsPortOpen, IsOpenIn, IsFirstZero, unit_row, file_row}
use Rattle.bit_sets.specs.declared.set32.Set32.{Set32}
use Rattle.bus_alloc.specs.declared.rows.Rows.{Rows}

pub first_zero_is : (word k : ℕ) → word + 1 < 2 ^ 64 → k ≡ trailing_ones w64 word → IsFirstZero word k
first_zero_is word k some is = subst (IsFirstZero word) (sym is) (record {
  within = at.0;
  zero_bit = at.1;
  ones =
      at.2;
})
  where
    at : (trailing_ones w64 word < 64)
        × (bit_at word (trailing_ones w64 word) ≡ 0)
        × ((i : ℕ) → i < trailing_ones w64 word → bit_at word i ≡ 1)
    at = bit_at-trailing_ones w64 word some

pub before_in_word : (cycle index i : ℕ)
    → i < 64
    → cycle / 64 ≡ index
    → (bit_at (1 * 2 ^ (cycle % 64) % 2 ^ 64 - 1) i ≡ 0) ↔ (cycle ≤ 64 * index + i)
before_in_word cycle index i small is =
    subst (λ (n : ℕ). (bit_at (n - 1) i ≡ 0) ↔ (cycle ≤ 64 * index + i)) (sym (one_shl (cycle % 64) 64 (omega arith)))
    (⊎_elim below above (cases_lt i (cycle % 64)))
  where
    below : i < cycle % 64 → (bit_at (2 ^ (cycle % 64) - 1) i ≡ 0) ↔ (cycle ≤ 64 * index + i)
    below less = (
      λ zero_bit. absurd (omega (arith, zero_bit, bit_at_ones (cycle % 64) i less)),
      λ after. absurd (omega arith),
    )

    above : cycle % 64 ≤ i → (bit_at (2 ^ (cycle % 64) - 1) i ≡ 0) ↔ (cycle ≤ 64 * index + i)
    above more = (λ zero_bit. omega arith, λ after. bit_at_ones_above (cycle % 64) i more)

pub before_no_word : (cycle index i : ℕ)
    → cycle / 64 ≤ index
    → cycle / 64 ≢ index
    → (bit_at 0 i ≡ 0) ↔ (cycle ≤ 64 * index + i)
before_no_word cycle index i within other = (λ zero_bit. omega arith, λ after. bit_at-zero i)

-- both bits are 0 where that of the union is
pub zero_in_both : (a b i : ℕ) → bit_at (bit_or a b) i ≡ 0 → (bit_at a i ≡ 0) × (bit_at b i ≡ 0)
zero_in_both a b i zero_bit =
    (grind (arith, bit_at_or a b i, zero_bit), grind (arith, bit_at_or a b i, zero_bit))

pub zero_in_union : (a b i : ℕ) → bit_at a i ≡ 0 → bit_at b i ≡ 0 → bit_at (bit_or a b) i ≡ 0
zero_in_union a b i first second = grind (arith, bit_at_or a b i, first, second)

-- one word more in which each bit is set, or its cycle has passed
pub full_more : (words : List ℕ) (from index word passed : ℕ)
    → word ≡ slice_index words index
    → ((i : ℕ) → i < 64 → (bit_at passed i ≡ 0) ↔ (from ≤ 64 * index + i))
    → bit_or word passed ≡ 2 ^ 64 - 1
    → ((c : ℕ) → from ≤ c → c < 64 * index → mark words c ≡ 1)
    → (c : ℕ)
    → from ≤ c
    → c < 64 * (index + 1)
    → mark words c ≡ 1
full_more words from index word passed is are full before c after less =
    ⊎_elim (λ earlier. before c after earlier) here (cases_lt c (64 * index))
  where
    here : 64 * index ≤ c → mark words c ≡ 1
    here late =
        let k : ℕ = c % 64 in
        let small : k < 64 = omega arith in
        let at : c / 64 ≡ index = omega arith in
        let set : bit_at (bit_or word passed) k ≡ 1 = ap (λ (w : ℕ). bit_at w k) full ∙ bit_at_ones 64 k small in
        let not : bit_at passed k ≡ 0 = (are k small).1 (omega arith) in
        let one : bit_at word k ≡ 1 = grind (arith, bit_at_or word passed k, set, not) in
        subst (λ (n : ℕ). bit_at (slice_index words n) k ≡ 1) (sym at)
        (ap (λ (w : ℕ). bit_at w k) (sym is) ∙ one)

module _ (rows : Rows) (index : ℕ) where
  -- the buses that are in both sets are the routes
  pub route_open : (drives sources routes : Set32) (i : ℕ)
      → ((b : ℕ) → Has routes.bits b ↔ (Has drives.bits b × Has sources.bits b))
      → IsBusOpen rows routes index i ↔ IsRouteOpen rows drives sources index i
  route_open drives sources routes i are = (
    λ is. record {
      b = is.b;
      number = is.number;
      drive = ((are is.b).0 is.there).0;
      source = ((are is.b).0 is.there).1;
      open_bit = is.open_bit;
    },
    λ is. record {
      b = is.b;
      number = is.number;
      there = (are is.b).1 (is.drive, is.source);
      open_bit = is.open_bit;
    },
  )

  pub port_open : (u : ℕ) (port : PortRef) (i file all : ℕ) (routes : Set32)
      → file ≡ slice_index (file_row rows port).written.words index
      → ((b : ℕ) → Has routes.bits b ↔ (Has (unit_row rows u).drives.bits b × Has (file_row rows port).sources.bits b))
      → (bit_at all i ≡ 0) ↔ IsBusOpen rows routes index i
      → (bit_at (bit_or file all) i ≡ 0) ↔ IsPortOpen rows u port index i
  port_open u port i file all routes is_file are is_all = (
    λ zero_bit.
        let both = zero_in_both file all i zero_bit in
        record {
          file = ap (λ (w : ℕ). bit_at w i) (sym is_file) ∙ both.0;
          bus = (route_open (unit_row rows u).drives (file_row rows port).sources routes i are).0 (is_all.0 both.1);
        },
    λ is. zero_in_union file all i (ap (λ (w : ℕ). bit_at w i) is_file ∙ is.file)
        (is_all.1 ((route_open (unit_row rows u).drives (file_row rows port).sources routes i are).1 is.bus)),
  )

  pub none_open : (u : ℕ) (dests : List PortRef) (busy i : ℕ)
      → busy ≡ slice_index (unit_row rows u).busy.words index
      → (bit_at busy i ≡ 0) ↔ IsOpenIn rows u (take 0 dests) index i
  none_open u dests busy i is = (
    λ zero_bit. record {
      unit = ap (λ (w : ℕ). bit_at w i) (sym is) ∙ zero_bit;
      ports = λ k d less. absurd (omega arith);
    },
    λ is_open. ap (λ (w : ℕ). bit_at w i) is ∙ is_open.unit,
  )

  pub unit_shut : (u : ℕ) (dests : List PortRef) (busy i : ℕ)
      → busy ≡ slice_index (unit_row rows u).busy.words index
      → busy ≡ 2 ^ 64 - 1
      → i < 64
      → (bit_at busy i ≡ 0) ↔ IsOpenIn rows u dests index i
  unit_shut u dests busy i is full small =
      let one : bit_at busy i ≡ 1 = ap (λ (w : ℕ). bit_at w i) full ∙ bit_at_ones 64 i small in (
        λ zero_bit. absurd (omega (arith, zero_bit, one)),
        λ is_open. absurd (omega (arith, ap (λ (w : ℕ). bit_at w i) is ∙ is_open.unit, one)),
      )

  pub one_more_open : (u : ℕ) (dests : List PortRef) (k : ℕ) (d : PortRef) (blocked at i : ℕ)
      → k < length dests
      → (bit_at blocked i ≡ 0) ↔ IsOpenIn rows u (take k dests) index i
      → (bit_at at i ≡ 0) ↔ IsPortOpen rows u (get_or dests k d) index i
      → (bit_at (bit_or blocked at) i ≡ 0) ↔ IsOpenIn rows u (take (k + 1) dests) index i
  one_more_open u dests k d blocked at i within so_far here = (
    λ zero_bit.
        let both = zero_in_both blocked at i zero_bit in
        let before = so_far.0 both.0 in
        record {
          unit = before.unit;
          ports = All-more (λ port. IsPortOpen rows u port index i) dests k d within before.ports (here.0 both.1);
        },
    λ is_open. zero_in_union blocked at i
        (so_far.1 (record { unit = is_open.unit; ports = fewer is_open }))
        (here.1 (last is_open)),
  )
    where
      fewer : IsOpenIn rows u (take (k + 1) dests) index i → All (λ port. IsPortOpen rows u port index i) (take k dests)
      fewer is_open =
          let n : ℕ = k + 1 in
          subst (All (λ port. IsPortOpen rows u port index i)) (take-take k n dests (omega arith))
          (All-take (λ port. IsPortOpen rows u port index i) k (take (k + 1) dests) is_open.ports)

      last : IsOpenIn rows u (take (k + 1) dests) index i → IsPortOpen rows u (get_or dests k d) index i
      last is_open =
          let n : ℕ = k + 1 in
          subst (λ port. IsPortOpen rows u port index i) (get_or-take n dests k d (omega arith))
          (is_open.ports k d (omega (arith, length-take {A = PortRef})))
