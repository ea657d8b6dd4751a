-- The first cycle that is open, word by word.
use Rattle.std.proofs.Common.{◌≡◌, ℕ, ◌+◌, ◌*◌, ◌/◌, ◌%◌, ◌^◌, ◌<◌, ◌≤◌, ◌↔◌, ◌∙◌, List, arith, ap, sym, subst, ⊎_elim}
use Rattle.std.proofs.Common.{bit_or, bit_and, IsTrue, nat_eq, tests}
use Rattle.std.specs.Int.{bit_at}
use Rattle.std.proofs.lemmas.Bool.{cases_lt}
use Rattle.std.proofs.lemmas.Nat.{one_shl, pow_pos}
use Rattle.std.proofs.lemmas.Nat.Bits.{and_pow, bit_at-lt}
use Rattle.operations.specs.declared.units.PortRef.{PortRef}
use Rattle.bus_alloc.specs.Sets.{mark}
use Rattle.bus_alloc.specs.Private.Rows.{unit_row, IsOpenIn, IsOpen, IsFirstZero, IsFirstOpenAt}
use Rattle.bus_alloc.specs.declared.rows.Rows.{Rows}
use Rattle.bus_alloc.proofs.Blocked.{zero_in_both, zero_in_union}

-- the test that a bit is 0
clear_bit : (n k : ℕ) → k < 64 → IsTrue (nat_eq (bit_and n (1 * 2 ^ k % 2 ^ 64)) 0) ↔ (bit_at n k ≡ 0)
clear_bit n k within = grind (arith, tests, one_shl k 64 within, and_pow n k, pow_pos k, bit_at-lt n k)

pub test_of_open : (rows : Rows) (u : ℕ) (dests : List PortRef) (cycle blocked : ℕ)
    → ((i : ℕ) → i < 64 → (bit_at blocked i ≡ 0) ↔ IsOpenIn rows u dests (cycle / 64) i)
    → IsTrue (nat_eq (bit_and blocked (1 * 2 ^ (cycle % 64) % 2 ^ 64)) 0) ↔ IsOpen rows u dests cycle
test_of_open rows u dests cycle blocked are =
    let k : ℕ = cycle % 64 in
    let small : k < 64 = omega arith in
    let test = clear_bit blocked k small in
    (λ is. (are k small).0 (test.0 is), λ is_open. test.1 ((are k small).1 is_open))

module _ (rows : Rows) (u : ℕ) (dests : List PortRef) (from index blocked passed : ℕ)
    (are : (i : ℕ) → i < 64 → (bit_at blocked i ≡ 0) ↔ IsOpenIn rows u dests index i)
    (are_passed : (i : ℕ) → i < 64 → (bit_at passed i ≡ 0) ↔ (from ≤ 64 * index + i))
    (before : (c : ℕ) → from ≤ c → c < 64 * index → IsOpen rows u dests c → ⊥) where
  -- an open cycle of the word has a bit that is 0
  zero_where_open : (c : ℕ)
      → c / 64 ≡ index
      → from ≤ c
      → IsOpen rows u dests c
      → bit_at (bit_or blocked passed) (c % 64) ≡ 0
  zero_where_open c at after is_open =
      let k : ℕ = c % 64 in
      let small : k < 64 = omega arith in
      let here : IsOpenIn rows u dests index k = subst (λ (n : ℕ). IsOpenIn rows u dests n k) at is_open in
      let late : from ≤ 64 * index + k = omega arith in
      zero_in_union blocked passed k ((are k small).1 here) ((are_passed k small).1 late)

  pub none_in_word : ((i : ℕ) → i < 64 → bit_at (bit_or blocked passed) i ≡ 1)
      → (c : ℕ)
      → from ≤ c
      → c < 64 * (index + 1)
      → IsOpen rows u dests c
      → ⊥
  none_in_word ones c after less is_open =
      ⊎_elim (λ earlier. before c after earlier is_open)
      (λ later.
      let at : c / 64 ≡ index = omega arith in
      let small : c % 64 < 64 = omega arith in
      absurd (omega (arith, zero_where_open c at after is_open, ones (c % 64) small)))
      (cases_lt c (64 * index))

  module _ (k : ℕ) (first : IsFirstZero (bit_or blocked passed) k) where
    none_before : (c : ℕ) → from ≤ c → c < 64 * index + k → IsOpen rows u dests c → ⊥
    none_before c after less is_open =
        ⊎_elim (λ earlier. before c after earlier is_open)
        (λ later.
        let within : k < 64 = first.within in
        let at : c / 64 ≡ index = omega arith in
        let small : c % 64 < k = omega arith in
        absurd (omega (arith, zero_where_open c at after is_open, first.ones (c % 64) small)))
        (cases_lt c (64 * index))

    pub first_in_word : 64 * index + k < rows.period → IsFirstOpenAt rows u dests from (64 * index + k)
    first_in_word period =
        let within : k < 64 = first.within in
        let both = zero_in_both blocked passed k first.zero_bit in
        let word : (64 * index + k) / 64 ≡ index = omega arith in
        let bit : (64 * index + k) % 64 ≡ k = omega arith in
        record {
          after = (are_passed k within).0 both.1;
          period = period;
          is_open = subst (λ (n : ℕ). IsOpenIn rows u dests n ((64 * index + k) % 64)) (sym word)
              (subst (λ (n : ℕ). IsOpenIn rows u dests index n) (sym bit) ((are k within).0 both.0));
          first = none_before;
        }

    pub none_in_period : rows.period ≤ 64 * index + k → (c : ℕ) → from ≤ c → c < rows.period → IsOpen rows u dests c → ⊥
    none_in_period past c after less = none_before c after (omega arith)

-- no cycle in which the unit is busy is open
pub none_in_busy : (rows : Rows) (u : ℕ) (dests : List PortRef) (words : List ℕ) (from first : ℕ)
    → words ≡ (unit_row rows u).busy.words
    → ((c : ℕ) → from ≤ c → c < 64 * first → mark words c ≡ 1)
    → (c : ℕ)
    → from ≤ c
    → c < 64 * first
    → IsOpen rows u dests c
    → ⊥
none_in_busy rows u dests words from first are full c after less is_open =
    let one : mark (unit_row rows u).busy.words c ≡ 1 =
    ap (λ (ws : List ℕ). mark ws c) (sym are) ∙ full c after less in
    absurd (omega (arith, one, is_open.unit))
