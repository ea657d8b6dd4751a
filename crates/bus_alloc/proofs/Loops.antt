-- Sets of buses that are filled and emptied one by one.
use Rattle.std.proofs.Common.{◌≡◌, ◌∙◌, ℕ, ◌+◌, ◌-◌, ◌^◌, ◌<◌, ◌⊎◌, ◌↔◌, arith, ap, sym, subst, ⊎_elim, inl, inr}
use Rattle.std.proofs.Common.{slice_index, bit_and}
use Rattle.std.specs.Int.{bit_at}
use Rattle.std.proofs.lemmas.Bool.{cases_eq}
use Rattle.std.proofs.lemmas.Nat.Bits.{bit_at_and, bit_at_ones, bit_at-lt, bit_at-zero}
use Rattle.bit_sets.specs.Bits.{Has, IsTaken}
use Rattle.bus_alloc.specs.Private.Rows.{IsBusOpen, bus_words}
use Rattle.bit_sets.specs.declared.set32.Set32.{Set32}
use Rattle.bus_alloc.specs.declared.rows.Rows.{Rows}

-- the set has the buses below k for which P holds
pub record IsSetUpTo (P : ℕ → Type 0) (k : ℕ) (set : Set32) : Type 0 where
  pub sound : (b : ℕ) → Has set.bits b → P b
  pub complete : (b : ℕ) → b < k → P b → Has set.bits b

pub begins : (P : ℕ → Type 0) (set : Set32) → ((b : ℕ) → ¬ Has set.bits b) → IsSetUpTo P 0 set
begins P set none = record { sound = λ b is. absurd (none b is); complete = λ b less. absurd (omega (arith, less)) }

pub inserts : (P : ℕ → Type 0) (k : ℕ) (old new : Set32)
    → IsSetUpTo P k old
    → P k
    → ((b : ℕ) → Has new.bits b ↔ (Has old.bits b ⊎ (b ≡ k)))
    → IsSetUpTo P (k + 1) new
inserts P k old new so_far here step = record {
  sound = λ b is. ⊎_elim (so_far.sound b) (λ e. subst P (sym e) here) ((step b).0 is);
  complete = λ b less holds.
      (step b).1 (⊎_elim (λ e. inr e) (λ differ. inl (so_far.complete b (omega (arith, less, differ)) holds))
      (cases_eq b k));
}

pub skips : (P : ℕ → Type 0) (k : ℕ) (set : Set32) → IsSetUpTo P k set → ¬ P k → IsSetUpTo P (k + 1) set
skips P k set so_far not_here = record {
  sound = so_far.sound;
  complete = λ b less holds.
      ⊎_elim (λ e. absurd (not_here (subst P e holds)))
      (λ differ. so_far.complete b (omega (arith, less, differ)) holds) (cases_eq b k);
}

-- Of the buses that were in the set, those that are not left are read: a bit of `all` is 0 exactly where that of one of
-- them is.
pub record IsReadSoFar (rows : Rows) (buses : Set32) (index : ℕ) (left : Set32) (all : ℕ) : Type 0 where
  pub within : (b : ℕ) → Has left.bits b → Has buses.bits b
  pub sound : (i : ℕ) → i < 64 → bit_at all i ≡ 0 → IsBusOpen rows buses index i
  pub complete : (b i : ℕ)
      → Has buses.bits b
      → bit_at (slice_index (bus_words rows b) index) i ≡ 0
      → Has left.bits b ⊎ (bit_at all i ≡ 0)

pub reads_none : (rows : Rows) (buses : Set32) (index : ℕ) → IsReadSoFar rows buses index buses (2 ^ 64 - 1)
reads_none rows buses index = record {
  within = λ b there. there;
  sound = λ i small zero_bit. absurd (omega (arith, zero_bit, bit_at_ones 64 i small));
  complete = λ b i there open_bit. inl there;
}

pub reads_bus : (rows : Rows) (buses : Set32) (index : ℕ) (left : Set32) (all b : ℕ) (rest : Set32) (word : ℕ)
    → IsReadSoFar rows buses index left all
    → b < 32
    → IsTaken left.bits b rest.bits
    → word ≡ slice_index (bus_words rows b) index
    → IsReadSoFar rows buses index rest (bit_and all word)
reads_bus rows buses index left all b rest word so_far number takes is = record {
  within = λ c there. so_far.within c ((takes.rest c).0 there).0;
  sound = λ i small zero_bit. ⊎_elim (λ all_zero. so_far.sound i small all_zero)
      (λ word_zero. record {
        b = b;
        number = number;
        there = so_far.within b takes.there;
        open_bit = ap (λ (w : ℕ). bit_at w i) (sym is) ∙ word_zero;
      }) (zero_of i zero_bit);
  complete = λ c i there open_bit. ⊎_elim
      (λ e. inr (zero_in i (inr (ap (λ (w : ℕ). bit_at w i) (is ∙ ap (λ (x : ℕ). slice_index (bus_words rows x)
      index) (sym e)) ∙ open_bit))))
      (λ differ. ⊎_elim (λ was. inl ((takes.rest c).1 (was, differ))) (λ zero. inr (zero_in i (inl zero)))
      (so_far.complete c i there open_bit))
      (cases_eq c b);
}
  where
    zero_of : (i : ℕ) → bit_at (bit_and all word) i ≡ 0 → (bit_at all i ≡ 0) ⊎ (bit_at word i ≡ 0)
    zero_of i zero_bit = grind (arith, bit_at_and all word i, bit_at-lt all i, bit_at-lt word i)

    zero_in : (i : ℕ) → (bit_at all i ≡ 0) ⊎ (bit_at word i ≡ 0) → bit_at (bit_and all word) i ≡ 0
    zero_in i either = grind (arith, bit_at_and all word i, bit_at-lt all i, bit_at-lt word i)

-- all are read
pub reads_all : (rows : Rows) (buses : Set32) (index : ℕ) (left : Set32) (all i : ℕ)
    → IsReadSoFar rows buses index left all
    → ((b : ℕ) → ¬ Has left.bits b)
    → i < 64
    → (bit_at all i ≡ 0) ↔ IsBusOpen rows buses index i
reads_all rows buses index left all i read none small = (
  read.sound i small,
  λ is. ⊎_elim (λ there. absurd (none is.b there)) (λ zero. zero) (read.complete is.b i is.there is.open_bit),
)

-- none of the bits is left
pub reads_enough : (rows : Rows) (buses : Set32) (index : ℕ) (left : Set32) (all i : ℕ)
    → IsReadSoFar rows buses index left all
    → all ≡ 0
    → i < 64
    → (bit_at all i ≡ 0) ↔ IsBusOpen rows buses index i
reads_enough rows buses index left all i read none small =
    let zero : bit_at all i ≡ 0 = ap (λ (w : ℕ). bit_at w i) none ∙ bit_at-zero i in
    (read.sound i small, λ is. zero)
