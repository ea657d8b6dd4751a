-- What the tests of the typing table decide.
use Rattle.std.proofs.Common.{◌≡◌, refl, ap₂, arith, ℕ, ◌-◌, ◌^◌, ◌&&◌, Bool, true, false, ℤ, pos, neg_ℤ, ◌≤ℤ◌, ◌<ℤ◌}
use Rattle.std.specs.Prelude.{int_le, int_lt, nat_eq, nat_le}
use Rattle.std.proofs.lemmas.Bool.{eqb-true, leb-true, and_from}
use Rattle.std.proofs.lemmas.Int.{ints}
use Rattle.lists.proofs.Bools.{both_true}
use Rattle.fix_word.specs.Words.{IsWord, IsShape}
use Rattle.fix_word.specs.declared.types.FixType.{FixType}
use Rattle.fix_word.specs.declared.types.SigType.{SigType}
use Rattle.fix_word.specs.declared.types.SigType.TheVariants.{Fix, Bool as Truths}
use Rattle.silage_meaning.specs.Types.{HasShapeOf}
use Rattle.name_rules.specs.Meanings.{most_bits}
use Rattle.type_rules.specs.TypeRules.{is_word, is_same_shape}
use Rattle.type_rules.specs.Private.Sound.{IsSoundType}

pub le_is : (a b : ℤ) → int_le a b ≡ true → a ≤ℤ b
le_is a b e = grind (arith, ints, e)

le_does : (a b : ℤ) → a ≤ℤ b → int_le a b ≡ true
le_does a b h = grind (arith, ints, h)

lt_is : (a b : ℤ) → int_lt a b ≡ true → a <ℤ b
lt_is a b e = grind (arith, ints, e)

lt_does : (a b : ℤ) → a <ℤ b → int_lt a b ≡ true
lt_does a b h = grind (arith, ints, h)

pub word_is : (w : ℕ) (z : ℤ) → is_word w z ≡ true → IsWord w z
word_is w z e =
    let h = both_true (int_le (neg_ℤ (pos (2 ^ (w - 1)))) z) (int_lt z (pos (2 ^ (w - 1)))) e in
    record { low = le_is _ _ h.0; high = lt_is _ _ h.1 }

pub word_does : (w : ℕ) (z : ℤ) → IsWord w z → is_word w z ≡ true
word_does w z h = and_from _ _ (le_does _ _ h.low) (lt_does _ _ h.high)

no_word : (w : ℕ) (z : ℤ) (b : Bool) → is_word w z ≡ b → (IsWord w z → ⊥) → is_word w z ≡ false
no_word w z false e n = e
no_word w z true e n = absurd (n (word_is w z e))

pub word_not : (w : ℕ) (z : ℤ) → (IsWord w z → ⊥) → is_word w z ≡ false
word_not w z n = no_word w z (is_word w z) refl n

pub shape_is : (a b : SigType) → is_same_shape a b ≡ true → HasShapeOf a b
shape_is (Fix a) (Fix b) e =
    let h = both_true (nat_eq a.shape.w b.shape.w) (nat_eq a.shape.f b.shape.f) e in
    ap₂ (λ (w : ℕ) (f : ℕ). record { w = w; f = f }) (eqb-true _ _ h.0) (eqb-true _ _ h.1)
shape_is (Fix a) Truths e = absurd (cc)
shape_is Truths (Fix b) e = absurd (cc)
shape_is Truths Truths e = tt

pub sound_shape : (t : FixType) → IsSoundType (Fix t) → IsShape t.shape
sound_shape t e =
    let h = both_true (nat_le 1 t.shape.w) (nat_le t.shape.w most_bits && nat_le t.shape.f t.shape.w) e in
    let k = both_true (nat_le t.shape.w most_bits) (nat_le t.shape.f t.shape.w) h.1 in
    record {
      width = record { narrowest = leb-true _ _ h.0; widest = leb-true _ _ k.0 };
      places = leb-true _ _ k.1;
    }
