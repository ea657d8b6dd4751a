-- A decimal number has one nearest word, which is in the range or is not.
use Rattle.std.proofs.Common.{arith, ◌≡◌, refl, sym, ap, subst, ◌∙◌, ℕ, ◌^◌, ◌*◌, ◌≤◌, ℤ, pos, negsuc, ◌+ℤ◌, neg_ℤ}
use Rattle.std.proofs.Common.{Bool, true, false}
use Rattle.std.specs.Int.{int_div_euclid}
use Rattle.std.proofs.Math.Nat.{one-le-pow}
use Rattle.fix_word.specs.Words.{IsWord, IsNearest, IsLiteral, IsOutOfRange, signed}
use Rattle.fix_word.specs.Values.{floor_of, nearest_of}
use Rattle.fix_word.specs.declared.types.Shape.{Shape}
use Rattle.fix_word.proofs.Floors.{floor_is, floor_unique}

pub nearest_is : (negative : Bool) (digits places f : ℕ)
    → IsNearest negative digits places f (nearest_of negative digits places f)
nearest_is negative digits places f =
    let least : 1 ≤ 10 ^ places = one-le-pow places 10 (omega arith) in
    floor_is (signed negative (2 * digits * 2 ^ f) +ℤ pos (10 ^ places)) (2 * 10 ^ places) (omega (arith, least))

pub nearest_unique : (negative : Bool) (digits places f : ℕ) (r r' : ℤ)
    → IsNearest negative digits places f r
    → IsNearest negative digits places f r'
    → r ≡ r'
nearest_unique negative digits places f r r' x y =
    floor_unique (signed negative (2 * digits * 2 ^ f) +ℤ pos (10 ^ places)) (2 * 10 ^ places) r r' x y

pub literal_unique : (negative : Bool) (digits places : ℕ) (shape : Shape) (r r' : ℤ)
    → IsLiteral negative digits places shape r
    → IsLiteral negative digits places shape r'
    → r ≡ r'
literal_unique negative digits places shape r r' x y =
    nearest_unique negative digits places shape.f r r' x.nearest y.nearest

-- a literal out of range has no raw word
pub out_of_range : (negative : Bool) (digits places : ℕ) (shape : Shape) (r : ℤ)
    → IsOutOfRange negative digits places shape
    → IsLiteral negative digits places shape r
    → ⊥
out_of_range negative digits places shape r x y =
    let e : r ≡ x.raw = nearest_unique negative digits places shape.f r x.raw y.nearest x.nearest in
    x.outside (subst (λ (z : ℤ). IsWord shape.w z) e y.word)

div_is : (q : ℤ) (n : ℕ) → int_div_euclid q (pos n) ≡ floor_of q n
div_is (pos a) n = refl
div_is (negsuc a) n = refl

-- the nearest number by a division of machine numbers
pub nearest_as : (negative : Bool) (digits places f : ℕ) (q d r m : ℤ)
    → q ≡ signed negative (2 * digits * 2 ^ f) +ℤ pos (10 ^ places)
    → d ≡ pos (2 * 10 ^ places)
    → r ≡ int_div_euclid q d
    → m ≡ r
    → m ≡ nearest_of negative digits places f
nearest_as negative digits places f q d r m e1 e2 e3 e4 =
    e4 ∙ e3 ∙ ap (λ (x : ℤ). int_div_euclid x d) e1
    ∙ ap (λ (x : ℤ). int_div_euclid (signed negative (2 * digits * 2 ^ f) +ℤ pos (10 ^ places)) x) e2
    ∙ div_is (signed negative (2 * digits * 2 ^ f) +ℤ pos (10 ^ places)) (2 * 10 ^ places)

pub signed_true : (negative : Bool) (n : ℕ) → negative ≡ true → neg_ℤ (pos n) ≡ signed negative n
signed_true negative n e = ap (λ (x : Bool). signed x n) (sym e)

pub signed_false : (negative : Bool) (n : ℕ) → negative ≡ false → pos n ≡ signed negative n
signed_false negative n e = ap (λ (x : Bool). signed x n) (sym e)

pub literal_as : (negative : Bool) (digits places : ℕ) (shape : Shape) (r m : ℤ)
    → r ≡ nearest_of negative digits places shape.f
    → m ≡ r
    → IsWord shape.w r
    → IsLiteral negative digits places shape m
literal_as negative digits places shape r m e f word =
    record {
      nearest =
          subst (λ (z : ℤ). IsNearest negative digits places shape.f z) (sym (f ∙ e))
          (nearest_is negative digits places shape.f);
      word = subst (λ (z : ℤ). IsWord shape.w z) (sym f) word;
    }

pub outside_as : (negative : Bool) (digits places : ℕ) (shape : Shape) (r : ℤ)
    → r ≡ nearest_of negative digits places shape.f
    → (IsWord shape.w r → ⊥)
    → IsOutOfRange negative digits places shape
outside_as negative digits places shape r e outside =
    record {
      raw = r;
      nearest =
          subst (λ (z : ℤ). IsNearest negative digits places shape.f z) (sym e)
          (nearest_is negative digits places shape.f);
      outside = outside;
    }
