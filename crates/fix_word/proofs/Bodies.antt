-- What the bodies compute, by the functions of the specs.
use Rattle.std.proofs.Common.{arith, ◌≡◌, ◌∙◌, sym, ap, subst, ℕ, zero, suc, ◌^◌, ◌≤◌, ◌-◌, ℤ, pos, negsuc, ◌+ℤ◌, ◌*ℤ◌}
use Rattle.std.proofs.Common.{◌<ℤ◌, unsigned_abs}
use Rattle.std.proofs.Common.{◌⊎◌, inl, inr}
use Rattle.std.specs.Int.{int_shr}
use Rattle.std.proofs.lemmas.Int.{ints}
use Rattle.fix_word.specs.Words.{IsWidth, IsWrap, IsForm, rounding}
use Rattle.fix_word.specs.Operations.{IsApply}
use Rattle.fix_word.specs.Values.{floor_of, wrap_of, scaled_of, form_of}
use Rattle.fix_word.specs.declared.types.Format.{Format}
use Rattle.fix_word.specs.declared.types.Mode.{Mode}
use Rattle.fix_word.specs.declared.types.Mode.TheVariants.{Round, RoundSat}
use Rattle.fix_word.specs.declared.operation.Op.{Op}
use Rattle.fix_word.proofs.Wraps.{wrap_is}
use Rattle.fix_word.proofs.Shifts.{shift_is, rounds_half}
use Rattle.fix_word.proofs.Forms.{form_is}

pub wrap_as : (q : ℤ) (w : ℕ) (m : ℤ) → 1 ≤ w → m ≡ wrap_of q w → IsWrap q w m
wrap_as q w m h e = subst (λ (z : ℤ). IsWrap q w z) (sym e) (wrap_is q w h)

pub scaled_up : (q shift r : ℤ) (mode : Mode)
    → shift <ℤ pos 0
    → r ≡ q *ℤ pos (2 ^ unsigned_abs shift)
    → r ≡ scaled_of q shift mode
scaled_up q (pos n) r mode h e = absurd (omega (arith, ints))
scaled_up q (negsuc n) r mode h e = e

pub rounding_half : (mode : Mode) (half : ℕ) → (mode ≡ Round) ⊎ (mode ≡ RoundSat) → rounding mode half ≡ half
rounding_half mode half (inl e) = ap (λ (m : Mode). rounding m half) e
rounding_half mode half (inr e) = ap (λ (m : Mode). rounding m half) e

-- half a step is added to what is left of half steps
pub scaled_round : (q r : ℤ) (steps : ℕ) (mode : Mode)
    → 1 ≤ steps
    → rounding mode (2 ^ (steps - 1)) ≡ 2 ^ (steps - 1)
    → r ≡ int_shr (int_shr q (steps - 1) +ℤ pos 1) 1
    → r ≡ scaled_of q (pos steps) mode
scaled_round q r zero mode some e1 e2 = absurd (omega (arith, some))
scaled_round q r (suc s) mode some e1 e2 =
    let same : suc s - 1 ≡ s = omega arith in
    let half : rounding mode (2 ^ s) ≡ 2 ^ s = subst (λ (k : ℕ). rounding mode (2 ^ k) ≡ 2 ^ k) same e1 in
    let inner : int_shr q (suc s - 1) ≡ floor_of q (2 ^ s) = ap (λ (k : ℕ). int_shr q k) same ∙ shift_is q s in
    e2 ∙ ap (λ (z : ℤ). int_shr (z +ℤ pos 1) 1) inner ∙ shift_is (floor_of q (2 ^ s) +ℤ pos 1) 1
    ∙ rounds_half q s ∙ ap (λ (k : ℕ). floor_of (q +ℤ pos k) (2 ^ suc s)) (sym half)

pub form_as : (q : ℤ) (fmt : Format) (m : ℤ) → IsWidth fmt.width → m ≡ form_of q fmt → IsForm q fmt m
form_as q fmt m h e = subst (λ (z : ℤ). IsForm q fmt z) (sym e) (form_is q fmt h)

pub product_as : (a b q p : ℤ) → a ≡ q → b ≡ p → a *ℤ b ≡ q *ℤ p
product_as a b q p e f = cc

pub form_same : (q q' : ℤ) (fmt : Format) (m m' : ℤ) → q' ≡ q → m' ≡ m → IsForm q' fmt m → IsForm q fmt m'
form_same q q' fmt m m' e f x = subst (λ (z : ℤ). IsForm q fmt z) (sym f) (subst (λ (z : ℤ). IsForm z fmt m) e x)

pub apply_same : (op op' : Op) (fmt : Format) (a b c m : ℤ)
    → op ≡ op'
    → IsApply op' fmt a b c m
    → IsApply op fmt a b c m
apply_same op op' fmt a b c m e x = subst (λ (known : Op). IsApply known fmt a b c m) (sym e) x
