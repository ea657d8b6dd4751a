-- The formats of typed expressions are those of the values of expressions.
use Rattle.std.proofs.Common.{◌≡◌, refl, sym, subst, arith, ℕ, zero, suc, ◌^◌, ℤ, pos, negsuc, neg_ℤ, ◌*ℤ◌}
use Rattle.std.proofs.lemmas.Int.{ints}
use Rattle.fix_word.specs.Words.{IsFit, IsForm, overflow_of}
use Rattle.fix_word.specs.declared.types.FixType.{FixType}
use Rattle.fix_word.specs.declared.types.Format.{Format}
use Rattle.fix_word.specs.declared.types.Mode.{Mode}
use Rattle.fix_word.proofs.Forms.{fit_overflow, overflow_fit}
use Rattle.type_rules.specs.Translation.{fitted, one_bit}
use Rattle.type_rules.proofs.TypedNodes.{by_bits}
use Rattle.std.specs.Prelude.{true, false}

pub fit_form : (t : FixType) (q v : ℤ) → IsFit q t.shape.w t.mode v → IsForm q (fitted t) v
fit_form t q v h = record { whole = q; scaled = refl; fitted = fit_overflow q t.shape.w t.mode v h }

pub form_fit : (t : FixType) (q v : ℤ) → IsForm q (fitted t) v → IsFit q t.shape.w t.mode v
form_fit t q v h =
    overflow_fit q t.shape.w t.mode v
    (subst (λ (z : ℤ). IsFit z t.shape.w (overflow_of t.mode) v) h.scaled h.fitted)

abbrev scaled_by : ℤ → Mode → ℕ → Format
scaled_by z mode w = record { shift = z; mode = mode; width = w }

up_form : (mode : Mode) (w : ℕ) (a : ℤ) (k : ℕ) (v : ℤ)
    → IsFit (a *ℤ pos (2 ^ k)) w mode v
    → IsForm a (scaled_by (neg_ℤ (pos k)) mode w) v
up_form mode w a zero v h =
    let e : a *ℤ pos 1 ≡ a = omega (arith, ints) in
    record { whole = a; scaled = refl; fitted = subst (λ (z : ℤ). IsFit z w mode v) e h }
up_form mode w a (suc k) v h = record { whole = a *ℤ pos (2 ^ suc k); scaled = refl; fitted = h }

form_up : (mode : Mode) (w : ℕ) (a : ℤ) (k : ℕ) (v : ℤ)
    → IsForm a (scaled_by (neg_ℤ (pos k)) mode w) v
    → IsFit (a *ℤ pos (2 ^ k)) w mode v
form_up mode w a zero v h =
    let e : a *ℤ pos 1 ≡ a = omega (arith, ints) in
    let f : h.whole ≡ a = h.scaled in
    subst (λ (z : ℤ). IsFit z w mode v) (sym e) (subst (λ (z : ℤ). IsFit z w mode v) f h.fitted)
form_up mode w a (suc k) v h = subst (λ (z : ℤ). IsFit z w mode v) h.scaled h.fitted

pub left_bits : (k : ℕ) → negsuc 0 *ℤ pos k ≡ neg_ℤ (pos k)
left_bits k = omega (arith, ints)

pub right_bits : (k : ℕ) → pos 1 *ℤ pos k ≡ pos k
right_bits k = omega (arith, ints)

pub left_form : (t : FixType) (a : ℤ) (k : ℕ) (v : ℤ)
    → IsFit (a *ℤ pos (2 ^ k)) t.shape.w t.mode v
    → IsForm a (by_bits (one_bit true t) k) v
left_form t a k v h =
    subst (λ (z : ℤ). IsForm a (scaled_by z (overflow_of t.mode) t.shape.w) v) (sym (left_bits k))
    (up_form (overflow_of t.mode) t.shape.w a k v (fit_overflow (a *ℤ pos (2 ^ k)) t.shape.w t.mode v h))

pub form_left : (t : FixType) (a : ℤ) (k : ℕ) (v : ℤ)
    → IsForm a (by_bits (one_bit true t) k) v
    → IsFit (a *ℤ pos (2 ^ k)) t.shape.w t.mode v
form_left t a k v h =
    overflow_fit (a *ℤ pos (2 ^ k)) t.shape.w t.mode v
    (form_up (overflow_of t.mode) t.shape.w a k v
    (subst (λ (z : ℤ). IsForm a (scaled_by z (overflow_of t.mode) t.shape.w) v) (left_bits k) h))

pub right_form : (t : FixType) (a : ℤ) (k : ℕ) (v : ℤ)
    → IsForm a (scaled_by (pos k) t.mode t.shape.w) v
    → IsForm a (by_bits (one_bit false t) k) v
right_form t a k v h = subst (λ (z : ℤ). IsForm a (scaled_by z t.mode t.shape.w) v) (sym (right_bits k)) h

pub form_right : (t : FixType) (a : ℤ) (k : ℕ) (v : ℤ)
    → IsForm a (by_bits (one_bit false t) k) v
    → IsForm a (scaled_by (pos k) t.mode t.shape.w) v
form_right t a k v h = subst (λ (z : ℤ). IsForm a (scaled_by z t.mode t.shape.w) v) (right_bits k) h
