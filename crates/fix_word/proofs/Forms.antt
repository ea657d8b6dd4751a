-- A number has one word in a format.
use Rattle.std.proofs.Common.{◌≡◌, refl, sym, subst, ◌∙◌, zero, suc, ◌^◌, ◌≤◌, ℕ, ℤ, pos, negsuc, ◌+ℤ◌}
use Rattle.std.proofs.lemmas.Nat.{pow_pos}
use Rattle.fix_word.specs.Words.{IsWord, IsWidth, IsFit, IsScaled, IsForm, rounding, overflow_of}
use Rattle.fix_word.specs.Values.{scaled_of, fit_of, form_of}
use Rattle.fix_word.specs.declared.types.Format.{Format}
use Rattle.fix_word.specs.declared.types.Mode.{Mode}
use Rattle.fix_word.specs.declared.types.Mode.TheVariants.{Trunc, Round, Sat, RoundSat}
use Rattle.fix_word.proofs.Floors.{floor_is, floor_unique}
use Rattle.fix_word.proofs.Wraps.{wrap_is, wrap_word, wrap_unique}
use Rattle.fix_word.proofs.Clips.{clip_is, clip_word, clip_unique}

pub fit_is : (q : ℤ) (w : ℕ) (mode : Mode) → 1 ≤ w → IsFit q w mode (fit_of q w mode)
fit_is q w Trunc h = wrap_is q w h
fit_is q w Round h = wrap_is q w h
fit_is q w Sat h = clip_is q w
fit_is q w RoundSat h = clip_is q w

pub fit_word : (q : ℤ) (w : ℕ) (mode : Mode) → 1 ≤ w → IsWord w (fit_of q w mode)
fit_word q w Trunc h = wrap_word q w h
fit_word q w Round h = wrap_word q w h
fit_word q w Sat h = clip_word q w
fit_word q w RoundSat h = clip_word q w

pub fit_unique : (q : ℤ) (w : ℕ) (mode : Mode) (m m' : ℤ) → 1 ≤ w → IsFit q w mode m → IsFit q w mode m' → m ≡ m'
fit_unique q w Trunc m m' h x y = wrap_unique q w m m' h x y
fit_unique q w Round m m' h x y = wrap_unique q w m m' h x y
fit_unique q w Sat m m' h x y = clip_unique q w m m' x y
fit_unique q w RoundSat m m' h x y = clip_unique q w m m' x y

-- the overflow mode alone says how a whole number is brought to a width
pub fit_overflow : (q : ℤ) (w : ℕ) (mode : Mode) (m : ℤ) → IsFit q w mode m → IsFit q w (overflow_of mode) m
fit_overflow q w Trunc m h = h
fit_overflow q w Round m h = h
fit_overflow q w Sat m h = h
fit_overflow q w RoundSat m h = h

pub overflow_fit : (q : ℤ) (w : ℕ) (mode : Mode) (m : ℤ) → IsFit q w (overflow_of mode) m → IsFit q w mode m
overflow_fit q w Trunc m h = h
overflow_fit q w Round m h = h
overflow_fit q w Sat m h = h
overflow_fit q w RoundSat m h = h

pub scaled_is : (q shift : ℤ) (mode : Mode) → IsScaled q shift mode (scaled_of q shift mode)
scaled_is q (negsuc s) mode = refl
scaled_is q (pos zero) mode = refl
scaled_is q (pos (suc s)) mode = floor_is (q +ℤ pos (rounding mode (2 ^ s))) (2 ^ suc s) (pow_pos (suc s))

pub scaled_unique : (q shift : ℤ) (mode : Mode) (r r' : ℤ) → IsScaled q shift mode r → IsScaled q shift mode r' → r ≡ r'
scaled_unique q (negsuc s) mode r r' x y = x ∙ sym y
scaled_unique q (pos zero) mode r r' x y = x ∙ sym y
scaled_unique q (pos (suc s)) mode r r' x y =
    floor_unique (q +ℤ pos (rounding mode (2 ^ s))) (2 ^ suc s) r r' x y

pub form_is : (q : ℤ) (fmt : Format) → IsWidth fmt.width → IsForm q fmt (form_of q fmt)
form_is q fmt h = record {
  whole = scaled_of q fmt.shift fmt.mode;
  scaled = scaled_is q fmt.shift fmt.mode;
  fitted = fit_is (scaled_of q fmt.shift fmt.mode) fmt.width fmt.mode h.narrowest;
}

pub form_word : (q : ℤ) (fmt : Format) → IsWidth fmt.width → IsWord fmt.width (form_of q fmt)
form_word q fmt h = fit_word (scaled_of q fmt.shift fmt.mode) fmt.width fmt.mode h.narrowest

pub form_unique : (q : ℤ) (fmt : Format) (m m' : ℤ) → IsWidth fmt.width → IsForm q fmt m → IsForm q fmt m' → m ≡ m'
form_unique q fmt m m' h x y =
    let e : x.whole ≡ y.whole = scaled_unique q fmt.shift fmt.mode x.whole y.whole x.scaled y.scaled in
    fit_unique y.whole fmt.width fmt.mode m m' h.narrowest
    (subst (λ (whole : ℤ). IsFit whole fmt.width fmt.mode m) e x.fitted) y.fitted
