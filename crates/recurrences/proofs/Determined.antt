-- What a system needs to have one solution.
use Rattle.std.proofs.Common.{◌≡◌, ℕ, ◌+◌, ◌<◌, ◌≤◌}
use Rattle.std.specs.Prelude.{pos, ◌-ℤ◌}
use Rattle.recurrences.specs.Systems.{Signals, System}

module _ {E A : Type 0} where
  -- the signals agree on all that the element reads at sample n
  abbrev pub AgreeAt : System E A → E → ℕ → Signals E A → Signals E A → Type 0
  AgreeAt s e n x y = (d : E) (ago : ℕ) → s.Reads e d ago → x d (pos n -ℤ pos ago) ≡ y d (pos n -ℤ pos ago)

  -- Each element has one value at a sample before sample 0, and one at each sample from there on, which depends only on
  -- what is read. Elements read elements, no longer ago than there are samples.
  pub record IsDetermined (s : System E A) : Type 0 where
    pub start : E → ℕ → A
    pub starts : (e : E) (j : ℕ) → s.IsElement e → j < s.past → s.Starts e (j + 1) (start e j)
    pub starts_once : (e : E) (j : ℕ) (v w : A) → s.IsElement e → s.Starts e j v → s.Starts e j w → v ≡ w
    pub give : E → ℕ → Signals E A → A
    pub gives : (e : E) (n : ℕ) (x : Signals E A) → s.IsElement e → n < s.samples → s.Gives e n x (give e n x)
    pub gives_once : (e : E) (n : ℕ) (x y : Signals E A) (v w : A)
        → s.IsElement e
        → AgreeAt s e n x y
        → s.Gives e n x v
        → s.Gives e n y w
        → v ≡ w
    pub elements : (e d : E) (ago : ℕ) → s.IsElement e → s.Reads e d ago → s.IsElement d
    pub delays : (e d : E) (ago : ℕ) → s.IsElement e → s.Reads e d ago → ago ≤ s.past

  -- a number for each element, which is less for what it reads without a delay
  pub record HasHeights (s : System E A) : Type 0 where
    pub height : E → ℕ
    pub top : ℕ
    pub falls : (e d : E) → s.IsElement e → s.Reads e d 0 → height d < height e
    pub below : (e : E) → s.IsElement e → height e < top
