-- What each equation hands on holds of every value of a system with heights.
use Rattle.std.proofs.Common.{◌<◌, ◌≤◌, ℕ, zero, suc, subst, arith}
use Rattle.std.specs.Prelude.{ℤ, pos, negsuc, ◌-ℤ◌}
use Rattle.recurrences.specs.Systems.{System}
use Rattle.recurrences.proofs.Determined.{IsDetermined, HasHeights}
use Rattle.recurrences.proofs.Samples.{When, now, earlier, before, when}

module _ {E A : Type 0} (s : System E A) (is : IsDetermined s) (heights : HasHeights s) where
  -- P holds of all that the element reads at sample n
  abbrev pub HoldsOfReads : (E → ℤ → Type 0) → E → ℕ → Type 0
  HoldsOfReads P e n = (d : E) (ago : ℕ) → s.Reads e d ago → P d (pos n -ℤ pos ago)

  module _ (P : E → ℤ → Type 0) (past : (e : E) (j : ℕ) → s.IsElement e → j < s.past → P e (negsuc j))
      (gives : (e : E) (n : ℕ) → s.IsElement e → n < s.samples → HoldsOfReads P e n → P e (pos n)) where
    -- at sample n, by height
    within : (n : ℕ)
        → n < s.samples
        → ((m : ℕ) → m < n → (e : E) → s.IsElement e → P e (pos m))
        → (h : ℕ) (e : E)
        → s.IsElement e
        → heights.height e < h
        → P e (pos n)
    within n lt earlier_ones zero e el less = absurd (omega arith)
    within n lt earlier_ones (suc h) e el less =
        gives e n el lt (reads (λ d el2 low. within n lt earlier_ones h d el2 low))
      where
        at : ((d : E) → s.IsElement d → heights.height d < h → P d (pos n))
            → (d : E) (k : ℕ)
            → s.Reads e d k
            → When n k
            → P d (pos n -ℤ pos k)
        at lower d k r (now z t) =
            let low = heights.falls e d el (subst (λ (i : ℕ). s.Reads e d i) z r) in
            rw t (lower d (is.elements e d k el r) (omega arith))
        at lower d k r (earlier m sooner t) = rw t (earlier_ones m sooner d (is.elements e d k el r))
        at lower d k r (before j short t) =
            let most = is.delays e d k el r in
            rw t (past d j (is.elements e d k el r) (omega arith))

        reads : ((d : E) → s.IsElement d → heights.height d < h → P d (pos n)) → HoldsOfReads P e n
        reads lower d k r = at lower d k r (when n k)

    up_to : (N : ℕ) → N ≤ s.samples → (n : ℕ) → n < N → (e : E) → s.IsElement e → P e (pos n)
    up_to zero le n lt = absurd (omega arith)
    up_to (suc N) le n lt =
        λ e el. within n (omega arith) (λ m less. up_to N (omega arith) m (omega arith)) (suc (heights.height e)) e el
        (omega arith)

    pub along : (e : E) (n : ℕ) → s.IsElement e → n < s.samples → P e (pos n)
    along e n el lt = up_to s.samples (omega arith) n lt e el
