-- A system with heights has one solution at most.
use Rattle.std.proofs.Common.{◌≡◌, ◌<◌, ◌≤◌, ℕ, zero, suc, subst, arith}
use Rattle.std.specs.Prelude.{pos, negsuc, ◌-ℤ◌}
use Rattle.recurrences.specs.Systems.{Signals, System, Solves, AreSame}
use Rattle.recurrences.proofs.Determined.{AgreeAt, IsDetermined, HasHeights}
use Rattle.recurrences.proofs.Samples.{When, now, earlier, before, when}

module _ {E A : Type 0} (s : System E A) (is : IsDetermined s) (heights : HasHeights s) where
  module _ (x y : Signals E A) (sx : Solves s x) (sy : Solves s y) where
    abbrev Agree : ℕ → Type 0
    Agree n = (e : E) → s.IsElement e → x e (pos n) ≡ y e (pos n)

    same_before : (d : E) (j : ℕ) → s.IsElement d → j < s.past → x d (negsuc j) ≡ y d (negsuc j)
    same_before d j el lt = is.starts_once d _ _ _ el (sx.past d j el lt) (sy.past d j el lt)

    -- at sample n, by height
    within : (n : ℕ)
        → n < s.samples
        → ((m : ℕ) → m < n → Agree m)
        → (h : ℕ) (e : E)
        → s.IsElement e
        → heights.height e < h
        → x e (pos n) ≡ y e (pos n)
    within n lt ih zero e el less = absurd (omega arith)
    within n lt ih (suc h) e el less =
        is.gives_once e n x y _ _ el (reads (λ d el2 low. within n lt ih h d el2 low)) (sx.present e n el lt)
        (sy.present e n el lt)
      where
        at : ((d : E) → s.IsElement d → heights.height d < h → x d (pos n) ≡ y d (pos n))
            → (d : E) (k : ℕ)
            → s.Reads e d k
            → When n k
            → x d (pos n -ℤ pos k) ≡ y d (pos n -ℤ pos k)
        at lower d k r (now z t) =
            let low = heights.falls e d el (subst (λ (i : ℕ). s.Reads e d i) z r) in
            rw t (lower d (is.elements e d k el r) (omega arith))
        at lower d k r (earlier m sooner t) = rw t (ih m sooner d (is.elements e d k el r))
        at lower d k r (before j short t) =
            let most = is.delays e d k el r in rw t (same_before d j (is.elements e d k el r) (omega arith))

        reads : ((d : E) → s.IsElement d → heights.height d < h → x d (pos n) ≡ y d (pos n)) → AgreeAt s e n x y
        reads lower d k r = at lower d k r (when n k)

    up_to : (N : ℕ) → N ≤ s.samples → (n : ℕ) → n < N → Agree n
    up_to zero le n lt = absurd (omega arith)
    up_to (suc N) le n lt = λ e el.
        within n (omega arith) (λ m less. up_to N (omega arith) m (omega arith)) (suc (heights.height e)) e el
        (omega arith)

    pub same : AreSame s x y
    same = record {
      past = same_before;
      present = λ e n el lt. up_to s.samples (omega arith) n lt e el;
    }
