-- A system with heights has a solution.
use Rattle.std.proofs.Common.{◌≡◌, ◌<◌, ◌≤◌, ◌+◌, ◌*◌, ℕ, zero, suc, refl, sym, ◌∙◌, subst, arith}
use Rattle.std.specs.Prelude.{pos, negsuc, ◌-ℤ◌}
use Rattle.recurrences.specs.Systems.{Signals, System, Solves}
use Rattle.recurrences.proofs.Determined.{IsDetermined, HasHeights}
use Rattle.recurrences.proofs.Samples.{When, now, earlier, before, when}

pub room : (m n t : ℕ) → m < n → m * t + t ≤ n * t
room m n t lt = grind arith

module _ {E A : Type 0} (s : System E A) (is : IsDetermined s) where
  -- each element's equation once
  abbrev step : Signals E A → Signals E A
  step x e (pos n) = is.give e n x
  step x e (negsuc j) = is.start e j

  abbrev begin : Signals E A
  begin e (pos n) = is.start e 0
  begin e (negsuc j) = is.start e j

  abbrev run : ℕ → Signals E A
  run zero = begin
  run (suc f) = step (run f)

  run_before : (f : ℕ) (e : E) (j : ℕ) → run f e (negsuc j) ≡ is.start e j
  run_before zero e j = refl
  run_before (suc f) e j = refl

  module _ (heights : HasHeights s) where
    -- the steps before the last, after which the element's value at sample n is there
    abbrev need : E → ℕ → ℕ
    need e n = n * heights.top + heights.height e

    abbrev Stable : ℕ → ℕ → Type 0
    Stable f g =
        (d : E) (m : ℕ)
        → s.IsElement d
        → m < s.samples
        → need d m < f
        → need d m < g
        → run f d (pos m) ≡ run g d (pos m)

    reads : (f g : ℕ) (e : E) (n : ℕ)
        → s.IsElement e
        → n < s.samples
        → need e n ≤ f
        → need e n ≤ g
        → Stable f g
        → (d : E) (k : ℕ)
        → s.Reads e d k
        → When n k
        → run f d (pos n -ℤ pos k) ≡ run g d (pos n -ℤ pos k)
    reads f g e n el lt a b lower d k r (now z t) =
        let low = heights.falls e d el (subst (λ (i : ℕ). s.Reads e d i) z r) in
        rw t (lower d n (is.elements e d k el r) lt (omega arith) (omega arith))
    reads f g e n el lt a b lower d k r (earlier m sooner t) =
        let more = room m n heights.top sooner in
        let low = heights.below d (is.elements e d k el r) in
        rw t (lower d m (is.elements e d k el r) (omega arith) (omega arith) (omega arith))
    reads f g e n el lt a b lower d k r (before j short t) = rw t (run_before f d j ∙ sym (run_before g d j))

    stable : (f g : ℕ) → Stable f g
    stable zero g e n el lt a b = absurd (omega arith)
    stable (suc f) zero e n el lt a b = absurd (omega arith)
    stable (suc f) (suc g) e n el lt a b =
        is.gives_once e n (run f) (run g) _ _ el
        (λ d k r. reads f g e n el lt (omega arith) (omega arith) (stable f g) d k r (when n k))
        (is.gives e n (run f) el lt) (is.gives e n (run g) el lt)

    abbrev pub solution : Signals E A
    solution e (pos n) = is.give e n (run (need e n))
    solution e (negsuc j) = is.start e j

    as_run : (f : ℕ) (d : E) (m : ℕ)
        → s.IsElement d
        → m < s.samples
        → need d m < f
        → run f d (pos m) ≡ solution d (pos m)
    as_run f d m el lt a = stable f (suc (need d m)) d m el lt a (omega arith)

    agrees : (e : E) (n : ℕ)
        → s.IsElement e
        → n < s.samples
        → (d : E) (k : ℕ)
        → s.Reads e d k
        → When n k
        → run (need e n) d (pos n -ℤ pos k) ≡ solution d (pos n -ℤ pos k)
    agrees e n el lt d k r (now z t) =
        let low = heights.falls e d el (subst (λ (i : ℕ). s.Reads e d i) z r) in
        rw t (as_run (need e n) d n (is.elements e d k el r) lt (omega arith))
    agrees e n el lt d k r (earlier m sooner t) =
        let more = room m n heights.top sooner in
        let low = heights.below d (is.elements e d k el r) in
        rw t (as_run (need e n) d m (is.elements e d k el r) (omega arith) (omega arith))
    agrees e n el lt d k r (before j short t) = rw t (run_before (need e n) d j)

    present : (e : E) (n : ℕ) → s.IsElement e → n < s.samples → s.Gives e n solution (solution e (pos n))
    present e n el lt =
        let same : is.give e n solution ≡ is.give e n (run (need e n)) =
        sym (is.gives_once e n (run (need e n)) solution _ _ el (λ d k r. agrees e n el lt d k r (when n k))
        (is.gives e n (run (need e n)) el lt) (is.gives e n solution el lt)) in
        subst (λ v. s.Gives e n solution v) same (is.gives e n solution el lt)

    pub solves : Solves s solution
    solves = record {
      past = λ e j el lt. is.starts e j el lt;
      present = present;
    }
