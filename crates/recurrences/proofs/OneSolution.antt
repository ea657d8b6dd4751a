-- A system without a delay-free loop has exactly one solution.
use Rattle.std.proofs.Common.{◌≡◌, ◌<◌, ℕ, Bool, true}
use Rattle.recurrences.specs.Systems.{Signals, System, IsOneSolution, HasNoDelaylessLoop}
use Rattle.recurrences.proofs.Determined.{IsDetermined, HasHeights}
use Rattle.recurrences.proofs.Unique.{same}
use Rattle.recurrences.proofs.Exists.{solution, solves}
use Rattle.recurrences.proofs.Heights.{has_heights}

pub one_solution : {E A : Type 0} (s : System E A) (is : IsDetermined s) (heights : HasHeights s)
    → IsOneSolution s (solution s is heights)
one_solution s is heights = record {
  solves = solves s is heights;
  unique = λ others h. same s is heights others (solution s is heights) h (solves s is heights);
}

-- elements are numbers below a count, and a test says what an element reads without a delay
pub loopless_solution :
    {A : Type 0} (s : System ℕ A) (is : IsDetermined s) (count : ℕ) (all : (e : ℕ) → s.IsElement e → e < count)
    (test : ℕ → ℕ → Bool) (tests : (e d : ℕ) → (test e d ≡ true → s.Reads e d 0) × (s.Reads e d 0 → test e d ≡ true))
    → HasNoDelaylessLoop s.Reads s.IsElement
    → (x : Signals ℕ A) × IsOneSolution s x
loopless_solution s is count all test tests loopless =
    let heights = has_heights s is count all test tests loopless in
    (solution s is heights, one_solution s is heights)
