-- Sets of numbers, as the bits of a number.
use Rattle.std.specs.Prelude.{◌≡◌, ◌≢◌, ℕ, ◌<◌, ◌↔◌, List, Contains}
use Rattle.std.specs.List.{AllPairs}
use Rattle.std.specs.Int.{bit_at}

-- number k is in the set
pub record Has (bits k : ℕ) : Type 0 where
  pub bit : bit_at bits k ≡ 1

-- k is in the old set, and the new one has the others
pub record IsTaken (old k new : ℕ) : Type 0 where
  pub there : Has old k
  pub rest : (j : ℕ) → Has new j ↔ (Has old j × (j ≢ k))
  pub less : new < old

-- k is the first in the old set, and the new one has the others
pub record IsFirstOf (old k new : ℕ) : Type 0 where
  pub taken : IsTaken old k new
  pub first : (j : ℕ) → j < k → ¬ Has old j

-- k is the last in the old set, and the new one has the others
pub record IsLastOf (old k new : ℕ) : Type 0 where
  pub taken : IsTaken old k new
  pub last : (j : ℕ) → k < j → ¬ Has old j

-- the numbers of the set, each once, rising
pub record AreNumbersOf (bits : ℕ) (numbers : List ℕ) : Type 0 where
  pub rise : AllPairs (λ (a b : ℕ). a < b) numbers
  pub each : (k : ℕ) → Contains numbers k ↔ Has bits k
