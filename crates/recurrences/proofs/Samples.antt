-- Where a read looks.
use Rattle.std.proofs.Common.{◌≡◌, ◌<◌, ◌≤◌, ◌-◌, ◌⊎◌, inl, inr, ℕ, zero, suc, refl, arith}
use Rattle.std.specs.Prelude.{pos, negsuc, ◌-ℤ◌}
use Rattle.std.proofs.lemmas.Int.{ints}
use Rattle.std.proofs.lemmas.Bool.{cases_lt}

-- at the same sample, at an earlier one, or before sample 0
pub data When (n ago : ℕ) : Type 0 where
  now : ago ≡ 0 → pos n -ℤ pos ago ≡ pos n → When n ago
  earlier : (m : ℕ) → m < n → pos n -ℤ pos ago ≡ pos m → When n ago
  before : (j : ℕ) → j < ago → pos n -ℤ pos ago ≡ negsuc j → When n ago

pub when : (n ago : ℕ) → When n ago
when n zero = now refl (omega (arith, ints))
when n (suc k) = by (cases_lt k n)
  where
    by : (k < n) ⊎ (n ≤ k) → When n (suc k)
    by (inl lt) = earlier (n - suc k) (omega arith) (omega (arith, ints))
    by (inr le) = before (k - n) (omega arith) (omega (arith, ints))
