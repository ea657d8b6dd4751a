-- The numbers of nodes in the lowered list.
use Rattle.std.specs.Prelude.{◌≡◌, ℕ, ◌<◌, List, length, slice_index_or}
use Rattle.plan_core.specs.Lowered.{own, IsNumber}

abbrev pub number_in : List ℕ → ℕ → ℕ
number_in numbers v = slice_index_or numbers v 0

-- the numbers of the first n nodes
pub record AreNumbers (delays : List (List ℕ)) (n : ℕ) (numbers : List ℕ) : Type 0 where
  pub count : length numbers ≡ n
  pub each : (v : ℕ) → v < n → IsNumber delays (own v) (number_in numbers v)
