-- The numbers of the nodes of raw words, as a list of words with numbers.
use Rattle.std.specs.Prelude.{ℕ, ℤ, List, Option, Some, None, if◌then◌else◌}
use Rattle.std.specs.Map.{lookup}
use Rattle.std.specs.Ordering.{int_eq}

abbrev pub number_in : List (ℤ × ℕ) → ℤ → Option ℕ
number_in entries word = lookup (int_eq word) entries

-- the number, if this is its word
abbrev pub number_if : ℤ → ℕ → ℤ → Option ℕ
number_if word number other = if int_eq word other then Some number else None
