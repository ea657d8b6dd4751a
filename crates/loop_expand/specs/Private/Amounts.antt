-- The amounts of shifts.
use Rattle.std.specs.Prelude.{ℕ, Option, Some, None, ⊤, ℤ, pos, negsuc, ◌*ℤ◌, ◌≤ℤ◌}
use Rattle.fix_word.specs.declared.types.Format.{Format}
use Rattle.silage_syntax.specs.Tree.{Manifest}
use Rattle.silage_syntax.specs.Manifests.{Indices, HasValue}

-- a format may have a shift of so many bits: at most 40 to the left and 80 to the right
pub record IsShift (bits : ℤ) : Type 0 where
  pub lowest : negsuc 39 ≤ℤ bits
  pub highest : bits ≤ℤ pos 80

-- a shift with an amount has its value, and a format may have that shift
abbrev pub IsKnownAmount : Indices → Format → Option Manifest → Type 0
IsKnownAmount indices fmt None = ⊤
IsKnownAmount indices fmt (Some m) = (k : ℕ) × HasValue indices m k × IsShift (fmt.shift *ℤ pos k)
