-- That what was misread has a place.
use Rattle.std.specs.Prelude.{ℕ, ◌≤◌}
use Rattle.micro_file.specs.declared.misread.Misread.{Misread}
use Rattle.micro_file.specs.declared.misread.Misread.TheVariants.{Field, Trailing}

-- it has a place among so many bytes
abbrev pub IsIn : ℕ → Misread → Type 0
IsIn size (Field left) = left ≤ size
IsIn size (Trailing left) = left ≤ size
IsIn size _ = Unit {0}
