-- What a `Name` stores.
use Rattle.std.specs.Prelude.{ℕ, ◌≤◌, List, take}
use Rattle.lists.specs.declared.name.Text.{Text}
use Rattle.lists.specs.declared.name.Text.TheVariants.{Short, Long}

-- the bytes of the text
abbrev pub bytes_of : Text → List ℕ
bytes_of (Short len bytes) = take len bytes
bytes_of (Long text) = text.value

-- a short text has no more bytes than there is room for
abbrev pub Fits : Text → Type 0
Fits (Short len bytes) = len ≤ 14
Fits (Long text) = Unit {0}
