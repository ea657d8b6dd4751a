-- The classes of bytes, all of ASCII. The byte behind the end of a source reads as 0, which is in none of them.
use Rattle.std.specs.Prelude.{ℕ, ◌+◌, ◌&&◌, ◌||◌, Bool, nat_eq, nat_le, List, slice_index}

-- space, tab, CR or LF
abbrev pub is_blank : ℕ → Bool
is_blank b = (nat_eq b 32 || nat_eq b 9) || (nat_eq b 13 || nat_eq b 10)

abbrev pub is_digit : ℕ → Bool
is_digit b = nat_le 48 b && nat_le b 57

-- a letter or `_`
abbrev pub is_letter : ℕ → Bool
is_letter b = ((nat_le 65 b && nat_le b 90) || (nat_le 97 b && nat_le b 122)) || nat_eq b 95

-- a byte that may stand in a name behind its first
abbrev pub is_name_byte : ℕ → Bool
is_name_byte b = is_letter b || is_digit b

-- `/*` stands at the place
abbrev pub opens_comment : List ℕ → ℕ → Bool
opens_comment bytes at = nat_eq (slice_index bytes at) 47 && nat_eq (slice_index bytes (at + 1)) 42

-- `*/` stands at the place
abbrev pub closes_comment : List ℕ → ℕ → Bool
closes_comment bytes at = nat_eq (slice_index bytes at) 42 && nat_eq (slice_index bytes (at + 1)) 47

-- a point with a digit behind it stands at the place
abbrev pub begins_fraction : List ℕ → ℕ → Bool
begins_fraction bytes at = nat_eq (slice_index bytes at) 46 && is_digit (slice_index bytes (at + 1))
