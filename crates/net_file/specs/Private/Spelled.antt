-- A wire, by the bytes of its text.
use Rattle.std.specs.Prelude.{ℕ, ◌-◌, ◌==◌, nat_le, nat_lt, Bool, ◌&&◌, if◌then◌else◌, List, length, slice_index, drop}
use Rattle.std.specs.Prelude.{Option, Some, None, option_map}
use Rattle.toml_rows.specs.Values.{is_within}
use Rattle.net_core.specs.declared.types.Wire.{Wire}
use Rattle.net_core.specs.declared.types.Wire.TheVariants.{Input, From}

abbrev pub digit : ℕ → Option ℕ
digit byte = if is_within 48 57 byte then Some (byte - 48) else None

-- 10 to 15 in two digits
abbrev pub teen : ℕ → ℕ → Option ℕ
teen tens ones = if tens == 49 && is_within 48 53 ones then Some (ones - 38) else None

-- a number below 16 in decimal, without leading zeros
unfoldable pub number : List ℕ → Option ℕ
number text =
    if length text == 1 then digit (slice_index text 0)
    else (if length text == 2 then teen (slice_index text 0) (slice_index text 1) else None)

-- whether the text begins with `in.`
abbrev pub is_input : List ℕ → Bool
is_input text =
    nat_le 3 (length text) && (slice_index text 0 == 105 && (slice_index text 1 == 110 && slice_index text 2 == 46))

-- whether the second byte is a dot
abbrev pub is_from : List ℕ → Bool
is_from text = nat_le 2 (length text) && slice_index text 1 == 46

abbrev pub from : Option ℕ → Option ℕ → Option Wire
from (Some q) (Some j) = Some (From q j)
from (Some q) None = None
from None j = None

-- the wire that is written so
unfoldable pub spelled : List ℕ → Option Wire
spelled text =
    if is_input text then option_map Input (number (drop 3 text))
    else (if is_from text then from (digit (slice_index text 0)) (number (drop 2 text)) else None)

-- whether the wire may lead to processor p
abbrev pub is_wire : (inputs p : ℕ) → Wire → Bool
is_wire inputs p (Input j) = nat_lt j inputs
is_wire inputs p (From q j) = nat_lt q p
