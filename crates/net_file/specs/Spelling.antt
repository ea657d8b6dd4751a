-- How a wire is written: `in.J` for word J of the net's row, and `Q.J` for output word J of processor Q, with the
-- numbers in decimal without leading zeros.
use Rattle.std.specs.Prelude.{ℕ, ◌*◌, ◌/◌, ◌%◌, List, ◌++◌, map, codes, Option, find}
use Rattle.std.specs.Fmt.{decimal}
use Rattle.std.specs.List.{range_with_len}
use Rattle.std.specs.Str.{bytes_eq}
use Rattle.net_core.specs.Allowed.{most_words}
use Rattle.net_core.specs.declared.types.Wire.{Wire}
use Rattle.net_core.specs.declared.types.Wire.TheVariants.{Input, From}

unfoldable pub spelling : Wire → List ℕ
spelling (Input j) = codes "in." ++ decimal j
spelling (From q j) = decimal q ++ codes "." ++ decimal j

-- the wires that may lead to processor p, in a net whose row has so many words
abbrev pub wires : (inputs p : ℕ) → List Wire
wires inputs p =
    map Input (range_with_len 0 inputs)
    ++ map (λ k. From (k / most_words) (k % most_words)) (range_with_len 0 (p * most_words))

-- the one of them that is written so
unfoldable pub wire_spelled : (inputs p : ℕ) → List ℕ → Option Wire
wire_spelled inputs p text = find (λ wire. bytes_eq text (spelling wire)) (wires inputs p)
