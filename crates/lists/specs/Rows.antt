-- Rows of raw words.
use Rattle.std.specs.Prelude.{List, ℤ}

-- a row has one word for each channel, and a stream one row for each sample
abbrev pub Rows : Type 0
Rows = List (List ℤ)
