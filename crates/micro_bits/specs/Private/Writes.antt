-- What a writer of bits gives.
use Rattle.std.specs.Prelude.{◌≡◌, ℕ, ◌<◌, List, ◌++◌, replicate}
use Rattle.micro_image.specs.Spells.{bits_of}

-- these bytes have the bits, then zeros to the end of the last byte
abbrev pub Padded : List ℕ → List ℕ → Type 0
Padded bits bytes = (zeros : ℕ) × (zeros < 8) × (bits_of bytes ≡ bits ++ replicate zeros 0)
