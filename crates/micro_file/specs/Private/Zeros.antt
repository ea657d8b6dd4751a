-- Zeros in front of what is left.
use Rattle.std.specs.Prelude.{◌≡◌, ℕ, List, take, replicate}

-- so many bits in front are there, and zeros
abbrev pub StartsWithZeros : ℕ → List ℕ → Type 0
StartsWithZeros n bits = take n bits ≡ replicate n 0
