-- Numbers that are read from the front of the bits that are left, the most significant bit first.
use Rattle.std.specs.Prelude.{◌≡◌, ℕ, ◌+◌, ◌*◌, ◌^◌, nat_lt, if◌then◌else◌, List, [], ◌∷◌, length, take, drop, Result}
use Rattle.std.specs.Prelude.{Ok, Err}
use Rattle.micro_bits.specs.declared.fault.BitFault.{BitFault}
use Rattle.micro_bits.specs.declared.fault.BitFault.TheVariants.{Short}
use Rattle.micro_image.specs.Bits.{bits}

-- the number that has these bits
unfoldable pub number_of : List ℕ → ℕ
number_of [] = 0
number_of (bit ∷ bits) = bit * 2 ^ length bits + number_of bits

-- a value and what is left behind it, or why it could not be read
abbrev pub Reading : Type 0 → Type 0
Reading A = Result (A × List ℕ) BitFault

-- so many bits
unfoldable pub some_at : ℕ → List ℕ → Reading (List ℕ)
some_at w bits = if nat_lt (length bits) w then Err Short else Ok (take w bits, drop w bits)

-- the number that the bits have
abbrev pub numbered : Reading (List ℕ) → Reading ℕ
numbered (Ok some) = Ok (number_of some.0, some.1)
numbered (Err fault) = Err fault

-- the number that so many bits have
abbrev pub number_at : ℕ → List ℕ → Reading ℕ
number_at w bits = numbered (some_at w bits)

-- what was returned is what is read in front of the bits before, and those after it are left
abbrev pub Reads : {X : Type 0} → (List ℕ → Reading X) → List ℕ → Result X BitFault → List ℕ → Type 0
Reads field before (Ok x) after = field before ≡ Ok (x, after)
Reads field before (Err fault) after = field before ≡ Err fault
