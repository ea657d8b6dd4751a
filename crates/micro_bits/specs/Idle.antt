-- How many bits a word of version 2 that does nothing has.
use Rattle.std.specs.Prelude.{ℕ, zero, suc, ◌+◌, ◌*◌, length}
use Rattle.micro_image.specs.declared.image.Image.{Image}
use Rattle.micro_image.specs.Fields.{nth, no_unit}

-- the sum of the sizes of so many, from the first on
unfoldable pub sizes : (ℕ → ℕ) → (first count : ℕ) → ℕ
sizes size first zero = 0
sizes size first (suc n) = size first + sizes size (first + 1) n

-- how many register files a unit has
abbrev pub files_of : Image → (unit : ℕ) → ℕ
files_of image unit = length (nth image.units unit no_unit).files

-- a flag for each unit, for each unit and bus, and for each register file
abbrev pub idle_bits : Image → ℕ
idle_bits image =
    length image.units + length image.units * image.buses + sizes (files_of image) 0 (length image.units)
