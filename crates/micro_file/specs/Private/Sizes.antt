-- Numbers that fit a byte.
use Rattle.std.specs.Prelude.{◌≤◌, ◌^◌, length}
use Rattle.std.specs.List.{All}
use Rattle.micro_image.specs.declared.image.Image.{Image}

-- the numbers of an image's units and of their ports fit a byte
pub record IsNumbered (image : Image) : Type 0 where
  pub units : length image.units ≤ 2 ^ 8
  pub ports : All (λ unit. length unit.files ≤ 2 ^ 8) image.units
