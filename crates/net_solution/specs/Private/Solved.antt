-- Parts that have a solution, so far as turns rest on it.
use Rattle.std.specs.Prelude.{◌≡◌, ℕ, ◌<◌, ◌^◌, List, length, ℤ}
use Rattle.std.specs.List.{All}
use Rattle.lists.specs.Rows.{Rows}
use Rattle.operations.specs.Operations.{IsOperand}
use Rattle.micro_image.specs.declared.image.Image.{Image}
use Rattle.micro_image.specs.Valid.{IsValid}
use Rattle.net_core.specs.declared.types.Wire.{Wire}
use Rattle.net_core.specs.declared.types.Wire.TheVariants.{Input, From}
use Rattle.net_turns.specs.Marking.{IsShape}
use Rattle.net_solution.specs.Solutions.{Parts, image_of, feed_to, shape_of, fed, IsNetSolution}

-- a row that a machine of the image can be given
pub record IsReadRow (image : Image) (row : List ℤ) : Type 0 where
  pub count : length row ≡ length image.inputs
  pub words : All IsOperand row

-- what a wire to processor p brings is there
abbrev pub IsBrought : Parts → (p : ℕ) → Wire → Type 0
IsBrought parts p (Input j) = All (λ row. j < length row) parts.stream
IsBrought parts p (From q j) = (q < p) × (j < (image_of parts q).outs)

-- parts whose solution these rows are, so far as turns rest on them
pub record AreSolved (parts : Parts) (puts : List Rows) : Type 0 where
  pub solution : IsNetSolution parts puts
  pub valid : (p : ℕ) → p < length parts.images → IsValid (image_of parts p)
  pub reads : (p : ℕ) → p < length parts.images → All (IsReadRow (image_of parts p)) (fed parts puts p)
  pub wires : (p : ℕ) → p < length parts.images → All (IsBrought parts p) (feed_to parts p)
  pub feeds : (p : ℕ) → p < length parts.images → length (feed_to parts p) ≡ length (image_of parts p).inputs
  pub samples : length parts.stream < 2 ^ 47
  pub shape : IsShape (shape_of parts)
