-- The words with which registers and cells start.
use Rattle.std.specs.Prelude.{◌≡◌, ℕ, ◌<◌, ◌⊎◌, List, length, slice_index_or, ℤ, pos}
use Rattle.operations.specs.declared.units.PortRef.{PortRef}
use Rattle.datapath.specs.declared.types.Datapath.{Datapath}
use Rattle.plan_core.specs.declared.plan.Plan.{Plan}
use Rattle.micro_image.specs.declared.image.UnitDesc.{UnitDesc}
use Rattle.micro_image.specs.declared.image.Image.{Image}
use Rattle.micro_image.specs.Fields.{microprogram_of, nth, no_unit}
use Rattle.micro_image.specs.Log.{Place, Register, Cell, initial}
use Rattle.microcode_asm.specs.Units.{held}
use Rattle.plan_soundness.specs.Parts.{node_at, line_at}
use Rattle.plan_soundness.specs.ImageOf.{IsUnitOf, IsPreloadOf, IsCellPreload}

-- what a place holds in the image before any write
abbrev pub initial_of : Image → Place → ℤ
initial_of image place = initial (microprogram_of image) place

-- the units are those of the datapath
pub record AreUnitsOf (d : Datapath) (units : List UnitDesc) : Type 0 where
  pub count : length units ≡ length d.units
  pub each : (u : ℕ) → u < length d.units → IsUnitOf d u (nth units u no_unit)

-- The registers that are read through the first lifetimes for words of before sample 0 start as in the image, and so do
-- the cells of the first delay lines. Each place starts as in the image or with 0.
pub record AreStarted (d : Datapath) (p : Plan) (image : Image) (arcs lines : ℕ) (units : List UnitDesc) : Type 0 where
  pub register : (port : PortRef) (reg k i ago : ℕ)
      → k < arcs
      → IsPreloadOf d p port reg k i ago
      → held units (Register port.unit port.port reg) ≡ initial_of image (Register port.unit port.port reg)
  pub cell : (ram cell l ago : ℕ)
      → l < lines
      → IsCellPreload p ram cell l ago
      → held units (Cell ram cell) ≡ initial_of image (Cell ram cell)
  pub only : (place : Place) → (held units place ≡ initial_of image place) ⊎ (held units place ≡ pos 0)

-- so do the registers of lifetime k that hold words of less than so many samples before sample 0
pub record ArePreloaded (d : Datapath) (p : Plan) (image : Image) (k most : ℕ) (units : List UnitDesc) : Type 0 where
  pub started : AreStarted d p image k 0 units
  pub register : (port : PortRef) (reg i ago : ℕ)
      → ago < most
      → IsPreloadOf d p port reg k i ago
      → held units (Register port.unit port.port reg) ≡ initial_of image (Register port.unit port.port reg)

-- the initial values of the node whose words line l keeps
abbrev pub inits_of : Plan → ℕ → List (ℕ × ℤ)
inits_of p l = (node_at p (line_at p l).node).inits

-- what stands in the place of an initial value that is not there
abbrev pub no_init : ℕ × ℤ
no_init = (0, pos 0)

-- so do the cells of line l that hold the first initial values of its node
pub record AreCellsPut (d : Datapath) (p : Plan) (image : Image) (l values : ℕ) (units : List UnitDesc) : Type 0 where
  pub started : AreStarted d p image (length p.arcs) l units
  pub cell : (ram cell ago i : ℕ)
      → i < values
      → (slice_index_or (inits_of p l) i no_init).0 ≡ ago
      → IsCellPreload p ram cell l ago
      → held units (Cell ram cell) ≡ initial_of image (Cell ram cell)
