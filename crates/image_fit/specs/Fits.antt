-- An image that is one of a datapath: its units are the datapath's, no word is wider, and what is driven and taken goes
-- over the datapath's buses.
use Rattle.std.specs.Prelude.{◌≡◌, ℕ, ◌<◌, ◌≤◌, length, slice_index_or, Contains}
use Rattle.std.specs.List.{All}
use Rattle.fix_word.specs.Words.{IsWord}
use Rattle.fix_word.specs.declared.operation.Op.TheVariants.{Const}
use Rattle.datapath.specs.declared.types.Bus.{Bus}
use Rattle.datapath.specs.declared.types.Datapath.{Datapath}
use Rattle.plan_core.specs.Hardware.{no_bus}
use Rattle.plan_soundness.specs.ImageOf.{IsUnitOf}
use Rattle.micro_image.specs.declared.image.Enable.{Enable}
use Rattle.micro_image.specs.declared.image.Image.{Image}
use Rattle.micro_image.specs.declared.image.Issue.{Issue}
use Rattle.micro_image.specs.declared.image.Take.{Take}
use Rattle.micro_image.specs.declared.image.UnitDesc.{UnitDesc}
use Rattle.micro_image.specs.declared.image.Word.{Word}
use Rattle.micro_image.specs.Fields.{microprogram_of, unit_of}

-- bus b of a datapath
abbrev pub bus_of : Datapath → ℕ → Bus
bus_of d b = slice_index_or d.buses b no_bus

-- what the registers and cells of a unit start with has so many bits at most
pub record StartsWithin (w : ℕ) (unit : UnitDesc) : Type 0 where
  pub files : All (All (IsWord w)) unit.files
  pub cells : All (IsWord w) unit.cells

-- neither the format of an issue nor its constant has more bits
pub record IsIssueWithin (w : ℕ) (issue : Issue) : Type 0 where
  pub fmt : issue.fmt.width ≤ w
  pub constant : issue.op ≡ Const → IsWord w issue.arg

-- the unit of a bus drive is one that can drive the bus
abbrev pub IsDriveOn : Datapath → Enable → Type 0
IsDriveOn d enable = Contains (bus_of d enable.bus).from enable.unit

-- the port of a register-file write is one whose file can take from the bus
abbrev pub IsTakeOn : Datapath → Take → Type 0
IsTakeOn d take = Contains (bus_of d take.bus).to take.port

-- a microword of the datapath
pub record IsWordOn (d : Datapath) (word : Word) : Type 0 where
  pub issues : All (IsIssueWithin d.word) word.issues
  pub drives : All (IsDriveOn d) word.enables
  pub takes : All (IsTakeOn d) word.takes

-- an image of the datapath
pub record IsImageOn (d : Datapath) (image : Image) : Type 0 where
  pub period : image.period ≡ d.period
  pub buses : image.buses ≡ length d.buses
  pub inputs : All (λ width. width ≤ d.word) image.inputs
  pub unit_count : length image.units ≡ length d.units
  pub units : (u : ℕ) → u < length d.units → IsUnitOf d u (unit_of (microprogram_of image) u)
  pub starts : All (StartsWithin d.word) image.units
  pub words : All (IsWordOn d) image.words
