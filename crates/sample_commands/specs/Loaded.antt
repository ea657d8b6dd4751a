-- The machine of microcode, and the rows that its samples are read into.
use Rattle.std.specs.Prelude.{◌≡◌, ◌⊎◌, ℕ, List, []}
use Rattle.cycle_sim.specs.Machine.{Snapshot, state_of}
use Rattle.cycle_sim.specs.Microcode.{micro_of, code_of, IsSound}
use Rattle.desk_core.specs.View.{Content}
use Rattle.micro_file.specs.declared.fault.FormFault.{FormFault}
use Rattle.micro_file.specs.Faults.{IsFormFault}
use Rattle.micro_image.specs.declared.image.Image.{Image}
use Rattle.micro_image.specs.Run.{Stands}
use Rattle.micro_image.specs.Spells.{Spells}
use Rattle.sample_io.specs.FedRows.{FedRows}
use Rattle.sample_io.specs.Pieces.{HasTaken}
use Rattle.sample_loops.specs.Machines.{channels_of}
use Rattle.statuses.specs.declared.status.ImageFault.TheVariants as image_fault
use Rattle.statuses.specs.declared.status.Status.{Status}
use Rattle.statuses.specs.declared.status.Status.TheVariants as status

-- a machine before its first cycle
pub record IsFresh (machine : Snapshot) : Type 0 where
  pub sound : IsSound machine.code
  pub stands : Stands (state_of machine) (micro_of machine.code) []

-- rows for input words of these widths, of which no byte was taken
pub record AreFreshRows (inputs : List ℕ) (rows : FedRows) : Type 0 where
  pub channels : rows.channels ≡ channels_of inputs
  pub taken : HasTaken rows [] []

-- the machine of the image that the bytes spell
pub record IsMachineOf (content : Content) (machine : Snapshot) : Type 0 where
  pub fresh : IsFresh machine
  pub image : Image
  pub code : machine.code ≡ code_of image
  pub spells : Spells content image

-- there was no memory for the machine, or the bytes have this fault
abbrev pub IsNoMachine : Content → Status → Type 0
IsNoMachine content error =
    (error ≡ status.Memory)
    ⊎ ((fault : FormFault) × (error ≡ status.Image (image_fault.File fault)) × IsFormFault content fault)
