-- The machine of MIC's image.
use Rattle.std.specs.Prelude.{◌≡◌, ◌⊎◌}
use Rattle.cycle_sim.specs.Machine.{Snapshot}
use Rattle.cycle_sim.specs.Microcode.{code_of}
use Rattle.desk_core.specs.View.{Name, View}
use Rattle.desk_core.specs.Desk.{WhereSpecified, ReadFaultsRose}
use Rattle.desk_core.specs.Whole.{IsReadThrough}
use Rattle.micro_image.specs.declared.image.Image.{Image}
use Rattle.silc_files.specs.Limits.{microcode_limit}
use Rattle.sample_commands.specs.Loaded.{IsFresh}
use Rattle.sample_commands.specs.Sim.{IsOfMicrocode, HasImage, HasImageFault}
use Rattle.statuses.specs.declared.status.ImageFault.{ImageFault}
use Rattle.statuses.specs.declared.status.Status.{Status}
use Rattle.statuses.specs.declared.status.Status.TheVariants as status

-- the machine of the image of MIC, which was read through
pub record IsLoaded (mic : Name) (old new : View) (machine : Snapshot) : Type 0 where
  pub read : IsReadThrough mic microcode_limit old new
  pub fresh : IsFresh machine
  pub image : Image
  pub code : machine.code ≡ code_of image
  pub specified : WhereSpecified old (λ files. HasImage mic files image)

-- MIC was read through, and is no microcode
pub record IsBadMicrocode (mic : Name) (fault : ImageFault) (old new : View) : Type 0 where
  pub read : IsReadThrough mic microcode_limit old new
  pub why : WhereSpecified old (HasImageFault mic fault)

-- why no machine was made of MIC
abbrev pub IsLoadError : Name → View → View → Status → Type 0
IsLoadError mic old new error =
    (error ≡ status.Memory)
    ⊎ ((error ≡ status.Desk) × ReadFaultsRose mic old new)
    ⊎ ((fault : ImageFault) × (error ≡ status.Image fault) × IsOfMicrocode fault × IsBadMicrocode mic fault old new)
