-- When each status comes of `list MIC`, and what it prints.
use Rattle.std.specs.Prelude.{◌≡◌, ◌⊎◌}
use Rattle.desk_core.specs.View.{Name, View}
use Rattle.desk_core.specs.Desk.{IfSpecified, WhereSpecified, PrintFaultsRose, ReadFaultsRose}
use Rattle.desk_core.specs.Whole.{IsUnchangedButInput, IsReadThrough}
use Rattle.micro_image.specs.declared.image.Image.{Image}
use Rattle.microcode_asm.specs.Listing.{listing_text}
use Rattle.silc_files.specs.Endings.{IsRejected}
use Rattle.silc_files.specs.Limits.{microcode_limit}
use Rattle.silc_files.specs.Printing.{IsPrintedMore, IsPrintedInPart}
use Rattle.sample_commands.specs.Sim.{IsOfMicrocode, HasImage, HasImageFault}
use Rattle.statuses.specs.declared.status.ImageFault.{ImageFault}
use Rattle.statuses.specs.declared.status.Status.{Status}
use Rattle.statuses.specs.declared.status.Status.TheVariants as status

-- the listing of MIC's image was printed, after MIC was read through
pub record IsListed (mic : Name) (old new : View) : Type 0 where
  pub read : IsReadThrough mic microcode_limit old new
  pub image : Image
  pub specified : WhereSpecified old (λ files. HasImage mic files image)
  pub printed : IfSpecified (IsPrintedMore (listing_text image)) old.printed new.printed

-- printing the listing failed, after a prefix of it
pub record IsListingCutShort (mic : Name) (old new : View) : Type 0 where
  pub rose : PrintFaultsRose old new
  pub read : IsReadThrough mic microcode_limit old new
  pub image : Image
  pub specified : WhereSpecified old (λ files. HasImage mic files image)
  pub printed : IfSpecified (IsPrintedInPart (listing_text image)) old.printed new.printed

-- MIC could not be read; at most the input and the faults changed
pub record IsMicrocodeUnread (mic : Name) (old new : View) : Type 0 where
  pub unchanged : IsUnchangedButInput old new
  pub rose : ReadFaultsRose mic old new

-- MIC is no microcode; at most the input and the faults changed
pub record IsMicrocodeRejected (mic : Name) (fault : ImageFault) (old new : View) : Type 0 where
  pub is_of_microcode : IsOfMicrocode fault
  pub rejected : IsRejected mic microcode_limit (HasImageFault mic fault) old new

-- why `list` ends before it prints anything; MIC is read through before it is judged
abbrev pub IsListError : Name → View → View → Status → Type 0
IsListError mic old new answer =
    ((answer ≡ status.Memory) × IsUnchangedButInput old new)
    ⊎ ((answer ≡ status.Desk) × IsMicrocodeUnread mic old new)
    ⊎ ((fault : ImageFault) × (answer ≡ status.Image fault) × IsMicrocodeRejected mic fault old new)

-- when each status comes
abbrev pub IsListAnswer : Name → View → View → Status → Type 0
IsListAnswer mic old new answer =
    ((answer ≡ status.Done) × IsListed mic old new)
    ⊎ ((answer ≡ status.Desk) × IsListingCutShort mic old new)
    ⊎ IsListError mic old new answer
