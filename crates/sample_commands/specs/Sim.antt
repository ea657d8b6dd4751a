-- What `sim MIC SAMPLES OUT` reads and runs, when each of its statuses comes, and what it leaves.
use Rattle.std.specs.Prelude.{◌≡◌, ◌⊎◌, ◌<◌, ◌≤◌, [], length}
use Rattle.lists.specs.Rows.{Rows}
use Rattle.cycle_sim.specs.Machine.{Snapshot, state_of}
use Rattle.cycle_sim.specs.Microcode.{code_of}
use Rattle.desk_core.specs.View.{Name, Content, Files, View}
use Rattle.desk_core.specs.Desk.{IfSpecified, WhereSpecified, ReadFaultsRose, IsPut, content_of}
use Rattle.desk_core.specs.Whole.{IsUnchangedButInput}
use Rattle.micro_file.specs.declared.fault.FormFault.TheVariants as form
use Rattle.micro_file.specs.Faults.{IsFormFault}
use Rattle.micro_image.specs.declared.image.Image.{Image}
use Rattle.micro_image.specs.Fields.{microprogram_of}
use Rattle.micro_image.specs.Run.{Stands, IsRunOut, spread}
use Rattle.micro_image.specs.Spells.{Spells}
use Rattle.sample_io.specs.Samples.{printed}
use Rattle.sample_loops.specs.Machines.{channels_of, IsConflictInLast}
use Rattle.sample_loops.specs.declared.stream.StreamFault.{StreamFault}
use Rattle.sample_loops.specs.declared.stream.StreamFault.TheVariants as stream
use Rattle.silc_files.specs.Endings.{IsRejected, IsFinished}
use Rattle.silc_files.specs.Limits.{microcode_limit, samples_limit}
use Rattle.sample_commands.specs.Samples.{AreSamples, AreUnopened, IsEndedEarly}
use Rattle.statuses.specs.declared.status.ImageFault.{ImageFault}
use Rattle.statuses.specs.declared.status.ImageFault.TheVariants as image_fault
use Rattle.statuses.specs.declared.status.SampleFault.TheVariants as sample_fault
use Rattle.statuses.specs.declared.status.Status.{Status}
use Rattle.statuses.specs.declared.status.Status.TheVariants as status

-- the bytes are within the limit and spell the image
pub record IsMicrocodeOf (content : Content) (image : Image) : Type 0 where
  pub within : length content ≤ microcode_limit
  pub spells : Spells content image

-- The image ran the stream without a conflict; the machine is in the image's state after it, with each row for a whole
-- period, and the text is the rows that the run put.
pub record HasRun (image : Image) (stream : Rows) (machine : Snapshot) (text : Content) : Type 0 where
  pub code_is : machine.code ≡ code_of image
  pub stands : Stands (state_of machine) (microprogram_of image) (spread image.period stream)
  pub rows : Rows
  pub run : IsRunOut (microprogram_of image) stream rows
  pub text_is : text ≡ printed rows

-- why the bytes are no microcode
abbrev pub IsImageFault : Content → ImageFault → Type 0
IsImageFault content image_fault.TooLong = microcode_limit < length content
IsImageFault content (image_fault.File fault) = (length content ≤ microcode_limit) × IsFormFault content fault

-- the fault is one of microcode; want of memory is a status of its own
abbrev pub IsOfMicrocode : ImageFault → Type 0
IsOfMicrocode (image_fault.File form.Memory) = ⊥
IsOfMicrocode fault = Unit {0}

-- MIC has the image
abbrev pub HasImage : Name → Files → Image → Type 0
HasImage mic files image = IsMicrocodeOf (content_of (files mic)) image

-- MIC has an image
abbrev pub HasSomeImage : Name → Files → Type 0
HasSomeImage mic files = (image : Image) × HasImage mic files image

-- MIC has the image, and SAMPLES the stream for it
pub record HasStream (mic samples : Name) (image : Image) (stream : Rows) (files : Files) : Type 0 where
  pub microcode : HasImage mic files image
  pub samples_are : AreSamples (channels_of image.inputs) (content_of (files samples)) stream

-- MIC is no microcode
abbrev pub HasImageFault : Name → ImageFault → Files → Type 0
HasImageFault mic fault files = IsImageFault (content_of (files mic)) fault

-- MIC could not be read, or it has an image and SAMPLES could not be opened; at most the input and the faults changed
pub record IsSimUnread (mic samples : Name) (old new : View) : Type 0 where
  pub unchanged : IsUnchangedButInput old new
  pub rose : ReadFaultsRose mic old new ⊎ AreUnopened samples mic microcode_limit (HasSomeImage mic) old new

-- MIC has the image, and its run over SAMPLES, which was opened, did not come to its end
pub record IsSimStopped (mic samples out : Name) (old new : View) (fault : StreamFault) : Type 0 where
  pub image : Image
  pub specified : WhereSpecified old (λ files. HasImage mic files image)
  pub ended :
      IsEndedEarly samples out (channels_of image.inputs) (IsRunOut (microprogram_of image))
      (IsConflictInLast (microprogram_of image) []) old new fault

-- MIC's image ran the stream of SAMPLES, as the files were at the start, to its end; OUT has the rows of the run, and
-- every other file is as it was
pub record IsSimulated (mic samples out : Name) (machine : Snapshot) (old new : View) : Type 0 where
  pub finished : IsFinished samples samples_limit old new
  pub image : Image
  pub stream : Rows
  pub text : Content
  pub ran : HasRun image stream machine text
  pub specified : WhereSpecified old (HasStream mic samples image stream)
  pub put : IfSpecified (IsPut out text) old.files new.files

-- When each status comes where `sim` is not done. MIC is read through and judged before SAMPLES is opened and OUT
-- created, and all memory is taken before.
abbrev pub IsSimError : Name → Name → Name → View → View → Status → Type 0
IsSimError mic samples out old new status.Memory = IsUnchangedButInput old new
IsSimError mic samples out old new status.Desk =
    IsSimUnread mic samples old new ⊎ IsSimStopped mic samples out old new stream.Desk
IsSimError mic samples out old new (status.Image fault) =
    IsOfMicrocode fault × IsRejected mic microcode_limit (HasImageFault mic fault) old new
IsSimError mic samples out old new (status.Samples (sample_fault.Row line at)) =
    IsSimStopped mic samples out old new (stream.Row (record { line = line; at = at }))
IsSimError mic samples out old new (status.Samples sample_fault.TooLong) =
    IsSimStopped mic samples out old new stream.TooLong
IsSimError mic samples out old new (status.Conflict conflict) =
    IsSimStopped mic samples out old new (stream.Conflict conflict)
IsSimError mic samples out old new _ = ⊥
