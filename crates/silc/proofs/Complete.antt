-- Where MIC has an image, or the cascade a plan, no refusal is due, so `list` and `demo` are done, memory runs out, or
-- faults rise.
use Rattle.std.proofs.Common.{◌≡◌, ◌⊎◌, inl, inr, ℕ, Some, arith}
use Rattle.demo_cascade.specs.Cascade.{cascade_source, cascade_datapath}
use Rattle.desk_core.specs.View.{Name, Content, Files, View}
use Rattle.desk_core.specs.Desk.{ReadFaultsRose, PrintFaultsRose}
use Rattle.micro_file.proofs.FirstFault.{spelled_no_fault}
use Rattle.micro_image.specs.declared.image.Image.{Image as MicroImage}
use Rattle.plan_commands.specs.Refusals.{IsNoPlan}
use Rattle.plan_commands.proofs.Complete.{never_refused}
use Rattle.sample_commands.specs.Sim.{IsMicrocodeOf, IsImageFault, HasImage}
use Rattle.silc.specs.declared.kept.Kept.{Kept}
use Rattle.silc.specs.Demo.{IsCascadePlannable, IsDemoAnswer}
use Rattle.silc.specs.Listing.{IsListAnswer}
use Rattle.statuses.specs.declared.status.ImageFault.{ImageFault}
use Rattle.statuses.specs.declared.status.ImageFault.TheVariants as image_fault
use Rattle.statuses.specs.declared.status.Status.{Status}
use Rattle.statuses.specs.declared.status.Status.TheVariants.{Done, Memory}

-- microcode has no fault of microcode
pub image_or_not : (content : Content) (image : MicroImage)
    → IsMicrocodeOf content image
    → (fault : ImageFault)
    → IsImageFault content fault
    → ⊥
image_or_not content image is image_fault.TooLong h = let short = is.within in omega arith
image_or_not content image is (image_fault.File fault) h = spelled_no_fault content image fault is.spells h.1

pub list_complete : (mic : Name) (old new : View) (files : Files)
    → old.files ≡ Some files
    → (image : MicroImage)
    → HasImage mic files image
    → (ReadFaultsRose mic old new → ⊥)
    → (PrintFaultsRose old new → ⊥)
    → (answer : Status)
    → IsListAnswer mic old new answer
    → (answer ≡ Done) ⊎ (answer ≡ Memory)
list_complete mic old new files told image has no_read no_print answer (inl done) = inl done.0
list_complete mic old new files told image has no_read no_print answer (inr (inl cut)) = absurd (no_print cut.1.rose)
list_complete mic old new files told image has no_read no_print answer (inr (inr (inl memory))) = inr memory.0
list_complete mic old new files told image has no_read no_print answer (inr (inr (inr (inl unread)))) =
    absurd (no_read unread.1.rose)
list_complete mic old new files told image has no_read no_print answer (inr (inr (inr (inr (fault, is, bad))))) =
    absurd (image_or_not _ image has fault (bad.rejected.why files told))

pub demo_complete : (sections samples : ℕ) (old new : View) (kept : Kept)
    → IsCascadePlannable sections
    → (PrintFaultsRose old new → ⊥)
    → (answer : Status)
    → IsDemoAnswer sections samples old new kept answer
    → (answer ≡ Done) ⊎ (answer ≡ Memory)
demo_complete sections samples old new kept has no_print answer (inl done) = inl done.0
demo_complete sections samples old new kept has no_print answer (inr (inl cut)) = absurd (no_print cut.1.rose)
demo_complete sections samples old new kept has no_print answer (inr (inr error)) = by error.why
  where
    by : IsNoPlan (cascade_source sections) (cascade_datapath sections) answer → (answer ≡ Done) ⊎ (answer ≡ Memory)
    by (inl memory) = inr memory
    by (inr (is, why)) =
        absurd (never_refused (cascade_source sections) (cascade_datapath sections) has answer is why)
