-- How the parts of `list` make up its answer.
use Rattle.std.proofs.Common.{◌≡◌, ap, subst, inl, inr, ⊎_elim, [], ◌∷◌, Bool}
use Rattle.desk_core.specs.View.{Name, Content, View}
use Rattle.desk_core.specs.Desk.{FaultsNeverFall, IfSpecified, IsUnchanged, PrintFaultsRose}
use Rattle.desk_core.specs.Whole.{IsReadThrough}
use Rattle.desk_core.proofs.DeskLemmas.{rose_later, rose_earlier, specified_from}
use Rattle.desk_core.proofs.WholeLemmas.{through_stays}
use Rattle.silc_files.specs.Endings.{IsAmong}
use Rattle.silc_files.specs.Limits.{microcode_limit}
use Rattle.silc.specs.Listing.{IsListed, IsListingCutShort, IsListError, IsListAnswer}
use Rattle.silc_files.specs.Printing.{IsPrintedMore, IsPrintedInPart, PrintsOnly}
use Rattle.sample_commands.specs.Sim.{IsOfMicrocode, HasImageFault}
use Rattle.silc.specs.Private.Listing.{IsMadeListing}
use Rattle.silc_files.specs.Reading.{OnlyReads}
use Rattle.sample_commands.specs.Private.Running.{IsBadMicrocode, IsLoadError}
use Rattle.statuses.specs.declared.status.ImageFault.{ImageFault}
use Rattle.statuses.specs.declared.status.Status.{Status}
use Rattle.statuses.specs.declared.status.Status.TheVariants as status
use Rattle.silc_files.proofs.Endings.{unchanged_still, through_still, rejected_still, printed_still}

-- MIC is no microcode
module _ (mic : Name) (old new : View) (reads : OnlyReads (IsAmong (mic ∷ [])) old new) where
  rejected : (s : Status) (fault : ImageFault)
      → IsOfMicrocode fault
      → s ≡ status.Image fault
      → IsBadMicrocode mic fault old new
      → IsListError mic old new s
  rejected s fault of is bad = inr (inr (
    fault,
    is,
    record {
      is_of_microcode = of;
      rejected = record { unchanged = reads.unchanged; read = bad.read; why = bad.why };
    },
  ))

  -- why no image was made of it is why `list` ends
  pub list_error : (s : Status) → IsLoadError mic old new s → IsListError mic old new s
  list_error s h =
      ⊎_elim (λ memory. inl (memory, reads.unchanged))
      (λ rest. ⊎_elim (λ desk. inr (inl (desk.0, record { unchanged = reads.unchanged; rose = desk.1 })))
      (λ bad. rejected s bad.0 bad.2 bad.1 bad.3)
      rest)
      h

-- the listing was made, and then printed
module _ (mic : Name) (old mid new : View) (text : Content) (reads : OnlyReads (IsAmong (mic ∷ [])) old mid)
    (made : IsMadeListing mic old mid text) (prints : PrintsOnly mid new) where
  through : IsReadThrough mic microcode_limit old new
  through =
      through_stays mic microcode_limit old mid new made.read prints.input prints.place
      (ap (λ (f : Name → Bool). f mic) prints.reads)

  pub listed : IfSpecified (IsPrintedMore text) mid.printed new.printed → IsListed mic old new
  listed printed = record {
    read = through;
    image = made.image;
    specified = made.specified;
    printed = subst (λ (bytes : Content). IfSpecified (IsPrintedMore bytes) old.printed new.printed) made.text_is
        (specified_from (IsPrintedMore text) old.printed mid.printed new.printed reads.unchanged.printed printed);
  }

  pub listing_cut_short : PrintFaultsRose mid new
      → IfSpecified (IsPrintedInPart text) mid.printed new.printed
      → IsListingCutShort mic old new
  listing_cut_short rose printed = record {
    rose = rose_later _ _ _ reads.never_fall.printing rose;
    read = through;
    image = made.image;
    specified = made.specified;
    printed = subst (λ (bytes : Content). IfSpecified (IsPrintedInPart bytes) old.printed new.printed) made.text_is
        (specified_from (IsPrintedInPart text) old.printed mid.printed new.printed reads.unchanged.printed printed);
  }

-- a report of the error leaves the answer of `list` as it is
module _ (mic : Name) (old mid new : View) (same : IsUnchanged mid new) (later : FaultsNeverFall mid new)
    (before : FaultsNeverFall old mid) where
  listed_still : IsListed mic old mid → IsListed mic old new
  listed_still h = record {
    read = through_still old mid new same mic microcode_limit h.read;
    image = h.image;
    specified = h.specified;
    printed = printed_still old mid new same _ h.printed;
  }

  listing_cut_short_still : IsListingCutShort mic old mid → IsListingCutShort mic old new
  listing_cut_short_still h = record {
    rose = rose_earlier _ _ _ before.printing h.rose later.printing;
    read = through_still old mid new same mic microcode_limit h.read;
    image = h.image;
    specified = h.specified;
    printed = printed_still old mid new same _ h.printed;
  }

  list_error_still : (s : Status) → IsListError mic old mid s → IsListError mic old new s
  list_error_still s h =
      ⊎_elim (λ memory. inl (memory.0, unchanged_still old mid new same memory.1))
      (λ rest. inr (⊎_elim
      (λ desk.
      inl (
        desk.0,
        record {
          unchanged = unchanged_still old mid new same desk.1.unchanged;
          rose = rose_earlier _ _ _ (before.reading mic) desk.1.rose (later.reading mic);
        },
      ))
      (λ bad. inr (
        bad.0,
        bad.1,
        record {
          is_of_microcode = bad.2.is_of_microcode;
          rejected = rejected_still old mid new same mic microcode_limit (HasImageFault mic bad.0) bad.2.rejected;
        },
      ))
      rest))
      h

  pub list_reported : (s : Status) → IsListAnswer mic old mid s → IsListAnswer mic old new s
  list_reported s h =
      ⊎_elim (λ done. inl (done.0, listed_still done.1))
      (λ rest.
      inr (⊎_elim (λ desk. inl (desk.0, listing_cut_short_still desk.1)) (λ error. inr (list_error_still s error))
      rest))
      h

-- no error is the status of a command that is done
not_done : (mic : Name) (old new : View) → IsListError mic old new status.Done → ⊥
not_done mic old new h =
    ⊎_elim (λ memory. absurd (cc)) (λ rest. ⊎_elim (λ desk. absurd (cc)) (λ bad. absurd (cc)) rest) h

-- where `list` is done, it printed the listing
pub list_done : (mic : Name) (old new : View) (s : Status)
    → s ≡ status.Done
    → IsListAnswer mic old new s
    → IsListed mic old new
list_done mic old new s done h =
    ⊎_elim (λ is. is.1)
    (λ rest.
    ⊎_elim (λ desk. absurd (cc))
    (λ error. absurd (not_done mic old new (subst (IsListError mic old new) done error))) rest)
    h
