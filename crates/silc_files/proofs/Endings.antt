-- What reading and writing whole files does to a desk over a command, and that reporting an error changes none of it.
use Rattle.std.proofs.Common.{◌≡◌, ◌≢◌, refl, sym, ◌∙◌, ap, inl, inr, ⊎_elim, ℕ, List, [], ◌∷◌, ◌++◌, Bool}
use Rattle.desk_core.specs.View.{Name, Content, Files, View}
use Rattle.desk_core.specs.Desk.{WriteFaultsRose, FaultsNeverFall, IsUnchanged, IfSpecified}
use Rattle.desk_core.specs.Whole.{IsUnchangedButInput, IsReadThrough, IsWrittenWhole, IsWrittenInPart, IsPutInPart}
use Rattle.desk_core.proofs.DeskLemmas.{rose_later, rose_earlier, never_fall_trans, specified_from}
use Rattle.desk_core.proofs.WholeLemmas.{through_stays, through_beside}
use Rattle.silc_files.specs.Endings.{IsRejected, IsNotWritten, IsFinished, IsAmong, ChangesOnly, UsesOnly}
use Rattle.silc_files.specs.Printing.{ChangesNoFile}
use Rattle.silc_files.specs.Reading.{OnlyReads}

-- a name among some is among more
pub among_first : (names more : List Name) (name : Name) → IsAmong names name → IsAmong (names ++ more) name
among_first [] more name h = absurd h
among_first (one ∷ names) more name h = ⊎_elim (λ e. inl e) (λ rest. inr (among_first names more name rest)) h

pub among_more : (names more : List Name) (name : Name) → IsAmong more name → IsAmong (names ++ more) name
among_more [] more name h = h
among_more (one ∷ names) more name h = inr (among_more names more name h)

pub unchanged_trans : (old mid new : View)
    → IsUnchangedButInput old mid
    → IsUnchangedButInput mid new
    → IsUnchangedButInput old new
unchanged_trans old mid new h k =
    record {
      files = k.files ∙ h.files;
      output = k.output ∙ h.output;
      printed = k.printed ∙ h.printed;
      writes = k.writes ∙ h.writes;
    }

-- one part of the inputs is read after the other
pub reads_both : (First Second IsInput : Name → Type 0) (old mid new : View)
    → ((name : Name) → First name → IsInput name)
    → ((name : Name) → Second name → IsInput name)
    → OnlyReads First old mid
    → OnlyReads Second mid new
    → OnlyReads IsInput old new
reads_both First Second IsInput old mid new first second h k = record {
  never_fall = never_fall_trans old mid new h.never_fall k.never_fall;
  unchanged = unchanged_trans old mid new h.unchanged k.unchanged;
  begins = λ s not is. h.begins s (λ of. not (first s of)) (k.begins s (λ of. not (second s of)) is);
}

-- what reads some of the inputs reads no others
pub reads_wider : (First IsInput : Name → Type 0) (old new : View)
    → ((name : Name) → First name → IsInput name)
    → OnlyReads First old new
    → OnlyReads IsInput old new
reads_wider First IsInput old new wider h = record {
  never_fall = h.never_fall;
  unchanged = h.unchanged;
  begins = λ s not is. h.begins s (λ of. not (wider s of)) is;
}

-- and it changes nothing that a command leaves alone
pub uses_none : (IsInput : Name → Type 0) (out : Name) (old new : View)
    → OnlyReads IsInput old new
    → UsesOnly IsInput out old new
uses_none IsInput out old new h = record {
  files = λ after is. (after, sym h.unchanged.files ∙ is, λ s ne. refl);
  printed = h.unchanged.printed;
  reads = h.begins;
  writes = λ s ne is. ap (λ (f : Name → Bool). f s) (sym h.unchanged.writes) ∙ is;
}

-- the inputs are read, and then those of another list
pub reads_more : (names more : List Name) (old mid new : View)
    → OnlyReads (IsAmong names) old mid
    → OnlyReads (IsAmong more) mid new
    → OnlyReads (IsAmong (names ++ more)) old new
reads_more names more old mid new =
    reads_both (IsAmong names) (IsAmong more) (IsAmong (names ++ more)) old mid new (among_first names more)
    (among_more names more)

-- OUT was written after the last input was read through
pub finished : (last out : Name) (limit : ℕ) (bytes : Content) (old mid new : View)
    → out ≢ last
    → IsReadThrough last limit old mid
    → IsWrittenWhole out bytes mid new
    → IsFinished last limit old new
finished last out limit bytes old mid new apart h k =
    record {
      read = through_beside last out limit old mid new apart h k.other_input k.place k.other_reads;
      closed = k.output;
    }

-- writing it failed
pub not_written : (last out : Name) (limit : ℕ) (bytes : Content) (old mid new : View)
    → out ≢ last
    → IsReadThrough last limit old mid
    → mid.files ≡ old.files
    → FaultsNeverFall old mid
    → WriteFaultsRose out mid new
    → IsWrittenInPart out bytes mid new
    → IsNotWritten last limit out bytes old new
not_written last out limit bytes old mid new apart h same le rose k = record {
  rose = rose_later _ _ _ (le.writing out) rose;
  read = through_beside last out limit old mid new apart h k.other_input k.place k.other_reads;
  files = specified_from (IsPutInPart out bytes) old.files mid.files new.files same k.files;
}

-- what was said before an error is reported holds after it
module _ (old mid new : View) (same : IsUnchanged mid new) where
  pub unchanged_still : IsUnchangedButInput old mid → IsUnchangedButInput old new
  unchanged_still h =
      record {
        files = same.files ∙ h.files;
        output = same.output ∙ h.output;
        printed = same.printed ∙ h.printed;
        writes = same.writes ∙ h.writes;
      }

  pub through_still : (last : Name) (limit : ℕ) → IsReadThrough last limit old mid → IsReadThrough last limit old new
  through_still last limit h =
      through_stays last limit old mid new h same.input same.place (ap (λ (f : Name → Bool). f last) same.reads)

  pub specified_still : (R : Files → Files → Type 0)
      → IfSpecified R old.files mid.files
      → IfSpecified R old.files new.files
  specified_still R h = λ after is. h after (sym same.files ∙ is)

  pub rejected_still : (last : Name) (limit : ℕ) (reason : Files → Type 0)
      → IsRejected last limit reason old mid
      → IsRejected last limit reason old new
  rejected_still last limit reason h =
      record { unchanged = unchanged_still h.unchanged; read = through_still last limit h.read; why = h.why }

  pub finished_still : (last : Name) (limit : ℕ) → IsFinished last limit old mid → IsFinished last limit old new
  finished_still last limit h = record {
    read = through_still last limit h.read;
    closed = record {
      only = λ known is. h.closed.only known (sym same.output ∙ is);
      specified = λ files is. same.output ∙ h.closed.specified files (sym same.files ∙ is);
    };
  }

  pub not_written_still : (last out : Name) (limit : ℕ) (bytes : Content)
      → FaultsNeverFall old mid
      → FaultsNeverFall mid new
      → IsNotWritten last limit out bytes old mid
      → IsNotWritten last limit out bytes old new
  not_written_still last out limit bytes before later h = record {
    rose = rose_earlier _ _ _ (before.writing out) h.rose (later.writing out);
    read = through_still last limit h.read;
    files = specified_still (IsPutInPart out bytes) h.files;
  }

  pub printed_still : (R : Content → Content → Type 0)
      → IfSpecified R old.printed mid.printed
      → IfSpecified R old.printed new.printed
  printed_still R h = λ after is. h after (sym same.printed ∙ is)

  pub changes_still : (IsInput : Name → Type 0) → ChangesNoFile IsInput old mid → ChangesNoFile IsInput old new
  changes_still IsInput h = record {
    files = same.files ∙ h.files;
    output = same.output ∙ h.output;
    reads = λ s not is. h.reads s not (ap (λ (f : Name → Bool). f s) (sym same.reads) ∙ is);
    writes = same.writes ∙ h.writes;
  }

  pub uses_still : (IsInput : Name → Type 0) (out : Name) → UsesOnly IsInput out old mid → UsesOnly IsInput out old new
  uses_still IsInput out h = record {
    files = specified_still (ChangesOnly out) h.files;
    printed = same.printed ∙ h.printed;
    reads = λ s not is. h.reads s not (ap (λ (f : Name → Bool). f s) (sym same.reads) ∙ is);
    writes = λ s ne is. h.writes s ne (ap (λ (f : Name → Bool). f s) (sym same.writes) ∙ is);
  }
