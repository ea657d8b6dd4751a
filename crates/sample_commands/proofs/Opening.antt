-- What opening SAMPLES and creating OUT does, and what a stream then reads of the one and puts into the other.
use Rattle.std.proofs.Common.{◌≡◌, ◌≢◌, refl, sym, ap, subst, ◌∙◌, inl, inr, [], Some, Bool, Result, Ok, Err, OnOk}
use Rattle.std.proofs.Common.{OnErr}
use Rattle.std.proofs.Common.{IsErr}
use Rattle.desk_core.specs.View.{Name, Content, View}
use Rattle.desk_core.specs.Desk.{IfSpecified, ReadFaultsRose, WriteFaultsRose, FaultsNeverFall, IsUnchanged}
use Rattle.desk_core.specs.Desk.{IsUnchangedButOutput, IsReading, IsWriting, IsPut}
use Rattle.desk_core.proofs.DeskLemmas.{rose_later, specified_from, input_stays}
use Rattle.sample_loops.specs.Output.{HasPut}
use Rattle.sample_loops.specs.Streams.{ChangesOutputAlone}
use Rattle.silc_files.specs.Endings.{ChangesOnly, UsesOnly}
use Rattle.silc_files.specs.Reading.{OnlyReads}
use Rattle.sample_commands.specs.Streaming.{IsOpened, IsNotOpened, StreamsOnly}

-- a result of each kind
pub each_way : {T E : Type 0} (r : Result T E) (A B C : Type 0) → OnOk r A → OnErr r B → (A → C) → (B → C) → C
each_way (Ok x) A B C a b f g = f a
each_way (Err e) A B C a b f g = g b

pub err_with_cause : {T E : Type 0} (r : Result T E) (A B C : Type 0)
    → (IsErr r → A)
    → OnErr r B
    → (A → B → C)
    → OnErr r C
err_with_cause (Ok x) A B C cause b f = tt
err_with_cause (Err e) A B C cause b f = f (cause refl) b

once : (a b : Name) → Some a ≡ Some b → a ≡ b
once a b e = cc

-- SAMPLES could not be opened
module _ (samples out : Name) (old new : View) (same : IsUnchanged old new) where
  pub unopened : ReadFaultsRose samples old new → IsNotOpened samples out old new
  unopened rose = inl (same, rose)

  pub unopened_only : StreamsOnly samples out old new
  unopened_only = record {
    files = λ after is. (after, sym same.files ∙ is, λ s ne. refl);
    printed = same.printed;
    reads = λ s ne t. ap (λ (f : Name → Bool). f s) (sym same.reads) ∙ t;
    writes = λ s ne t. ap (λ (f : Name → Bool). f s) (sym same.writes) ∙ t;
  }

-- SAMPLES was opened
module _ (samples out : Name) (old mid new : View) (reading : IsReading samples 0 old mid) where
  -- OUT could not be created
  pub uncreated : FaultsNeverFall old mid
      → IsUnchangedButOutput mid new
      → WriteFaultsRose out mid new
      → IsNotOpened samples out old new
  uncreated le same rose = inr (record {
    rose = rose_later _ _ _ (le.writing out) rose;
    input = input_stays samples old mid new reading.input same.input (ap (λ (f : Name → Bool). f samples) same.reads);
    place = same.place ∙ reading.place;
    files = same.files ∙ reading.files;
  })

  pub uncreated_only : IsUnchangedButOutput mid new → StreamsOnly samples out old new
  uncreated_only same = record {
    files = λ after is. (after, sym reading.files ∙ sym same.files ∙ is, λ s ne. refl);
    printed = same.printed ∙ reading.printed;
    reads = λ s ne t. reading.no_other s ne (ap (λ (f : Name → Bool). f s) (sym same.reads) ∙ t);
    writes = λ s ne t. ap (λ (f : Name → Bool). f s) (sym reading.writes) ∙ same.no_new_output s t;
  }

  -- OUT was created
  pub both_opened : out ≢ samples → IsWriting out [] mid new → IsOpened samples out old new
  both_opened apart writing = record {
    input = input_stays samples old mid new reading.input
        (writing.other_input (λ is. apart (once out samples (reading.input.only (Some out) is))))
        (writing.other_reads samples (λ e. apart (sym e)));
    place = writing.place ∙ reading.place;
    files = specified_from (IsPut out []) old.files mid.files new.files reading.files writing.files;
    output = writing.output;
    writes = writing.writes;
  }

  pub opened_only : IsWriting out [] mid new → StreamsOnly samples out old new
  opened_only writing = record {
    files = λ after is.
        let put = specified_from (IsPut out []) old.files mid.files new.files reading.files writing.files after is in
        (put.0, put.1, put.2.others);
    printed = writing.printed ∙ reading.printed;
    reads = λ s ne t. reading.no_other s ne (writing.no_new_input s t);
    writes = λ s ne t. ap (λ (f : Name → Bool). f s) (sym reading.writes) ∙ writing.no_other s ne t;
  }

-- after the inputs before, SAMPLES is one more
pub streams_use : (Before IsInput : Name → Type 0) (samples out : Name) (old mid new : View)
    → ((name : Name) → Before name → IsInput name)
    → IsInput samples
    → OnlyReads Before old mid
    → StreamsOnly samples out mid new
    → UsesOnly IsInput out old new
streams_use Before IsInput samples out old mid new wider its first only = record {
  files = specified_from (ChangesOnly out) old.files mid.files new.files first.unchanged.files only.files;
  printed = only.printed ∙ first.unchanged.printed;
  reads = λ s not is.
      first.begins s (λ before. not (wider s before)) (only.reads s (λ e. not (subst IsInput (sym e) its)) is);
  writes = λ s ne is. ap (λ (f : Name → Bool). f s) (sym first.unchanged.writes) ∙ only.writes s ne is;
}

-- what OUT has after a stream
pub put_from : (samples out : Name) (old mid new : View) (bytes : Content)
    → IsOpened samples out old mid
    → HasPut bytes mid new
    → IfSpecified (IsPut out bytes) old.files new.files
put_from samples out old mid new bytes opened put = λ after is.
    let step = put after is in
    let start = opened.files step.0 step.1 in
    let longer = step.2.named out (opened.output.specified step.0 step.1) in (
      start.0,
      start.1,
      record { here = longer.here [] start.2.here; others = λ s ne. longer.others s ne ∙ start.2.others s ne },
    )

-- and what else changed
pub streams_only : (samples out : Name) (old mid new : View)
    → IsOpened samples out old mid
    → StreamsOnly samples out old mid
    → ChangesOutputAlone mid new
    → StreamsOnly samples out old new
streams_only samples out old mid new opened first only = record {
  files = λ after is.
      let put = put_from samples out old mid new only.files.0 opened only.files.1 after is in
      (put.0, put.1, put.2.others);
  printed = only.printed ∙ first.printed;
  reads = λ s ne t. first.reads s ne (ap (λ (f : Name → Bool). f s) (sym only.reads) ∙ t);
  writes = λ s ne t. first.writes s ne (only.writes s t);
}
