-- How the calls of a desk follow one another. What is said here of any views holds over any desk.
use Rattle.std.proofs.Common.{arith, ◌≡◌, refl, sym, ◌∙◌, ap, subst, inl, inr, ℕ, zero, suc, ◌+◌, ◌-◌, ◌≤◌, List, ◌++◌}
use Rattle.std.proofs.Common.{take, Option, Some, Bool}
use Rattle.desk_core.specs.View.{Name, Content, View}
use Rattle.desk_core.specs.Desk.{Rose, FaultsNeverFall, IfSpecified, WhereSpecified, IsPut, content_of, IsSameInput}
use Rattle.desk_core.specs.Desk.{HasInput, HasNoInput, IsReading, IsTaken, IsRead, IsWriting, IsWritten}

-- what rose from a later count on rose from the earlier one
pub rose_later : (a b c : ℕ) → a ≤ b → Rose b c → Rose a c
rose_later a b c h (inl more) = inl (omega arith)
rose_later a b c h (inr top) = inr top

-- what rose stays risen
pub rose_earlier : (a b c : ℕ) → a ≤ b → Rose a b → b ≤ c → Rose a c
rose_earlier a b c le (inl more) later = inl (omega arith)
rose_earlier a b c le (inr top) later = go (c - b) refl
  where
    go : (d : ℕ) → c - b ≡ d → Rose a c
    go zero e = inr (let same : c ≡ b = omega arith in same ∙ top)
    go (suc d) e = inl (omega arith)

pub never_fall_trans : (a b c : View) → FaultsNeverFall a b → FaultsNeverFall b c → FaultsNeverFall a c
never_fall_trans a b c h k = record {
  reading = λ s.
      let x : a.read_faults s ≤ b.read_faults s = h.reading s in
      let y : b.read_faults s ≤ c.read_faults s = k.reading s in
      omega arith;
  writing = λ s.
      let x : a.write_faults s ≤ b.write_faults s = h.writing s in
      let y : b.write_faults s ≤ c.write_faults s = k.writing s in
      omega arith;
  printing =
      let x : a.print_faults ≤ b.print_faults = h.printing in
      let y : b.print_faults ≤ c.print_faults = k.printing in
      omega arith;
}

-- what is specified later is so from the start on, where the value was the same
pub specified_from : {A : Type 0} (R : A → A → Type 0) (a b c : Option A)
    → b ≡ a
    → IfSpecified R b c
    → IfSpecified R a c
specified_from R a b c e h = λ after is. let before = h after is in (before.0, sym e ∙ before.1, before.2)

pub same_input_trans : (a b c : View) → IsSameInput a b → IsSameInput b c → IsSameInput a c
same_input_trans a b c h k = record { named = k.named ∙ h.named; bytes = k.bytes ∙ h.bytes }

pub no_input_same : (a b : View) → HasNoInput a → IsSameInput a b → HasNoInput b
no_input_same a b h k = record { named = k.named ∙ h.named; bytes = k.bytes ∙ h.bytes }

-- the input stays
pub input_stays : (name : Name) (old mid new : View)
    → HasInput name old mid
    → IsSameInput mid new
    → new.reads name ≡ mid.reads name
    → HasInput name old new
input_stays name old mid new h same reads = record {
  only = λ known is. h.only known (sym same.named ∙ is);
  named = λ files is there. same.named ∙ h.named files is there;
  bytes = λ files is. same.bytes ∙ h.bytes files is;
  opened = λ is. h.opened (sym same.bytes ∙ is);
  reads = reads ∙ h.reads;
}

-- the file was the same before
pub input_from : (name : Name) (old mid new : View)
    → mid.files ≡ old.files
    → HasInput name mid new
    → HasInput name old new
input_from name old mid new same h = record {
  only = h.only;
  named = λ files is there. h.named files (same ∙ is) there;
  bytes = λ files is. h.bytes files (same ∙ is);
  opened = h.opened;
  reads = h.reads;
}

-- reading goes on
pub reading_read : (name : Name) (place n : ℕ) (old_buf new_buf : List ℕ) (old mid new : View)
    → IsReading name place old mid
    → IsRead n old_buf new_buf mid new
    → IsReading name (place + n) old new
reading_read name place n old_buf new_buf old mid new h k = record {
  place = k.place ∙ ap (λ (p : ℕ). p + n) h.place;
  input = input_stays name old mid new h.input k.input (ap (λ (f : Name → Bool). f name) k.reads);
  no_other = λ s ne t. h.no_other s ne (ap (λ (f : Name → Bool). f s) (sym k.reads) ∙ t);
  files = k.files ∙ h.files;
  output = k.output ∙ h.output;
  printed = k.printed ∙ h.printed;
  writes = k.writes ∙ h.writes;
}

-- what a read takes of the bytes of the input, and of a file that was specified where it was opened
pub read_input : (name : Name) (place n : ℕ) (old_buf new_buf : List ℕ) (old mid new : View)
    → IsReading name place old mid
    → IsRead n old_buf new_buf mid new
    → (bytes : Content)
    → mid.input_bytes ≡ Some (Some bytes)
    → IsTaken bytes place n old_buf new_buf
read_input name place n old_buf new_buf old mid new h k bytes is =
    subst (λ (p : ℕ). IsTaken bytes p n old_buf new_buf) h.place (k.taken _ is)

pub read_specified : (name : Name) (place n : ℕ) (old_buf new_buf : List ℕ) (old mid new : View)
    → IsReading name place old mid
    → IsRead n old_buf new_buf mid new
    → WhereSpecified old (λ files. IsTaken (content_of (files name)) place n old_buf new_buf)
read_specified name place n old_buf new_buf old mid new h k files is =
    read_input name place n old_buf new_buf old mid new h k _ (h.input.bytes files is)

-- one more piece
pub writing_written : (name : Name) (sofar piece all : Content) (n : ℕ) (old mid new : View)
    → sofar ++ take n piece ≡ all
    → IsWriting name sofar old mid
    → IsWritten n piece mid new
    → IsWriting name all old new
writing_written name sofar piece all n old mid new e h k = record {
  files = λ after is.
      let step = k.files after is in
      let start = h.files step.0 step.1 in
      let put : IsPut name (content_of (step.0 name) ++ take n piece) step.0 after =
      step.2 name (h.output.specified step.0 step.1) in (
        start.0,
        start.1,
        record {
          here =
              put.here ∙ ap (λ (o : Option Content). Some (content_of o ++ take n piece)) start.2.here
              ∙ ap (λ (c : Content). Some c) e;
          others = λ s ne. put.others s ne ∙ start.2.others s ne;
        },
      );
  output = record {
    only = λ known is. h.output.only known (sym k.output ∙ is);
    specified = λ after is. let step = k.files after is in k.output ∙ h.output.specified step.0 step.1;
  };
  input_ends = λ its. no_input_same _ _ (h.input_ends its) k.input;
  other_input = λ other. same_input_trans _ _ _ (h.other_input other) k.input;
  place = k.place ∙ h.place;
  printed = k.printed ∙ h.printed;
  writes = ap (λ (f : Name → Bool). f name) k.writes ∙ h.writes;
  no_other = λ s ne t. h.no_other s ne (ap (λ (f : Name → Bool). f s) (sym k.writes) ∙ t);
  other_reads = λ s ne. ap (λ (f : Name → Bool). f s) k.reads ∙ h.other_reads s ne;
  no_new_input = λ s t. h.no_new_input s (ap (λ (f : Name → Bool). f s) (sym k.reads) ∙ t);
}
