-- Files that are read or written whole: the steps of the two loops, and how several such calls follow one another.
use Rattle.std.proofs.Common.{arith, ◌≡◌, ◌≢◌, sym, ◌∙◌, ap, inr, ℕ, zero, suc, ◌+◌, ◌≤◌, List, ◌++◌, length, take}
use Rattle.std.proofs.Common.{drop, Some, Bool, Result, Ok, Err, OnOk, OnErr, length-drop, length-append}
use Rattle.std.proofs.Math.Seq.{take-add}
use Rattle.std.proofs.lemmas.List.{length-take-le}
use Rattle.desk_core.specs.View.{Name, Content, View}
use Rattle.desk_core.specs.Desk.{FaultsNeverFall, WhereSpecified, content_of, IsSameInput, IsUnchanged}
use Rattle.desk_core.specs.Desk.{IsUnchangedButOutput, IsReading, IsTaken, IsWriting, IsClosed}
use Rattle.desk_core.specs.Whole.{IsReadThrough, IsWrittenWhole, IsWrittenInPart}
use Rattle.desk_core.proofs.DeskLemmas.{same_input_trans, no_input_same, input_stays, input_from}

-- this many of the bytes are in the new file
pub record IsWrittenSoFar (name : Name) (bytes : Content) (done : ℕ) (old new : View) : Type 0 where
  pub never_fall : FaultsNeverFall old new
  pub within : done ≤ length bytes
  pub writing : IsWriting name (take done bytes) old new

-- these bytes are a prefix of the file, which the input has
pub record IsReadSoFar (name : Name) (limit : ℕ) (bytes : Content) (old new : View) : Type 0 where
  pub never_fall : FaultsNeverFall old new
  pub within : length bytes ≤ limit
  pub reading : IsReading name (length bytes) old new
  pub held : (all : Content) → new.input_bytes ≡ Some (Some all) → length bytes ≤ length all
  pub content : WhereSpecified old (λ files. bytes ≡ take (length bytes) (content_of (files name)))

-- the close after the last piece
pub writing_closed : (name : Name) (bytes : Content) (old mid new : View)
    → IsWriting name bytes old mid
    → IsClosed mid new
    → IsWrittenWhole name bytes old new
writing_closed name bytes old mid new h k = record {
  files = λ after is. h.files after (sym k.files ∙ is);
  output = k.output;
  input_ends = λ its. no_input_same _ _ (h.input_ends its) k.input;
  other_input = λ other. same_input_trans _ _ _ (h.other_input other) k.input;
  place = k.place ∙ h.place;
  printed = k.printed ∙ h.printed;
  no_other = λ s ne t. h.no_other s ne (k.no_new_output s t);
  other_reads = λ s ne. ap (λ (f : Name → Bool). f s) k.reads ∙ h.other_reads s ne;
  no_new_input = λ s t. h.no_new_input s (ap (λ (f : Name → Bool). f s) (sym k.reads) ∙ t);
}

-- all but the faults is as it was, so the output is too
pub unchanged_but_output : (old new : View) → IsUnchanged old new → IsUnchangedButOutput old new
unchanged_but_output old new k = record {
  files = k.files;
  input = k.input;
  place = k.place;
  output = λ known is. inr (sym k.output ∙ is);
  printed = k.printed;
  reads = k.reads;
  no_new_output = λ s t. ap (λ (f : Name → Bool). f s) (sym k.writes) ∙ t;
}

-- a piece or the close failed
pub writing_failed : (name : Name) (bytes : Content) (n : ℕ) (old mid new : View)
    → n ≤ length bytes
    → IsWriting name (take n bytes) old mid
    → IsUnchangedButOutput mid new
    → IsWrittenInPart name bytes old new
writing_failed name bytes n old mid new le h k = record {
  files = λ after is. let step = h.files after (sym k.files ∙ is) in (step.0, step.1, inr (n, le, step.2));
  other_input = λ other. same_input_trans _ _ _ (h.other_input other) k.input;
  place = k.place ∙ h.place;
  printed = k.printed ∙ h.printed;
  no_other = λ s ne t. h.no_other s ne (k.no_new_output s t);
  other_reads = λ s ne. ap (λ (f : Name → Bool). f s) k.reads ∙ h.other_reads s ne;
  no_new_input = λ s t. h.no_new_input s (ap (λ (f : Name → Bool). f s) (sym k.reads) ∙ t);
}

pub on_err : {T E : Type 0} (r : Result T E) (A B : Type 0) → (A → B) → OnErr r A → OnErr r B
on_err (Ok x) A B f h = tt
on_err (Err e) A B f h = f h

pub any_err : {T E : Type 0} (r : Result T E) (A : Type 0) → A → OnErr r A
any_err (Ok x) A h = tt
any_err (Err e) A h = h

taken_within : (bytes : Content) (place n : ℕ) (old_buf new_buf : List ℕ)
    → IsTaken bytes place n old_buf new_buf
    → n ≤ length (drop place bytes)
taken_within bytes place zero old_buf new_buf t = omega arith
taken_within bytes place (suc n) old_buf new_buf t =
    let within : place + suc n ≤ length bytes = t.within (omega arith) in omega (arith, length-drop place bytes)

length_taken : (bytes : Content) (place n : ℕ) (old_buf new_buf : List ℕ)
    → IsTaken bytes place n old_buf new_buf
    → length (take n new_buf) ≡ n
length_taken bytes place n old_buf new_buf t =
    ap length t.front ∙ length-take-le n (drop place bytes) (taken_within bytes place n old_buf new_buf t)

-- with one more piece the bytes are a longer prefix of the content
pub prefix_read : (content bytes : Content) (n : ℕ) (old_buf new_buf more : List ℕ)
    → bytes ≡ take (length bytes) content
    → IsTaken content (length bytes) n old_buf new_buf
    → more ≡ bytes ++ take n new_buf
    → more ≡ take (length more) content
prefix_read content bytes n old_buf new_buf more e t m =
    let size : length more ≡ length bytes + n =
    ap length m ∙ length-append bytes (take n new_buf)
    ∙ ap (λ (k : ℕ). length bytes + k) (length_taken content (length bytes) n old_buf new_buf t) in
    m ∙ ap (λ (xs : List ℕ). xs ++ take n new_buf) e ∙ ap (λ (xs : List ℕ). take (length bytes) content ++ xs) t.front
    ∙ sym (take-add (length bytes) n content) ∙ ap (λ (k : ℕ). take k content) (sym size)

-- a file that was read through stays so where the input stays, where it was the same before, and where another
-- is written
pub through_stays : (name : Name) (limit : ℕ) (old mid new : View)
    → IsReadThrough name limit old mid
    → IsSameInput mid new
    → new.place ≡ mid.place
    → new.reads name ≡ mid.reads name
    → IsReadThrough name limit old new
through_stays name limit old mid new h same place reads =
    record {
      input = input_stays name old mid new h.input same reads;
      end = λ bytes is. place ∙ h.end bytes (sym same.bytes ∙ is);
    }

pub through_from : (name : Name) (limit : ℕ) (old mid new : View)
    → mid.files ≡ old.files
    → IsReadThrough name limit mid new
    → IsReadThrough name limit old new
through_from name limit old mid new same h = record { input = input_from name old mid new same h.input; end = h.end }

pub through_beside : (name out : Name) (limit : ℕ) (old mid new : View)
    → out ≢ name
    → IsReadThrough name limit old mid
    → (mid.input_name ≢ Some (Some out) → IsSameInput mid new)
    → new.place ≡ mid.place
    → ((s : Name) → s ≢ out → new.reads s ≡ mid.reads s)
    → IsReadThrough name limit old new
through_beside name out limit old mid new apart h other place reads =
    through_stays name limit old mid new h (other (λ is. apart (once out name (h.input.only _ is)))) place
    (reads name (λ e. apart (sym e)))
  where
    once : (a b : Name) → Some a ≡ Some b → a ≡ b
    once a b e = cc
