-- The output grows while the input is read.
use Rattle.std.proofs.Common.{arith, ◌≡◌, ℕ, [], ◌++◌, Bool, Result, Ok, Err, OnOk, OnErr, IsErr, inl, inr, ⊎_elim}
use Rattle.std.proofs.Common.{refl, ap, sym, ◌∙◌}
use Rattle.desk_core.specs.Desk.{FaultsNeverFall, IsRead, IsUnchanged, IsUnchangedButOutput, IsClosed}
use Rattle.desk_core.specs.Desk.{ReadFailed, WriteFailed}
use Rattle.desk_core.specs.View.{Name, Content, View}
use Rattle.desk_core.proofs.DeskLemmas.{rose_later}
use Rattle.sample_loops.specs.Output.{HasPut}
use Rattle.sample_loops.specs.Streams.{IsCloseTried, ChangesOutputAlone}
use Rattle.sample_loops.specs.Private.Buffers.{IsAppended}
use Rattle.sample_loops.specs.Private.Streaming.{HasGrown}
use Rattle.sample_loops.proofs.Appending.{put_none, put_twice}

pub never_fall_same : (desk : View) → FaultsNeverFall desk desk
never_fall_same desk = record { reading = λ s. omega arith; writing = λ s. omega arith; printing = omega arith }

pub grown_none : (desk : View) → HasGrown [] desk desk
grown_none desk = record {
  files = put_none desk;
  output = refl;
  input = record { named = refl; bytes = refl };
  printed = refl;
  reads = refl;
  writes = refl;
}

-- bytes behind those that the output has
pub grown_more : (first second : Content) (old mid new : View)
    → HasGrown first old mid
    → IsAppended second mid new
    → HasGrown (first ++ second) old new
grown_more first second old mid new before now = record {
  files = put_twice first second old mid new before.output before.files now.files;
  output = now.output ∙ before.output;
  input = record { named = now.input.named ∙ before.input.named; bytes = now.input.bytes ∙ before.input.bytes };
  printed = now.printed ∙ before.printed;
  reads = now.reads ∙ before.reads;
  writes = now.writes ∙ before.writes;
}

-- the output keeps what it has where no file changes
pub put_kept : (bytes : Content) (old mid new : View)
    → HasPut bytes old mid
    → new.files ≡ mid.files
    → HasPut bytes old new
put_kept bytes old mid new put same = λ after is. put after (sym same ∙ is)

pub grown_read : (more : Content) (n : ℕ) (old_buf new_buf : Content) (old mid new : View)
    → HasGrown more old mid
    → IsRead n old_buf new_buf mid new
    → HasGrown more old new
grown_read more n old_buf new_buf old mid new before now = record {
  files = put_kept more old mid new before.files now.files;
  output = now.output ∙ before.output;
  input = record { named = now.input.named ∙ before.input.named; bytes = now.input.bytes ∙ before.input.bytes };
  printed = now.printed ∙ before.printed;
  reads = now.reads ∙ before.reads;
  writes = now.writes ∙ before.writes;
}

pub grown_unchanged : (more : Content) (old mid new : View)
    → HasGrown more old mid
    → IsUnchanged mid new
    → HasGrown more old new
grown_unchanged more old mid new before now = record {
  files = put_kept more old mid new before.files now.files;
  output = now.output ∙ before.output;
  input = record { named = now.input.named ∙ before.input.named; bytes = now.input.bytes ∙ before.input.bytes };
  printed = now.printed ∙ before.printed;
  reads = now.reads ∙ before.reads;
  writes = now.writes ∙ before.writes;
}

pub grown_alone : (more : Content) (old new : View) → HasGrown more old new → ChangesOutputAlone old new
grown_alone more old new h = record {
  files = (more, h.files);
  input = h.input;
  output = λ known is. inr (sym h.output ∙ is);
  printed = h.printed;
  reads = h.reads;
  writes = λ s writes. ap (λ (w : Name → Bool). w s) (sym h.writes) ∙ writes;
}

-- the output was closed, or at most that
pub grown_closed : (more : Content) (old mid new : View)
    → HasGrown more old mid
    → IsClosed mid new
    → ChangesOutputAlone old new
grown_closed more old mid new before now = record {
  files = (more, put_kept more old mid new before.files now.files);
  input = record { named = now.input.named ∙ before.input.named; bytes = now.input.bytes ∙ before.input.bytes };
  output = λ known is. inl (now.output.only known is);
  printed = now.printed ∙ before.printed;
  reads = now.reads ∙ before.reads;
  writes = λ s writes. ap (λ (w : Name → Bool). w s) (sym before.writes) ∙ now.no_new_output s writes;
}

pub grown_perhaps_closed : (more : Content) (old mid new : View)
    → HasGrown more old mid
    → IsUnchangedButOutput mid new
    → ChangesOutputAlone old new
grown_perhaps_closed more old mid new before now = record {
  files = (more, put_kept more old mid new before.files now.files);
  input = record { named = now.input.named ∙ before.input.named; bytes = now.input.bytes ∙ before.input.bytes };
  output = λ known is. ⊎_elim (λ none. inl none) (λ same. inr (sym before.output ∙ same)) (now.output known is);
  printed = now.printed ∙ before.printed;
  reads = now.reads ∙ before.reads;
  writes = λ s writes. ap (λ (w : Name → Bool). w s) (sym before.writes) ∙ now.no_new_output s writes;
}

-- a call failed since the start too
pub write_failed : (more : Content) (start mid now : View)
    → FaultsNeverFall start mid
    → HasGrown more start mid
    → WriteFailed mid now
    → WriteFailed start now
write_failed more start mid now never grown failed s writes =
    rose_later (start.write_faults s) (mid.write_faults s) (now.write_faults s) (never.writing s)
    (failed s (ap (λ (w : Name → Bool). w s) grown.writes ∙ writes))

pub read_failed : (more : Content) (start mid now : View)
    → FaultsNeverFall start mid
    → HasGrown more start mid
    → ReadFailed mid now
    → ReadFailed start now
read_failed more start mid now never grown failed s reads =
    rose_later (start.read_faults s) (mid.read_faults s) (now.read_faults s) (never.reading s)
    (failed s (ap (λ (r : Name → Bool). r s) grown.reads ∙ reads))

-- closed or not, all but the output is as it was
pub perhaps_closed : {T E : Type 0} (result : Result T E) (old new : View)
    → OnOk result (IsClosed old new)
    → OnErr result (IsUnchangedButOutput old new)
    → IsUnchangedButOutput old new
perhaps_closed (Ok done) old new closed failed = record {
  files = closed.files;
  input = closed.input;
  place = closed.place;
  output = λ known is. inl (closed.output.only known is);
  printed = closed.printed;
  reads = closed.reads;
  no_new_output = closed.no_new_output;
}
perhaps_closed (Err fault) old new closed failed = failed

pub close_tried : {T E : Type 0} (result : Result T E) (old new : View)
    → OnOk result (IsClosed old new)
    → (IsErr result → WriteFailed old new)
    → IsCloseTried old new
close_tried (Ok done) old new closed failed = inl closed.output
close_tried (Err fault) old new closed failed = inr (failed refl)
