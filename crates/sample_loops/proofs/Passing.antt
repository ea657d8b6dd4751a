-- What rows put is passed on, one row after another.
use Rattle.std.proofs.Common.{◌≡◌, ℕ, ◌+◌, Bool, length, take, arith, List, [], ◌∷◌, ◌++◌, ℤ, ap, sym, ◌∙◌, subst}
use Rattle.std.proofs.Common.{append_assoc}
use Rattle.std.proofs.lemmas.Grind.{flat_map-append}
use Rattle.std.proofs.lemmas.List.{append-nil, length-append}
use Rattle.std.proofs.Math.Seq.{take-append-add}
use Rattle.lists.specs.Rows.{Rows}
use Rattle.desk_core.specs.Desk.{FaultsNeverFall, WriteFailed}
use Rattle.desk_core.specs.View.{Content, View}
use Rattle.desk_core.proofs.DeskLemmas.{rose_later}
use Rattle.sample_io.specs.Samples.{printed, printed_row}
use Rattle.sample_loops.specs.Private.Buffers.{IsAppended, IsAppendedInPart, PassesOn}
use Rattle.sample_loops.proofs.Appending.{put_twice}

-- bytes behind bytes
pub appended_twice : (first second : Content) (old mid new : View)
    → IsAppended first old mid
    → IsAppended second mid new
    → IsAppended (first ++ second) old new
appended_twice first second old mid new before now = record {
  files = put_twice first second old mid new before.output before.files now.files;
  output = now.output ∙ before.output;
  input = record { named = now.input.named ∙ before.input.named; bytes = now.input.bytes ∙ before.input.bytes };
  place = now.place ∙ before.place;
  printed = now.printed ∙ before.printed;
  reads = now.reads ∙ before.reads;
  writes = now.writes ∙ before.writes;
}

pub passes_more : (waited first mid second waits : Content) (start then now : View)
    → PassesOn waited first mid start then
    → PassesOn mid second waits then now
    → PassesOn waited (first ++ second) waits start now
passes_more waited first mid second waits start then now a b = (
  a.0 ++ b.0,
  append_assoc a.0 b.0 waits ∙ ap (λ l. a.0 ++ l) b.1 ∙ sym (append_assoc a.0 mid second) ∙ ap (λ l. l ++ second) a.1
      ∙ append_assoc waited first second,
  appended_twice a.0 b.0 start then now a.2 b.2,
)

pub printed-push : (rows : Rows) (row : List ℤ) → printed (rows ++ row ∷ []) ≡ printed rows ++ printed_row row
printed-push rows row =
    flat_map-append printed_row rows (row ∷ []) ∙ ap (λ l. printed rows ++ l) (append-nil (printed_row row))

-- writing failed since an earlier time too
pub failed_since : (written : Content) (start then now : View)
    → FaultsNeverFall start then
    → IsAppended written start then
    → WriteFailed then now
    → WriteFailed start now
failed_since written start then now never same failed s writes =
    rose_later (start.write_faults s) (then.write_faults s) (now.write_faults s) (never.writing s)
    (failed s (ap (λ (w : List ℕ → Bool). w s) same.writes ∙ writes))

-- of what was passed on and what waited a prefix is written
pub passes_part : (waited more mid : Content) (start then now : View)
    → PassesOn waited more mid start then
    → IsAppendedInPart mid then now
    → IsAppendedInPart (waited ++ more) start now
passes_part waited more mid start then now a b =
    let size = ap length a.1 ∙ length-append waited more in
    let both = length-append a.0 mid in (
      length a.0 + b.0,
      omega (arith, size, both, length-append waited more, b.1),
      subst (λ text. IsAppended text start now) (sym (take-append-add a.0 mid b.0) ∙ ap (take (length a.0 + b.0)) a.1)
          (appended_twice a.0 (take b.0 mid) start then now a.2 b.2),
    )

-- nothing was written, and as much waits
pub passes_still : (waited more mid waits : Content) (start then now : View)
    → PassesOn waited more mid start then
    → waits ≡ mid
    → IsAppended [] then now
    → PassesOn waited more waits start now
passes_still waited more mid waits start then now a same b = (
  a.0,
  ap (λ l. a.0 ++ l) same ∙ a.1,
  subst (λ text. IsAppended text start now) (append-nil a.0) (appended_twice a.0 [] start then now a.2 b),
)

-- a row more of each
pub as_many_more : (rows puts : Rows) (row put : List ℤ)
    → length puts ≡ length rows
    → length (puts ++ put ∷ []) ≡ length (rows ++ row ∷ [])
as_many_more rows puts row put same =
    length-append puts (put ∷ []) ∙ ap (λ n. n + 1) same ∙ sym (length-append rows (row ∷ []))
