-- How the parts of `compile` make up its answer, and those of any command that writes microcode of its files.
use Rattle.std.proofs.Common.{◌≡◌, sym, subst, inl, inr, ⊎_elim}
use Rattle.desk_core.specs.View.{Name, Content, Files, View}
use Rattle.desk_core.specs.Desk.{FaultsNeverFall, IsUnchanged, IfSpecified, IsPut, content_of}
use Rattle.desk_core.proofs.DeskLemmas.{specified_from}
use Rattle.plan_commands.specs.Compile.{AreCompiled, IsDoneOf, IsWrittenOf, IsWriteCutShortOf, IsWriteAnswerOf}
use Rattle.plan_commands.specs.Compile.{HasTheSolution, IsDone, IsCompileDone, IsAnswer}
use Rattle.plan_commands.specs.Headline.{CarriesTheSolution, IsCompiled}
use Rattle.silc_files.specs.Endings.{IsNotWritten, IsFinished}
use Rattle.silc_files.specs.Limits.{text_limit}
use Rattle.plan_commands.specs.Refusals.{IsRefusal, IsRefused, IsPlanError}
use Rattle.plan_commands.specs.Compiling.{IsMadeOf}
use Rattle.statuses.specs.declared.status.Status.{Status}
use Rattle.statuses.specs.declared.status.Status.TheVariants.{Done, Desk}
use Rattle.silc_files.proofs.Endings.{specified_still, finished_still, not_written_still}
use Rattle.plan_commands.proofs.Errors.{error_still}

-- the microcode of the files is written; `IsOf` says which they have
module _ (IsOf : Content → Files → Type 0) (last out : Name) where
  -- OUT was written, after the microcode was made
  pub compile_done : (microcode : Content) (old mid new : View)
      → mid.files ≡ old.files
      → IsMadeOf IsOf last old mid microcode
      → IsFinished last text_limit old new
      → IfSpecified (IsPut out microcode) mid.files new.files
      → IsWrittenOf IsOf last out old new
  compile_done microcode old mid new same made finished written = record {
    finished = finished;
    microcode = microcode;
    compiled = made.compiled;
    put = specified_from (IsPut out microcode) old.files mid.files new.files same written;
  }

  -- where the files are specified at the end, they were so at the start, and OUT has what was made of them
  pub written_at : (old new : View)
      → IsWrittenOf IsOf last out old new
      → IfSpecified (IsDoneOf IsOf out) old.files new.files
  written_at old new h after is =
      let (before, were, put) = h.put after is in
      (before, were, record { microcode = h.microcode; compiled = h.compiled before were; put = put })

  module _ (IsError : View → View → Status → Type 0) where
    -- a fault of writing, after the microcode was made
    pub cut_short : (microcode : Content) (old mid new : View) (status : Status)
        → status ≡ Desk
        → IsMadeOf IsOf last old mid microcode
        → IsNotWritten last text_limit out microcode old new
        → IsWriteAnswerOf IsOf IsError last out old new status
    cut_short microcode old mid new status desk made written =
        subst (λ (s : Status). IsWriteAnswerOf IsOf IsError last out old new s) (sym desk)
        (inr (record { microcode = microcode; compiled = made.compiled; written = written }))

    -- a report of the error leaves the answer as it is
    module _ (old mid new : View) (same : IsUnchanged mid new) (later : FaultsNeverFall mid new)
        (before : FaultsNeverFall old mid)
        (still : (status : Status) → IsError old mid status → IsError old new status) where
      cut_short_still : IsWriteCutShortOf IsOf last out old mid → IsWriteCutShortOf IsOf last out old new
      cut_short_still h = record {
        microcode = h.microcode;
        compiled = h.compiled;
        written = not_written_still old mid new same last out text_limit h.microcode before later h.written;
      }

      pub write_reported : (status : Status)
          → IsWriteAnswerOf IsOf IsError last out old mid status
          → IsWriteAnswerOf IsOf IsError last out old new status
      write_reported Done h = record {
        finished = finished_still old mid new same last text_limit h.finished;
        microcode = h.microcode;
        compiled = h.compiled;
        put = specified_still old mid new same (IsPut out h.microcode) h.put;
      }
      write_reported Desk h = ⊎_elim (λ early. inl (still Desk early)) (λ late. inr (cut_short_still late)) h
      write_reported error h = still error h

-- so it is where it is compiled from the files
pub compiled_at : (src datapath out : Name) (old new : View)
    → IsCompileDone src datapath out old new
    → IfSpecified (IsDone src datapath out) old.files new.files
compiled_at src datapath out = written_at (AreCompiled src datapath) datapath out

-- what is compiled carries the solution
carries : (source datapath microcode : Content)
    → IsCompiled source datapath microcode
    → CarriesTheSolution source datapath microcode
carries source datapath microcode h =
    let over = h.planned.has in
    record {
      tokens = over.read.read.tokens;
      lexed = over.read.read.lexed;
      program = h.program;
      parsed = over.read.read.parsed.is;
      path = h.path;
      described = over.described;
      image = h.image;
      spelled = h.spelled;
      inputs = h.inputs;
      outs = h.outs;
      runs = h.runs;
      period = h.period;
    }

pub headline_at : (src datapath out : Name) (old new : View)
    → IsCompileDone src datapath out old new
    → IfSpecified (HasTheSolution src datapath out) old.files new.files
headline_at src datapath out old new h after is =
    let (before, were, done) = compiled_at src datapath out old new h after is in (
      before,
      were,
      record {
        microcode = done.microcode;
        compiled = carries (content_of (before src)) (content_of (before datapath)) done.microcode done.compiled;
        put = done.put;
      },
    )

pub reported : (src datapath out : Name) (old mid new : View)
    → IsUnchanged mid new
    → FaultsNeverFall mid new
    → FaultsNeverFall old mid
    → (status : Status)
    → IsAnswer src datapath out old mid status
    → IsAnswer src datapath out old new status
reported src datapath out old mid new same later before =
    write_reported (AreCompiled src datapath) datapath out (IsPlanError src datapath) old mid new same later before
    (error_still IsRefusal IsRefused src datapath old mid new same later before)
