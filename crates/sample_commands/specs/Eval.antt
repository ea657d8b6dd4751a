-- What `eval SRC SAMPLES OUT` reads and evaluates, when each of its statuses comes, and what it leaves.
use Rattle.std.specs.Prelude.{◌≡◌, ◌⊎◌, ℕ, List, length, map}
use Rattle.lists.specs.Rows.{Rows}
use Rattle.desk_core.specs.View.{Name, Content, Files, View}
use Rattle.desk_core.specs.Desk.{IfSpecified, WhereSpecified, ReadFaultsRose, IsPut, content_of}
use Rattle.desk_core.specs.Whole.{IsUnchangedButInput}
use Rattle.source_faults.specs.Faults.{IsOfSource}
use Rattle.sample_io.specs.declared.channel.Channel.{Channel}
use Rattle.sample_io.specs.Samples.{printed}
pub use Rattle.sample_loops.specs.Evaluators.{type_channel}
use Rattle.sample_loops.specs.declared.stream.StreamFault.{StreamFault}
use Rattle.sample_loops.specs.declared.stream.StreamFault.TheVariants as stream
use Rattle.silage_syntax.specs.Tree.{Program}
use Rattle.silage_meaning.specs.Value.{Words}
use Rattle.silage_meaning.specs.Solves.{IsOneSolution, input_types, out}
use Rattle.silc_files.specs.Endings.{IsRejected, IsFinished}
use Rattle.silc_files.specs.Limits.{text_limit, samples_limit}
use Rattle.silc_files.specs.Sources.{IsProgramIn, HasSomeProgram, HasFrontFault}
use Rattle.sample_commands.specs.Samples.{AreSamples, AreUnopened, IsEndedEarly}
use Rattle.statuses.specs.declared.status.SampleFault.TheVariants as sample_fault
use Rattle.statuses.specs.declared.status.Status.{Status}
use Rattle.statuses.specs.declared.status.Status.TheVariants.{Done, Memory, Desk, FrontEnd, Samples}

-- a channel for each input word
abbrev pub program_channels : Program → List Channel
program_channels program = map type_channel (input_types program)

-- The program has exactly one solution over the stream, and these are its rows. `rows_of` says which rows a
-- solution has over so many samples.
pub record IsSolutionRowsBy (rows_of : Program → Words → (count : ℕ) → Rows) (program : Program) (stream puts : Rows)
    : Type 0 where
  pub words : Words
  pub one : IsOneSolution program stream words
  pub puts_are : puts ≡ rows_of program words (length stream)

-- and the text is that of its rows
pub record IsSolutionTextBy (rows_of : Program → Words → (count : ℕ) → Rows) (program : Program) (stream : Rows)
    (text : Content) : Type 0 where
  pub words : Words
  pub one : IsOneSolution program stream words
  pub text_is : text ≡ printed (rows_of program words (length stream))

-- so they are where the rows are those of its output words
abbrev pub IsSolutionRows : Program → (stream puts : Rows) → Type 0
IsSolutionRows = IsSolutionRowsBy out

abbrev pub IsSolutionText : Program → Rows → Content → Type 0
IsSolutionText = IsSolutionTextBy out

-- SRC has the program, and SAMPLES the stream for it
pub record HasSamples (src samples : Name) (program : Program) (stream : Rows) (files : Files) : Type 0 where
  pub source : IsProgramIn src program files
  pub samples_are : AreSamples (program_channels program) (content_of (files samples)) stream

-- SRC could not be read, or it has a program and SAMPLES could not be opened; at most the input and the faults changed
pub record IsEvalUnread (src samples : Name) (old new : View) : Type 0 where
  pub unchanged : IsUnchangedButInput old new
  pub rose : ReadFaultsRose src old new ⊎ AreUnopened samples src text_limit (HasSomeProgram src) old new

-- SRC has the program, and its evaluation over SAMPLES, which was opened, did not come to its end. What OUT has is of
-- the program's one solution over the rows before.
pub record IsEvalStopped (src samples out : Name) (old new : View) (fault : StreamFault) : Type 0 where
  pub program : Program
  pub specified : WhereSpecified old (IsProgramIn src program)
  pub ended :
      IsEndedEarly samples out (program_channels program) (IsSolutionRows program) (λ rows conflict. ⊥) old new fault

-- OUT has the rows of the one solution of SRC's program over the stream of SAMPLES, as the files were at the start, and
-- every other file is as it was. `rows_of` says which rows a solution has over so many samples.
pub record IsEvalDoneBy (rows_of : Program → Words → (count : ℕ) → Rows) (src samples out : Name) (old new : View)
    : Type 0 where
  pub finished : IsFinished samples samples_limit old new
  pub program : Program
  pub stream : Rows
  pub text : Content
  pub solution : IsSolutionTextBy rows_of program stream text
  pub specified : WhereSpecified old (HasSamples src samples program stream)
  pub put : IfSpecified (IsPut out text) old.files new.files

-- so it has where the rows are the output rows
abbrev pub IsEvalDone : Name → Name → Name → View → View → Type 0
IsEvalDone = IsEvalDoneBy out

-- When each status comes. SRC is read through and judged before SAMPLES is opened and OUT created, and all memory is
-- taken before.
abbrev pub IsEvalAnswer : Name → Name → Name → View → View → Status → Type 0
IsEvalAnswer src samples out old new Done = IsEvalDone src samples out old new
IsEvalAnswer src samples out old new Memory = IsUnchangedButInput old new
IsEvalAnswer src samples out old new Desk =
    IsEvalUnread src samples old new ⊎ IsEvalStopped src samples out old new stream.Desk
IsEvalAnswer src samples out old new (FrontEnd fault) =
    IsOfSource fault × IsRejected src text_limit (HasFrontFault src fault) old new
IsEvalAnswer src samples out old new (Samples (sample_fault.Row line at)) =
    IsEvalStopped src samples out old new (stream.Row (record { line = line; at = at }))
IsEvalAnswer src samples out old new (Samples sample_fault.TooLong) =
    IsEvalStopped src samples out old new stream.TooLong
IsEvalAnswer src samples out old new _ = ⊥
