-- A run over the current input comes to the end that the input's bytes have, where no fault of the desk rose.
use Rattle.std.proofs.Common.{◌≡◌, ◌∙◌, sym, ap, subst, arith, inl, inr, ⊎_elim, ℕ, ◌<◌, List, [], ◌∷◌, ◌++◌, length}
use Rattle.std.proofs.Common.{Option, Some, None}
use Rattle.lists.specs.Rows.{Rows}
use Rattle.desk_core.specs.View.{Content, View}
use Rattle.desk_core.specs.Desk.{ReadFailed, WriteFailed}
use Rattle.micro_image.specs.Fields.{Microprogram}
use Rattle.micro_image.specs.Run.{State, Stands}
use Rattle.micro_image.specs.declared.conflict.Conflict.{Conflict as ConflictValue}
use Rattle.equation_eval.specs.Evaluation.{Evaluation}
use Rattle.sample_commands.specs.StreamEnds.{EndsStream}
use Rattle.sample_io.specs.Channels.{AreChannels}
use Rattle.sample_io.specs.declared.channel.Channel.{Channel}
use Rattle.sample_io.specs.Samples.{RowsOf}
use Rattle.sample_loops.specs.Streams.{IsRunThrough, IsStopped}
use Rattle.sample_loops.specs.declared.stream.StreamFault.{StreamFault}
use Rattle.sample_loops.specs.declared.stream.StreamFault.TheVariants.{Desk, Row, TooLong, Conflict}
use Rattle.sample_loops.specs.Evaluators.{graph_channels, EvaluatesRows, SolvesRows}
use Rattle.sample_loops.specs.Machines.{IsClearOver, IsConflictInLast, RunsRows, PutsRows, StopsInLast}
use Rattle.sample_loops.specs.Private.MachineLaws.{runs_clear}
use Rattle.silc_laws.specs.Samples.{RunsThrough, StopsRun, IsAlwaysClear, MeetsNone, ReadsWithoutFault}
use Rattle.silc_laws.proofs.Conflicts.{clear_apart, meets_once}
use Rattle.silc_laws.proofs.Reading.{bad_place_read, lines_read, all_rows_read, many_read}
use Rattle.silc_laws.proofs.StreamEnds.{IsEnd, one_end, status_at}
use Rattle.statuses.specs.declared.status.Status.{Status}

module _ (end : ℕ) (channels : List Channel) (old new : View) (bytes : Content)
    (input : old.input_bytes ≡ Some (Some bytes)) (clear : Rows → Type 0) (meets : Rows → ConflictValue → Type 0) where
  pub through : (ran : Rows → Rows → Type 0)
      → ((rows puts : Rows) → ran rows puts → clear rows)
      → IsRunThrough end channels ran old new
      → RunsThrough end channels clear bytes
  through ran runs h =
      let all = h.run in
      let is : all.bytes ≡ bytes = all.read.all bytes input in
      record {
        within = subst (λ b. length b < end) is all.read.within;
        stream = all.rows;
        rows_of = subst (λ b. RowsOf b channels all.rows) is all.rows_of;
        runs = runs all.rows all.put.puts all.put.given;
      }

  pub stopped : (gives : Rows → Rows → Type 0) (shows : Rows → ConflictValue → Type 0)
      → ((rows puts : Rows) → gives rows puts → clear rows)
      → ((rows : Rows) (conflict : ConflictValue) → shows rows conflict → meets rows conflict)
      → (ReadFailed old new → ⊥)
      → (WriteFailed old new → ⊥)
      → (fault : StreamFault)
      → IsStopped end channels gives shows old new fault
      → StopsRun end channels clear meets bytes fault
  stopped gives shows runs met no_read no_write Desk h =
      absurd (⊎_elim (λ read. no_read read.failed)
      (⊎_elim (λ write. no_write write.failed) (λ close. no_write close.failed)) h)
  stopped gives shows runs met no_read no_write (Row fault) h = (
    h.rows,
    bad_place_read end channels bytes h.read.bytes (h.read.read.prefix bytes input) h.read.within h.rows fault
        (⊎_elim (λ stops. inl stops) (λ last. inr (last.0.all bytes input, last.0.within, last.1)) h.read.stops),
    runs h.rows h.put.puts h.put.given,
  )
  stopped gives shows runs met no_read no_write TooLong h =
      let lines = h.read.lines in (
        h.rows,
        many_read end channels bytes lines.bytes (lines.read.prefix bytes input)
            (omega (arith, h.read.place, lines.read.place)) h.rows (sym lines.read.place ∙ h.read.place) lines.lines,
        runs h.rows h.put.puts h.put.given,
      )
  stopped gives shows runs met no_read no_write (Conflict conflict) h =
      let rows = h.rows ++ h.row ∷ [] in
      let prefix = h.read.prefix bytes input in (
        rows,
        ⊎_elim
            (λ begins. lines_read end channels bytes h.bytes prefix h.within rows begins.0 begins.1 begins.2 begins.3)
            (λ all.
            all_rows_read end channels bytes h.bytes prefix h.within rows (all.0.all bytes input) all.0.within
            all.1)
            h.rows_are,
        met rows conflict h.met,
      )

  -- so its status is that of the end that the bytes have
  module _ (are : AreChannels channels) (ran gives : Rows → Rows → Type 0) (shows : Rows → ConflictValue → Type 0)
      (ran_clear : (rows puts : Rows) → ran rows puts → clear rows)
      (gives_clear : (rows puts : Rows) → gives rows puts → clear rows)
      (met : (rows : Rows) (conflict : ConflictValue) → shows rows conflict → meets rows conflict)
      (apart : (some more : Rows) (conflict : ConflictValue) → clear (some ++ more) → meets some conflict → ⊥)
      (once : (some more : Rows) (conflict other : ConflictValue)
      → meets some conflict → meets (some ++ more) other → conflict ≡ other)
      (no_read : ReadFailed old new → ⊥) (no_write : WriteFailed old new → ⊥) where
    pub ends_so : (status : Status)
        → EndsStream end channels ran gives shows old new status
        → (one : Option StreamFault)
        → IsEnd end channels clear meets bytes one
        → status ≡ status_at one
    ends_so status ends one its =
        ⊎_elim (λ done. done.0 ∙ ap status_at (same None (through ran ran_clear done.1)))
        (λ stop.
        stop.1
        ∙ ap status_at (same (Some stop.0) (stopped gives shows gives_clear met no_read no_write stop.0 stop.2)))
        ends
      where
        same : (other : Option StreamFault) → IsEnd end channels clear meets bytes other → other ≡ one
        same other is = one_end end channels are bytes clear meets apart once other one is its

-- a machine over the input, after the cycles that it ran before
pub run_law : (limit : ℕ) (micro : Microprogram) (channels : List Channel) (state after : State) (cycles : Rows)
    → (old new : View) (bytes : Content)
    → Stands state micro cycles
    → ReadsWithoutFault bytes old new
    → AreChannels channels
    → (status : Status)
    → EndsStream limit channels (λ rows puts. RunsRows micro state rows puts after) (PutsRows micro state)
    (λ rows conflict. StopsInLast micro state rows conflict after) old new status
    → (end : Option StreamFault)
    → IsEnd limit channels (IsClearOver micro cycles) (IsConflictInLast micro cycles) bytes end
    → status ≡ status_at end
run_law limit micro channels state after cycles old new bytes stands reads are status ends end its =
    ends_so limit channels old new bytes reads.input (IsClearOver micro cycles) (IsConflictInLast micro cycles) are
    (λ rows puts. RunsRows micro state rows puts after) (PutsRows micro state)
    (λ rows conflict. StopsInLast micro state rows conflict after)
    (λ rows puts ran. (runs_clear micro state after rows puts ran).clear cycles stands)
    (λ rows puts h. h.clear cycles stands) (λ rows conflict h. h.met cycles stands)
    (clear_apart micro cycles)
    (meets_once micro cycles) reads.no_read reads.no_write status ends end its

-- an evaluator over the input
pub evaluation_law : (limit : ℕ) (evaluator after : Evaluation) (old new : View) (bytes : Content)
    → ReadsWithoutFault bytes old new
    → AreChannels (graph_channels evaluator.graph)
    → (status : Status)
    → EndsStream limit (graph_channels evaluator.graph) (λ rows puts. EvaluatesRows evaluator rows puts after)
    (SolvesRows evaluator) (λ rows conflict. ⊥) old new status
    → (end : Option StreamFault)
    → IsEnd limit (graph_channels evaluator.graph) IsAlwaysClear MeetsNone bytes end
    → status ≡ status_at end
evaluation_law limit evaluator after old new bytes reads are status ends end its =
    ends_so limit (graph_channels evaluator.graph) old new bytes reads.input IsAlwaysClear MeetsNone are
    (λ rows puts. EvaluatesRows evaluator rows puts after) (SolvesRows evaluator) (λ rows conflict. ⊥)
    (λ rows puts h. tt) (λ rows puts h. tt) (λ rows conflict h. h) (λ some more conflict runs met. met)
    (λ some more conflict other met meet. absurd met) reads.no_read reads.no_write status ends end its
