-- How a run over SAMPLES ends, from how its stream ends; and that a report of the error leaves it as it is.
use Rattle.std.proofs.Common.{◌≡◌, sym, ap, subst, ◌∙◌, arith, inl, inr, ⊎_elim, ◌⊎◌, ◌+◌, ◌≤◌, ℕ, List, [], ◌∷◌, ◌++◌}
use Rattle.std.proofs.Common.{length, take, ℤ, None, Bool}
use Rattle.std.specs.List.{All}
use Rattle.std.proofs.Math.Nat.{min-eq_left}
use Rattle.std.proofs.lemmas.List.Elements.{All-head, All-tail, All-cons, All-nil}
use Rattle.lists.specs.Rows.{Rows}
use Rattle.desk_core.specs.View.{Name, Content, Files, View}
use Rattle.desk_core.specs.Desk.{IfSpecified, WhereSpecified, FaultsNeverFall, HasInput, HasOutput, IsPut, IsUnchanged}
use Rattle.desk_core.specs.Desk.{ReadFailed, WriteFailed, ReadFaultsRose, WriteFaultsRose, content_of}
use Rattle.desk_core.specs.Whole.{IsReadThrough}
use Rattle.desk_core.proofs.DeskLemmas.{rose_later, rose_earlier, specified_from, input_stays, input_from}
use Rattle.micro_image.specs.declared.conflict.Conflict.{Conflict as ConflictValue}
use Rattle.sample_io.specs.declared.RowFault.{RowFault}
use Rattle.sample_io.specs.declared.channel.Channel.{Channel}
use Rattle.sample_io.specs.Channels.{IsRow, IsStream}
use Rattle.sample_io.specs.Samples.{Lines, StopsAfter, printed}
use Rattle.sample_io.proofs.Streams.{RowsOf-stream}
use Rattle.sample_loops.specs.Reading.{HaveRows, HaveLastRow, HaveBadPlace, HasEarly, IsSoundEarly}
use Rattle.sample_loops.specs.Streams.{ChangesOutputAlone}
use Rattle.sample_loops.specs.Output as output
use Rattle.sample_loops.specs.Streams as stream
use Rattle.sample_loops.specs.declared.stream.StreamFault.{StreamFault}
use Rattle.sample_loops.specs.declared.stream.StreamFault.TheVariants.{Desk, Row, TooLong, Conflict}
use Rattle.silc_files.specs.Endings.{IsFinished}
use Rattle.silc_files.specs.Limits.{samples_limit}
use Rattle.silc_files.proofs.Endings.{through_still, specified_still}
use Rattle.sample_commands.specs.Samples.{AreSamples, HasRead, AreAll, HasReadLines, HasPut, AreUnopened, IsNotCreated}
use Rattle.sample_commands.specs.Samples.{IsCutShort, IsCloseTried, IsEndedEarly}
use Rattle.sample_commands.specs.Streaming.{IsOpened}
use Rattle.sample_commands.proofs.Opening.{put_from}

-- lines have rows of the channels
lines_stream : (channels : List Channel) (bytes : Content) (rows : Rows)
    → Lines bytes channels rows
    → IsStream channels rows
lines_stream channels bytes rows lines = RowsOf-stream bytes channels rows (inl lines)

rows_stream : (all : Type 0) (channels : List Channel) (bytes : Content) (rows : Rows)
    → HaveRows all channels bytes rows
    → IsStream channels rows
rows_stream all channels bytes rows =
    ⊎_elim (λ begins. lines_stream channels begins.0 rows begins.3) (λ whole. RowsOf-stream bytes channels rows whole.1)

last_stream : (all : Type 0) (channels : List Channel) (bytes : Content) (rows : Rows)
    → HaveLastRow all channels bytes rows
    → IsStream channels rows
last_stream all channels bytes rows =
    ⊎_elim (λ near. lines_stream channels near.0 rows near.3) (λ whole. RowsOf-stream bytes channels rows whole.1)

stops_stream : (channels : List Channel) (bytes : Content) (rows : Rows) (fault : RowFault)
    → StopsAfter channels bytes rows fault
    → IsStream channels rows
stops_stream channels bytes rows fault stops =
    subst (IsStream channels) stops.1 (lines_stream channels stops.0.front stops.0.rows stops.0.before)

bad_stream : (all : Type 0) (channels : List Channel) (bytes : Content) (rows : Rows) (fault : RowFault)
    → HaveBadPlace all channels bytes rows fault
    → IsStream channels rows
bad_stream all channels bytes rows fault =
    ⊎_elim (λ stops. stops_stream channels (bytes ++ []) rows fault (stops []))
    (λ whole. stops_stream channels bytes rows fault whole.1)

-- all rows but the last
front_of_all : {X : Type 0} (P : X → Type 0) (xs : List X) (x : X) → All P (xs ++ x ∷ []) → All P xs
front_of_all P [] x all = All-nil P
front_of_all P (y ∷ ys) x all =
    All-cons P y ys (All-head P y (ys ++ x ∷ []) all) (front_of_all P ys x (All-tail P y (ys ++ x ∷ []) all))

rows_before : (channels : List Channel) (rows : Rows) (row : List ℤ)
    → IsStream channels (rows ++ row ∷ [])
    → IsStream channels rows
rows_before channels rows row = front_of_all (IsRow channels) rows row

-- the stream from the open SAMPLES into the new OUT
module _ (samples out : Name) (old mid new : View) (le : FaultsNeverFall old mid)
    (opened : IsOpened samples out old mid) (only : ChangesOutputAlone mid new) where
  still_input : HasInput samples old new
  still_input = input_stays samples old mid new opened.input only.input (ap (λ (f : Name → Bool). f samples) only.reads)

  read_from : (bytes : Content)
      → stream.HasRead bytes mid new
      → length bytes ≤ samples_limit + 1
      → HasRead samples bytes old new
  read_from bytes read within = record {
    input = still_input;
    place = read.place;
    within = within;
    prefix = λ files is. read.prefix (content_of (files samples)) (opened.input.bytes files is);
  }

  all_from : (bytes : Content) → stream.HasReadAll (samples_limit + 1) bytes mid new → AreAll samples bytes old
  all_from bytes all = record {
    within = omega (arith, all.within);
    content = λ files is. all.all (content_of (files samples)) (opened.input.bytes files is);
  }

  lines_from : (channels : List Channel) (rows : Rows)
      → (lines : stream.HasReadLines channels rows mid new)
      → length lines.bytes ≤ samples_limit + 1
      → HasReadLines samples channels rows old new
  lines_from channels rows lines within =
      record { bytes = lines.bytes; read = read_from lines.bytes lines.read within; lines = lines.lines }

  read_rose : ReadFailed mid new → ReadFaultsRose samples old new
  read_rose failed = rose_later _ _ _ (le.reading samples) (failed samples opened.input.reads)

  write_rose : WriteFailed mid new → WriteFaultsRose out old new
  write_rose failed = rose_later _ _ _ (le.writing out) (failed out opened.writes)

  tried : stream.IsCloseTried mid new → IsCloseTried out old new
  tried = ⊎_elim (λ closed. inl closed) (λ failed. inr (write_rose failed))

  put : (bytes : Content) → output.HasPut bytes mid new → IfSpecified (IsPut out bytes) old.files new.files
  put bytes = put_from samples out old mid new bytes opened

  module _ (channels : List Channel) (gives says : Rows → Rows → Type 0) (meets shows : Rows → ConflictValue → Type 0)
      (given : (rows puts : Rows) → IsStream channels rows → gives rows puts → says rows puts)
      (met : (rows : Rows) (conflict : ConflictValue)
      → IsStream channels rows
      → meets rows conflict
      → shows rows conflict) where
    put_rows : (rows : Rows)
        → IsStream channels rows
        → stream.HasPutRows gives rows mid new
        → HasPut out says rows old new
    put_rows rows is has =
        record { puts = has.puts; given = given rows has.puts is has.given; put = put (printed has.puts) has.put }

    -- a call of the desk failed
    cut_short : stream.IsCutShort (samples_limit + 1) channels gives mid new
        → IsCutShort samples out channels says old new
    cut_short (inl h) = inl (record {
      rose = read_rose h.failed;
      rows = h.rows;
      within = omega (arith, h.before_end);
      lines = lines_from channels h.rows h.lines (omega (arith, h.before_end, h.lines.read.place));
      put = put_rows h.rows (lines_stream channels h.lines.lines.front h.rows h.lines.lines.before) h.put;
    })
    cut_short (inr (inl h)) = inr (inl (record {
      rose = write_rose h.failed;
      bytes = h.bytes;
      rows = h.rows;
      puts = h.puts;
      count = h.count;
      read = read_from h.bytes h.read.read h.read.within;
      rows_are = ⊎_elim (λ begins. inl begins) (λ whole. inr (all_from h.bytes whole.0, whole.1)) h.read.rows_are;
      given = given h.rows h.puts (rows_stream _ channels h.bytes h.rows h.read.rows_are) h.given;
      short = h.short;
      put = put (take h.count (printed h.puts)) h.put;
      early = h.early;
      sound = h.sound;
    }))
    cut_short (inr (inr h)) = inr (inr (record {
      rose = write_rose h.failed;
      bytes = h.run.bytes;
      rows = h.run.rows;
      read = read_from h.run.bytes h.run.read.read (omega (arith, h.run.read.within));
      all = all_from h.run.bytes h.run.read;
      rows_of = h.run.rows_of;
      put = put_rows h.run.rows (RowsOf-stream h.run.bytes channels h.run.rows h.run.rows_of) h.run.put;
    }))

    -- why it was not run to its end
    pub ended_early : (fault : StreamFault)
        → stream.IsStopped (samples_limit + 1) channels gives meets mid new fault
        → IsEndedEarly samples out channels says shows old new fault
    ended_early Desk h = inr (cut_short h)
    ended_early (Row fault) h = record {
      bytes = h.read.bytes;
      rows = h.rows;
      read = read_from h.read.bytes h.read.read h.read.within;
      stops = ⊎_elim (λ stops. inl stops) (λ whole. inr (all_from h.read.bytes whole.0, whole.1)) h.read.stops;
      sound = h.read.sound;
      put = put_rows h.rows (bad_stream _ channels h.read.bytes h.rows fault h.read.stops) h.put;
      closed = tried h.closed;
    }
    ended_early TooLong h =
        let lines = h.read.lines in
        record {
          rows = h.rows;
          place = h.read.place;
          lines = lines_from channels h.rows lines (omega (arith, h.read.place, lines.read.place));
          put = put_rows h.rows (lines_stream channels lines.lines.front h.rows lines.lines.before) h.put;
          closed = tried h.closed;
        }
    ended_early (Conflict conflict) h =
        let all : IsStream channels (h.rows ++ h.row ∷ []) =
        last_stream _ channels h.bytes (h.rows ++ h.row ∷ []) h.rows_are in
        record {
          bytes = h.bytes;
          rows = h.rows;
          row = h.row;
          read = read_from h.bytes h.read h.within;
          rows_are = ⊎_elim (λ near. inl near) (λ whole. inr (all_from h.bytes whole.0, whole.1)) h.rows_are;
          met = met (h.rows ++ h.row ∷ []) conflict all h.met;
          put = put_rows h.rows (rows_before channels h.rows h.row all) h.put;
          closed = tried h.closed;
        }

  -- it was run to its end
  module _ (channels : List Channel) (ran : Rows → Rows → Type 0)
      (h : stream.IsRunThrough (samples_limit + 1) channels ran mid new) where
    pub run_finished : IsFinished samples samples_limit old new
    run_finished = record {
      read = record {
        input = still_input;
        end = λ bytes is.
            let all : h.run.bytes ≡ bytes = h.run.read.all bytes (sym only.input.bytes ∙ is) in
            let few : length bytes ≤ samples_limit + 1 = omega (arith, ap length all, h.run.read.within) in
            h.run.read.read.place ∙ ap length all ∙ sym (min-eq_left few);
      };
      closed = h.closed;
    }

    pub run_samples_are : WhereSpecified old (λ files. AreSamples channels (content_of (files samples)) h.run.rows)
    run_samples_are = λ files is.
        let all = all_from h.run.bytes h.run.read in
        subst (λ b. AreSamples channels b h.run.rows) (all.content files is)
        (record { within = all.within; rows = h.run.rows_of })

    pub run_stream_is : IsStream channels h.run.rows
    run_stream_is = RowsOf-stream h.run.bytes channels h.run.rows h.run.rows_of

    pub run_put : IfSpecified (IsPut out (printed h.run.put.puts)) old.files new.files
    run_put = put (printed h.run.put.puts) h.run.put.put

-- files that were the same before
pub opened_from : (samples out : Name) (old mid new : View)
    → mid.files ≡ old.files
    → IsOpened samples out mid new
    → IsOpened samples out old new
opened_from samples out old mid new same h = record {
  input = input_from samples old mid new same h.input;
  place = h.place;
  files = specified_from (IsPut out []) old.files mid.files new.files same h.files;
  output = h.output;
  writes = h.writes;
}

-- SAMPLES was opened and OUT not created, after files that were the same
pub not_created_from : (samples out : Name) (old mid new : View)
    → mid.files ≡ old.files
    → FaultsNeverFall old mid
    → IsNotCreated samples out mid new
    → IsNotCreated samples out old new
not_created_from samples out old mid new same le not = record {
  rose = rose_later _ _ _ (le.writing out) not.rose;
  input = input_from samples old mid new same not.input;
  place = not.place;
  files = not.files ∙ same;
}

-- SAMPLES could not be opened, after the last input was read through
pub unopened_from : (samples last : Name) (limit : ℕ) (accepted : Files → Type 0) (old mid new : View)
    → FaultsNeverFall old mid
    → IsReadThrough last limit old mid
    → WhereSpecified old accepted
    → IsUnchanged mid new
    → ReadFaultsRose samples mid new
    → AreUnopened samples last limit accepted old new
unopened_from samples last limit accepted old mid new le read specified same rose = record {
  rose = rose_later _ _ _ (le.reading samples) rose;
  read = through_still old mid new same last limit read;
  specified = specified;
}

-- which faults rose where a run was cut short
pub cut_rose : (samples out : Name) (channels : List Channel) (gives : Rows → Rows → Type 0) (old new : View)
    → IsCutShort samples out channels gives old new
    → ReadFaultsRose samples old new ⊎ WriteFaultsRose out old new
cut_rose samples out channels gives old new =
    ⊎_elim (λ read. inl read.rose) (⊎_elim (λ write. inr write.rose) (λ close. inr close.rose))

-- a report of the error leaves why a run ended early as it is
module _ (samples out : Name) (old mid new : View) (same : IsUnchanged mid new) (later : FaultsNeverFall mid new)
    (before : FaultsNeverFall old mid) where
  pub unopened_still : (last : Name) (limit : ℕ) (accepted : Files → Type 0)
      → AreUnopened samples last limit accepted old mid
      → AreUnopened samples last limit accepted old new
  unopened_still last limit accepted h = record {
    rose = rose_earlier _ _ _ (before.reading samples) h.rose (later.reading samples);
    read = through_still old mid new same last limit h.read;
    specified = h.specified;
  }

  input_still : HasInput samples old mid → HasInput samples old new
  input_still h = input_stays samples old mid new h same.input (ap (λ (f : Name → Bool). f samples) same.reads)

  read_still : (bytes : Content) → HasRead samples bytes old mid → HasRead samples bytes old new
  read_still bytes h =
      record { input = input_still h.input; place = same.place ∙ h.place; within = h.within; prefix = h.prefix }

  read_rose_still : ReadFaultsRose samples old mid → ReadFaultsRose samples old new
  read_rose_still rose = rose_earlier _ _ _ (before.reading samples) rose (later.reading samples)

  write_rose_still : WriteFaultsRose out old mid → WriteFaultsRose out old new
  write_rose_still rose = rose_earlier _ _ _ (before.writing out) rose (later.writing out)

  closed_still : HasOutput None mid → HasOutput None new
  closed_still h = record {
    only = λ known is. h.only known (sym same.output ∙ is);
    specified = λ files is. same.output ∙ h.specified files (sym same.files ∙ is);
  }

  tried_still : IsCloseTried out old mid → IsCloseTried out old new
  tried_still = ⊎_elim (λ closed. inl (closed_still closed)) (λ rose. inr (write_rose_still rose))

  lines_still : (channels : List Channel) (rows : Rows)
      → HasReadLines samples channels rows old mid
      → HasReadLines samples channels rows old new
  lines_still channels rows h = record { bytes = h.bytes; read = read_still h.bytes h.read; lines = h.lines }

  module _ (channels : List Channel) (gives : Rows → Rows → Type 0) (meets : Rows → ConflictValue → Type 0) where
    put_still : (rows : Rows) → HasPut out gives rows old mid → HasPut out gives rows old new
    put_still rows h = record {
      puts = h.puts;
      given = h.given;
      put = specified_still old mid new same (IsPut out (printed h.puts)) h.put;
    }

    cut_still : IsCutShort samples out channels gives old mid → IsCutShort samples out channels gives old new
    cut_still (inl h) = inl (record {
      rose = read_rose_still h.rose;
      rows = h.rows;
      within = omega (arith, h.within, same.place);
      lines = lines_still channels h.rows h.lines;
      put = put_still h.rows h.put;
    })
    cut_still (inr (inl h)) = inr (inl (record {
      rose = write_rose_still h.rose;
      bytes = h.bytes;
      rows = h.rows;
      puts = h.puts;
      count = h.count;
      read = read_still h.bytes h.read;
      rows_are = h.rows_are;
      given = h.given;
      short = h.short;
      put = specified_still old mid new same (IsPut out (take h.count (printed h.puts))) h.put;
      early = subst (HasEarly channels h.bytes h.rows h.puts h.count) (sym same.place) h.early;
      sound = subst (IsSoundEarly channels h.bytes) (sym same.place) h.sound;
    }))
    cut_still (inr (inr h)) = inr (inr (record {
      rose = write_rose_still h.rose;
      bytes = h.bytes;
      rows = h.rows;
      read = read_still h.bytes h.read;
      all = h.all;
      rows_of = h.rows_of;
      put = put_still h.rows h.put;
    }))

    not_created_still : IsNotCreated samples out old mid → IsNotCreated samples out old new
    not_created_still not = record {
      rose = write_rose_still not.rose;
      input = input_still not.input;
      place = same.place ∙ not.place;
      files = same.files ∙ not.files;
    }

    pub ended_still : (fault : StreamFault)
        → IsEndedEarly samples out channels gives meets old mid fault
        → IsEndedEarly samples out channels gives meets old new fault
    ended_still Desk h = ⊎_elim (λ not. inl (not_created_still not)) (λ cut. inr (cut_still cut)) h
    ended_still (Row fault) h = record {
      bytes = h.bytes;
      rows = h.rows;
      read = read_still h.bytes h.read;
      stops = h.stops;
      sound = subst (IsSoundEarly channels h.bytes) (sym same.place) h.sound;
      put = put_still h.rows h.put;
      closed = tried_still h.closed;
    }
    ended_still TooLong h = record {
      rows = h.rows;
      place = same.place ∙ h.place;
      lines = lines_still channels h.rows h.lines;
      put = put_still h.rows h.put;
      closed = tried_still h.closed;
    }
    ended_still (Conflict conflict) h = record {
      bytes = h.bytes;
      rows = h.rows;
      row = h.row;
      read = read_still h.bytes h.read;
      rows_are = h.rows_are;
      met = h.met;
      put = put_still h.rows h.put;
      closed = tried_still h.closed;
    }
