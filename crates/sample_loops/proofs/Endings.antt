-- The end of the input, and of the output.
use Rattle.std.proofs.Common.{arith, ◌≡◌, ℕ, List, [], ◌∷◌, ◌++◌, length, refl, ap, sym, ◌∙◌, subst, append_assoc, inl}
use Rattle.std.proofs.Common.{inr, ⊎_elim}
use Rattle.std.proofs.lemmas.List.{append-nil, length-append}
use Rattle.lists.specs.Rows.{Rows}
use Rattle.desk_core.specs.Desk.{FaultsNeverFall, IsClosed, IsUnchangedButOutput, WriteFailed}
use Rattle.desk_core.specs.View.{Content, View}
use Rattle.desk_core.proofs.DeskLemmas.{never_fall_trans}
use Rattle.micro_image.specs.declared.conflict.Conflict.{Conflict as ConflictValue}
use Rattle.sample_io.specs.declared.channel.Channel.{Channel}
use Rattle.sample_io.specs.FedRows.{FedRows}
use Rattle.sample_io.specs.Samples.{RowsOf, StopsAfter, printed}
use Rattle.sample_loops.specs.Output.{HasPut}
use Rattle.sample_loops.specs.Streams.{HasPutRows, HasRunAll, IsRunThrough, IsStopped, IsCloseTried, ChangesOutputAlone}
use Rattle.sample_loops.specs.Private.Buffers.{IsAppended, IsAppendedInPart}
use Rattle.sample_loops.specs.Private.Running.{RunsEnd, StopsAtEnd}
use Rattle.sample_loops.specs.Private.Streaming.{HasPassed, IsHeld, IsAtEnd, RunsInput, ShowsRefusal, IsRefused, IsCut}
use Rattle.sample_loops.specs.Private.Streaming.{StopsInInput}
use Rattle.sample_loops.specs.declared.stream.StreamFault.{StreamFault}
use Rattle.sample_loops.specs.declared.stream.StreamFault.TheVariants.{Desk, Row, TooLong, Conflict}
use Rattle.sample_loops.proofs.Growing.{grown_more, grown_closed, grown_perhaps_closed, put_kept, write_failed}
use Rattle.sample_loops.proofs.Streaming.{all_written, early_now, sound_now, held_cut, passed_flushed, printed-append}
use Rattle.sample_loops.proofs.Streaming.{read_at, read_all_at, running_rows, sound_more}

-- the last row ran
pub end_ran : (channels : List Channel) (ran more next : Rows → Rows → Type 0) (end : ℕ) (rows : FedRows)
    → (waited waits : Content) (start mid now : View)
    → (ended : IsAtEnd channels ran end rows waited start mid)
    → FaultsNeverFall mid now
    → (p : RunsEnd more rows [] mid waits now)
    → next (ended.running.before ++ p.rows) (ended.running.puts ++ p.puts)
    → RunsInput end channels next waits start now
end_ran channels ran more next end rows waited waits start mid now ended never p given =
    let run = ended.running in
    let h = run.passed in
    let whole = all_written h.written run.puts h.text in
    let all = read_all_at end run.bytes start mid now ended.all p.passes.2.place in
    let of =
    subst (λ c. RowsOf run.bytes c (run.before ++ p.rows)) run.channels_are
    (p.ends run.bytes run.before run.taken) in
    let written = h.written ++ p.passes.0 in
    record {
      rows = run.before ++ p.rows;
      puts = run.puts ++ p.puts;
      held = record {
        bytes = run.bytes;
        read = record { read = all.read; within = omega (arith, all.within); rows_are = inr (all, of) };
        given = given;
        passed = record {
          never_fall = never_fall_trans start mid now h.never_fall never;
          written = written;
          text = ap (λ w. (w ++ p.passes.0) ++ waits) whole ∙ append_assoc (printed run.puts) p.passes.0 waits
              ∙ ap (λ l. printed run.puts ++ l) p.passes.1 ∙ sym (printed-append run.puts p.puts);
          grown = grown_more h.written p.passes.0 start mid now h.grown p.passes.2;
          early =
              early_now channels rows run.bytes [] run.bytes run.before p.rows run.puts p.puts (length written)
              now.place run.channels_are run.taken run.as_many
              (sym (append-nil run.bytes)) (omega arith) all.read.place
              (omega (arith, ap length whole, length-append h.written p.passes.0));
          sound =
              sound_now channels rows run.bytes [] run.bytes run.before now.place run.channels_are run.taken
              (sym (append-nil run.bytes)) (omega arith) all.read.place;
        };
      };
      all = all;
      rows_of = of;
    }

-- the rows before the last are held
end_held : (channels : List Channel) (ran gives : Rows → Rows → Type 0) (end : ℕ) (rows : FedRows)
    → (waited waits : Content) (start mid now : View)
    → (ended : IsAtEnd channels ran end rows waited start mid)
    → gives ended.running.before ended.running.puts
    → FaultsNeverFall mid now
    → waits ≡ []
    → IsAppended [] mid now
    → IsHeld end channels gives ended.running.before ended.running.puts waits start now
end_held channels ran gives end rows waited waits start mid now ended given never none added =
    let run = ended.running in
    subst (λ w. IsHeld end channels gives run.before run.puts w start now) (sym none) (record {
      bytes = run.bytes;
      read =
          running_rows end channels rows run.bytes run.before start now
          (read_at run.bytes start mid now run.read added.place) run.channels_are run.taken
          (omega (arith, run.left_is));
      given = given;
      passed = passed_flushed channels run.bytes run.before run.puts [] start mid now run.passed never added;
    })

-- the last row did not run
pub end_stops : (channels : List Channel) (ran gives : Rows → Rows → Type 0)
    → (meets meets_some : Rows → ConflictValue → Type 0) (end : ℕ) (rows : FedRows) (waited waits : Content)
    → (start mid now : View)
    → (ended : IsAtEnd channels ran end rows waited start mid)
    → gives ended.running.before ended.running.puts
    → ((others : Rows) (conflict : ConflictValue)
    → meets_some others conflict
    → meets (ended.running.before ++ others) conflict)
    → FaultsNeverFall mid now
    → (fault : StreamFault)
    → StopsAtEnd meets_some rows [] mid waits now fault
    → StopsInInput end channels gives meets start waits now fault
end_stops channels ran gives meets meets_some end rows waited waits start mid now ended given later never (Row fault)
    (stops, none, added) =
    let run = ended.running in
    let all = read_all_at end run.bytes start mid now ended.all added.place in
    let held = end_held channels ran gives end rows waited waits start mid now ended given never none added in
    record {
      rows = run.before;
      puts = run.puts;
      held = held;
      shown = record {
        bytes = run.bytes;
        read = all.read;
        within = omega (arith, all.within);
        stops =
            inr (
              all,
              subst (λ c. StopsAfter c run.bytes run.before fault) run.channels_are
                  (stops run.bytes run.before run.taken),
            );
        sound = sound_more channels run.bytes mid.place now.place run.passed.sound added.place;
      };
    }
end_stops channels ran gives meets meets_some end rows waited waits start mid now ended given later never
    (Conflict conflict) (row, last, met, none, added) =
    let run = ended.running in
    let all = read_all_at end run.bytes start mid now ended.all added.place in
    record {
      rows = run.before;
      puts = run.puts;
      held = end_held channels ran gives end rows waited waits start mid now ended given never none added;
      shown = record {
        bytes = run.bytes;
        row = row;
        read = all.read;
        within = omega (arith, all.within);
        rows_are =
            inr (
              all,
              subst (λ c. RowsOf run.bytes c (run.before ++ row ∷ [])) run.channels_are
                  (last run.bytes run.before run.taken),
            );
        met = later (row ∷ []) conflict met;
      };
    }
end_stops channels ran gives meets meets_some end rows waited waits start mid now ended given later never Desk
    (row, last, failed, added) = absurd (omega (arith, added.1))
end_stops channels ran gives meets meets_some end rows waited waits start mid now ended given later never TooLong
    ends = absurd ends

-- what the rows put is written
put_all : (channels : List Channel) (bytes : Content) (gives : Rows → Rows → Type 0) (rows puts : Rows)
    → (waits : Content) (start mid now later : View)
    → gives rows puts
    → HasPassed channels bytes rows puts waits start mid
    → IsAppended waits mid now
    → later.files ≡ now.files
    → HasPutRows gives rows start later
put_all channels bytes gives rows puts waits start mid now later given h added same = record {
  puts = puts;
  given = given;
  put = put_kept (printed puts) start now later
      (subst (λ t. HasPut t start now) h.text (grown_more h.written waits start mid now h.grown added).files) same;
}

-- all rows of the input ran, and the rest was written
ran_all : (end : ℕ) (channels : List Channel) (ran gives : Rows → Rows → Type 0) (waits : Content)
    → (start mid now later : View)
    → (r : RunsInput end channels ran waits start mid)
    → gives r.rows r.puts
    → IsAppended waits mid now
    → later.files ≡ now.files
    → later.place ≡ now.place
    → HasRunAll end channels gives start later
ran_all end channels ran gives waits start mid now later r given added files place = record {
  bytes = r.held.bytes;
  rows = r.rows;
  read = read_all_at end r.held.bytes start mid later r.all (place ∙ added.place);
  rows_of = r.rows_of;
  put = put_all channels r.held.bytes gives r.rows r.puts waits start mid now later given r.held.passed added files;
}

-- and the output closed
pub run_through : (end : ℕ) (channels : List Channel) (ran : Rows → Rows → Type 0) (waits : Content)
    → (start mid now later : View)
    → RunsInput end channels ran waits start mid
    → IsAppended waits mid now
    → IsClosed now later
    → IsRunThrough end channels ran start later × ChangesOutputAlone start later
run_through end channels ran waits start mid now later r added closed =
    let h = r.held.passed in (
      record {
        run = ran_all end channels ran ran waits start mid now later r r.held.given added closed.files closed.place;
        closed = closed.output;
      },
      grown_closed (h.written ++ waits) start now later (grown_more h.written waits start mid now h.grown added) closed,
    )

-- so it is where of the rows that ran less is said
pub run_through_less : (end : ℕ) (channels : List Channel) (ran less : Rows → Rows → Type 0) (start later : View)
    → ((rows puts : Rows) → ran rows puts → less rows puts)
    → IsRunThrough end channels ran start later
    → IsRunThrough end channels less start later
run_through_less end channels ran less start later weaker through =
    let run = through.run in
    record {
      run = record {
        bytes = run.bytes;
        rows = run.rows;
        read = run.read;
        rows_of = run.rows_of;
        put = record { puts = run.put.puts; given = weaker run.rows run.put.puts run.put.given; put = run.put.put };
      };
      closed = through.closed;
    }

-- all rows of the input ran, and the rest could not be written
pub input_cut : (end : ℕ) (channels : List Channel) (ran gives : Rows → Rows → Type 0) (waits : Content)
    → (start mid now : View)
    → RunsInput end channels ran waits start mid
    → ((rows puts : Rows) → ran rows puts → gives rows puts)
    → WriteFailed mid now
    → IsAppendedInPart waits mid now
    → IsCut end channels gives start now
input_cut end channels ran gives waits start mid now r given failed added =
    let held : IsHeld end channels gives r.rows r.puts waits start mid =
    record {
      bytes = r.held.bytes;
      read = r.held.read;
      given = given r.rows r.puts r.held.given;
      passed = r.held.passed;
    } in
    held_cut end channels gives r.rows r.puts waits start mid now held failed added

-- or the output could not be closed
pub input_close_cut : (end : ℕ) (channels : List Channel) (ran gives : Rows → Rows → Type 0) (waits : Content)
    → (start mid now later : View)
    → RunsInput end channels ran waits start mid
    → ((rows puts : Rows) → ran rows puts → gives rows puts)
    → FaultsNeverFall mid now
    → IsAppended waits mid now
    → WriteFailed now later
    → IsUnchangedButOutput now later
    → IsCut end channels gives start later
input_close_cut end channels ran gives waits start mid now later r given never added failed same =
    let h = r.held.passed in
    let grown = grown_more h.written waits start mid now h.grown added in
    record {
      cut = inr (inr (record {
        failed =
            write_failed (h.written ++ waits) start now later (never_fall_trans start mid now h.never_fall never) grown
            failed;
        run =
            ran_all end channels ran gives waits start mid now later r (given r.rows r.puts r.held.given) added
            same.files same.place;
      }));
      alone = grown_perhaps_closed (h.written ++ waits) start now later grown same;
    }

module _ (end : ℕ) (channels : List Channel) (gives : Rows → Rows → Type 0)
    (meets : Rows → ConflictValue → Type 0) (start mid : View) (waits : Content) where
  is_refused : (fault : StreamFault)
      → (fault ≡ Desk → ⊥)
      → StopsInInput end channels gives meets start waits mid fault
      → IsRefused end channels gives meets start waits mid fault
  is_refused (Row fault) other stops = stops
  is_refused TooLong other stops = stops
  is_refused (Conflict conflict) other stops = stops
  is_refused Desk other stops = absurd (other refl)

  -- the rest could not be written
  pub stop_cut : (fault : StreamFault) (now : View)
      → (fault ≡ Desk → ⊥)
      → StopsInInput end channels gives meets start waits mid fault
      → WriteFailed mid now
      → IsAppendedInPart waits mid now
      → IsCut end channels gives start now
  stop_cut fault now other stops failed added =
      let r = is_refused fault other stops in
      held_cut end channels gives r.rows r.puts waits start mid now r.held failed added

  -- why the rows did not all run, and what was written of them
  refusal_put : (fault : StreamFault) (rows : Rows) (now : View)
      → ShowsRefusal end channels meets rows start mid fault
      → now.place ≡ mid.place
      → HasPutRows gives rows start now
      → IsCloseTried start now
      → IsStopped end channels gives meets start now fault
  refusal_put (Row fault) rows now shown place put closed = record {
    rows = rows;
    read = record {
      bytes = shown.bytes;
      read = read_at shown.bytes start mid now shown.read place;
      within = shown.within;
      stops =
          ⊎_elim (λ within. inl within) (λ ends. inr (read_all_at end shown.bytes start mid now ends.0 place, ends.1))
          shown.stops;
      sound = sound_more channels shown.bytes mid.place now.place shown.sound place;
    };
    put = put;
    closed = closed;
  }
  refusal_put TooLong rows now shown place put closed = record {
    rows = rows;
    read = record {
      place = place ∙ shown.place;
      lines = record {
        bytes = shown.lines.bytes;
        read = read_at shown.lines.bytes start mid now shown.lines.read place;
        lines = shown.lines.lines;
      };
    };
    put = put;
    closed = closed;
  }
  refusal_put (Conflict conflict) rows now shown place put closed = record {
    bytes = shown.bytes;
    rows = rows;
    row = shown.row;
    read = read_at shown.bytes start mid now shown.read place;
    within = shown.within;
    rows_are =
        ⊎_elim (λ near. inl near) (λ ends. inr (read_all_at end shown.bytes start mid now ends.0 place, ends.1))
        shown.rows_are;
    met = shown.met;
    put = put;
    closed = closed;
  }
  refusal_put Desk rows now shown place put closed = absurd shown

  -- the rest was written, and the output closed, or that failed
  pub stop_closed : (fault : StreamFault) (now later : View)
      → (fault ≡ Desk → ⊥)
      → StopsInInput end channels gives meets start waits mid fault
      → FaultsNeverFall mid now
      → IsAppended waits mid now
      → IsUnchangedButOutput now later
      → IsCloseTried now later
      → IsStopped end channels gives meets start later fault
  stop_closed fault now later other stops never added same tried =
      let r = is_refused fault other stops in
      let h = r.held.passed in
      let grown = grown_more h.written waits start mid now h.grown added in
      refusal_put fault r.rows later r.shown (same.place ∙ added.place)
      (put_all channels r.held.bytes gives r.rows r.puts waits start mid now later r.held.given h added same.files)
      (⊎_elim (λ closed. inl closed)
      (λ failed.
      inr (write_failed (h.written ++ waits) start now later (never_fall_trans start mid now h.never_fall never)
      grown failed))
      tried)

  -- nothing but the output changed
  pub stop_alone : (fault : StreamFault) (now later : View)
      → (fault ≡ Desk → ⊥)
      → StopsInInput end channels gives meets start waits mid fault
      → IsAppended waits mid now
      → IsUnchangedButOutput now later
      → ChangesOutputAlone start later
  stop_alone fault now later other stops added same =
      let h = (is_refused fault other stops).held.passed in
      grown_perhaps_closed (h.written ++ waits) start now later (grown_more h.written waits start mid now h.grown added)
      same
