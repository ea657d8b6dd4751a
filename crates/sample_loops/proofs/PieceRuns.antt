-- A piece was read, and the rows that it ends run, up to a fault or all of them.
use Rattle.std.proofs.Common.{arith, ◌≡◌, ℕ, ◌+◌, ◌≤◌, List, [], ◌∷◌, ◌++◌, length, take, drop, length-drop, inl}
use Rattle.std.proofs.Common.{refl, ap, sym, ◌∙◌, subst, append_assoc}
use Rattle.std.proofs.lemmas.List.{append-nil, length-append, length-take-le, take-append-le, take-append-drop}
use Rattle.lists.specs.Rows.{Rows}
use Rattle.desk_core.specs.Desk.{FaultsNeverFall, IsRead}
use Rattle.desk_core.specs.View.{Content, View}
use Rattle.desk_core.proofs.DeskLemmas.{never_fall_trans}
use Rattle.micro_image.specs.declared.conflict.Conflict.{Conflict as ConflictValue}
use Rattle.sample_io.specs.declared.RowFault.{RowFault}
use Rattle.sample_io.specs.declared.channel.Channel.{Channel}
use Rattle.sample_io.specs.FedRows.{FedRows}
use Rattle.sample_io.specs.Pieces.{HasTaken}
use Rattle.sample_io.specs.Samples.{Lines, StopsAfter, printed}
use Rattle.sample_loops.specs.Reading.{BeginsWith, EndsInLastPiece}
use Rattle.sample_loops.specs.Streams.{HasRead}
use Rattle.sample_loops.specs.Private.Buffers.{PassesOn}
use Rattle.sample_loops.specs.Private.Running.{RunsPiece, EndsInPiece, EndsLines}
use Rattle.sample_loops.specs.Private.Streaming.{HasGrown, HasPassed, IsHeld, IsRunning, StopsInInput}
use Rattle.sample_loops.specs.declared.stream.StreamFault.{StreamFault}
use Rattle.sample_loops.specs.declared.stream.StreamFault.TheVariants.{Desk, Row, TooLong, Conflict}
use Rattle.sample_loops.proofs.Appending.{appended_none}
use Rattle.sample_loops.proofs.Growing.{never_fall_same, grown_more, grown_read}
use Rattle.sample_loops.proofs.Streaming.{all_written, early_now, sound_now, held_cut, printed-append, read_more}

-- the lines of some of the rows stand at the front of the lines of all
pub lines_front : (bytes : Content) (channels : List Channel) (some more : Rows)
    → Lines bytes channels (some ++ more)
    → BeginsWith bytes channels some
lines_front bytes channels [] more lines = ([], bytes, refl, refl)
lines_front bytes channels (row ∷ some) more lines =
    let behind = lines_front lines.1 channels some more lines.4 in (
      lines.0 ++ behind.0,
      behind.1,
      lines.2 ∙ ap (λ l. lines.0 ++ l) behind.2 ∙ sym (append_assoc lines.0 behind.0 behind.1),
      (lines.0, behind.0, refl, lines.3, behind.3),
    )

-- what stands at the front of bytes stands at the front of more
pub begins_more : (bytes more : Content) (channels : List Channel) (rows : Rows)
    → BeginsWith bytes channels rows
    → BeginsWith (bytes ++ more) channels rows
begins_more bytes more channels rows (front, rest, is, lines) =
    (front, rest ++ more, ap (λ b. b ++ more) is ∙ append_assoc front rest more, lines)

-- what a read put at the front of a buffer
pub piece_is : (buf behind : Content) (n m : ℕ)
    → n ≤ m
    → length buf ≡ m
    → (take n (buf ++ behind) ≡ take n buf) × (length (take n (buf ++ behind)) ≡ n)
piece_is buf behind n m room size =
    let fits : n ≤ length buf = omega (arith, room, size) in
    let front = take-append-le n buf behind fits in
    (front, ap length front ∙ length-take-le n buf fits)

-- a piece was read; the rows before it ran, and all that they put is written
pub record HasPiece (end : ℕ) (channels : List Channel) (rows : FedRows) (bytes piece : Content) (before puts : Rows)
    (start now : View) : Type 0 where
  pub never_fall : FaultsNeverFall start now
  pub read : HasRead (bytes ++ piece) start now
  pub within : length (bytes ++ piece) ≤ end
  pub channels_are : rows.channels ≡ channels
  pub taken : HasTaken rows bytes before
  pub as_many : length puts ≡ length before
  pub few : length piece ≤ 4096
  pub grown : HasGrown (printed puts) start now

pub has_piece : (channels : List Channel) (ran : Rows → Rows → Type 0) (left end n : ℕ) (rows : FedRows)
    → (old_buf new_buf piece : Content) (start mid now : View)
    → (run : IsRunning channels ran left end rows [] start mid)
    → FaultsNeverFall mid now
    → IsRead n old_buf new_buf mid now
    → piece ≡ take n new_buf
    → length piece ≡ n
    → n ≤ 4096
    → n ≤ left
    → HasPiece end channels rows run.bytes piece run.before run.puts start now
has_piece channels ran left end n rows old_buf new_buf piece start mid now run never step is size few room =
    let h = run.passed in
    record {
      never_fall = never_fall_trans start mid now h.never_fall never;
      read = read_more run.bytes piece n old_buf new_buf start mid now run.read h.grown.input.bytes step is size;
      within = omega (arith, length-append run.bytes piece, size, room, run.left_is);
      channels_are = run.channels_are;
      taken = run.taken;
      as_many = run.as_many;
      few = omega (arith, size, few);
      grown = subst (λ t. HasGrown t start now) (all_written h.written run.puts h.text)
          (grown_read h.written n old_buf new_buf start mid now h.grown step);
    }

-- what rows of the piece put is passed on
pub piece_passed : (end : ℕ) (channels : List Channel) (rows : FedRows) (bytes piece : Content)
    → (before puts others next : Rows) (waits : Content) (start then now : View)
    → HasPiece end channels rows bytes piece before puts start then
    → FaultsNeverFall then now
    → PassesOn [] (printed next) waits then now
    → HasPassed channels (bytes ++ piece) (before ++ others) (puts ++ next) waits start now
piece_passed end channels rows bytes piece before puts others next waits start then now h never
    (more, text, added) = record {
      never_fall = never_fall_trans start then now h.never_fall never;
      written = printed puts ++ more;
      text = append_assoc (printed puts) more waits ∙ ap (λ l. printed puts ++ l) text ∙ sym (printed-append puts next);
      grown = grown_more (printed puts) more start then now h.grown added;
      early =
          early_now channels rows bytes piece (bytes ++ piece) before others puts next (length (printed puts ++ more))
          now.place h.channels_are h.taken h.as_many refl h.few
          (added.place ∙ h.read.place) (omega (arith, length-append (printed puts) more));
      sound =
          sound_now channels rows bytes piece (bytes ++ piece) before now.place h.channels_are h.taken refl h.few
          (added.place ∙ h.read.place);
    }

-- the rows of the piece ran
pub piece_ran : (channels : List Channel) (ran more next : Rows → Rows → Type 0) (left end n later : ℕ)
    → (rows new : FedRows) (old_buf new_buf piece waits : Content) (start mid then now : View)
    → (run : IsRunning channels ran left end rows [] start mid)
    → FaultsNeverFall mid then
    → IsRead n old_buf new_buf mid then
    → piece ≡ take n new_buf
    → length piece ≡ n
    → n ≤ 4096
    → later + n ≡ left
    → FaultsNeverFall then now
    → (p : RunsPiece more rows piece [] then new waits now)
    → next (run.before ++ p.rows) (run.puts ++ p.puts)
    → IsRunning channels next later end new waits start now
piece_ran channels ran more next left end n later rows new old_buf new_buf piece waits start mid then now run never step
    is size few behind on p ran_all =
    let h =
    has_piece channels ran left end n rows old_buf new_buf piece start mid then run never step is size few
    (omega (arith, behind)) in
    record {
      bytes = run.bytes ++ piece;
      before = run.before ++ p.rows;
      puts = run.puts ++ p.puts;
      left_is = omega (arith, length-append run.bytes piece, size, behind, run.left_is);
      read = record { place = p.passes.2.place ∙ h.read.place; prefix = h.read.prefix };
      channels_are = p.takes.channels ∙ run.channels_are;
      taken = p.takes.taken run.bytes run.before run.taken;
      as_many = omega (arith, length-append run.puts p.puts, length-append run.before p.rows, run.as_many, p.as_many);
      ran_rows = ran_all;
      passed =
          piece_passed end channels rows run.bytes piece run.before run.puts p.rows p.puts waits start then now h on
          p.passes;
    }

-- rows of the piece before a fault are held
piece_held : (end : ℕ) (channels : List Channel) (gives : Rows → Rows → Type 0) (rows : FedRows)
    → (bytes piece : Content) (before puts others next : Rows) (waits : Content) (start then now : View)
    → HasPiece end channels rows bytes piece before puts start then
    → FaultsNeverFall then now
    → PassesOn [] (printed next) waits then now
    → BeginsWith (bytes ++ piece) channels (before ++ others)
    → gives (before ++ others) (puts ++ next)
    → IsHeld end channels gives (before ++ others) (puts ++ next) waits start now
piece_held end channels gives rows bytes piece before puts others next waits start then now h never passes begins
    given = record {
      bytes = bytes ++ piece;
      read = record {
        read = record { place = passes.2.place ∙ h.read.place; prefix = h.read.prefix };
        within = h.within;
        rows_are = inl begins;
      };
      given = given;
      passed = piece_passed end channels rows bytes piece before puts others next waits start then now h never passes;
    }

-- lines that end in the piece
lines_end : (channels : List Channel) (rows : FedRows) (bytes piece : Content) (before others : Rows)
    → rows.channels ≡ channels
    → length piece ≤ 4096
    → HasTaken rows bytes before
    → EndsLines rows piece others
    → EndsInLastPiece (bytes ++ piece) channels (before ++ others)
lines_end channels rows bytes piece before others same few taken (count, some, within, ends) =
    let lines = subst (λ c. Lines (bytes ++ take count piece) c (before ++ others)) same (ends bytes before taken) in
    let whole : (bytes ++ take count piece) ++ drop count piece ≡ bytes ++ piece =
    append_assoc bytes (take count piece) (drop count piece) ∙ ap (λ l. bytes ++ l) (take-append-drop count piece) in (
      bytes ++ take count piece,
      drop count piece,
      sym whole,
      lines,
      omega (arith, length-drop count piece, some, within, few),
    )

-- some of the lines that end in the piece
some_begin : (channels : List Channel) (rows : FedRows) (bytes piece : Content) (before others more : Rows)
    → rows.channels ≡ channels
    → length piece ≤ 4096
    → HasTaken rows bytes before
    → EndsLines rows piece (others ++ more)
    → BeginsWith (bytes ++ piece) channels (before ++ others)
some_begin channels rows bytes piece before others more same few taken ends =
    let (front, rest, is, lines, near) =
    lines_end channels rows bytes piece before (others ++ more) same few taken ends in
    let some =
    lines_front front channels (before ++ others) more
    (subst (Lines front channels) (sym (append_assoc before others more)) lines) in
    subst (λ b. BeginsWith b channels (before ++ others)) (sym is)
    (begins_more front rest channels (before ++ others) some)

-- a bad place behind the lines
fault_begins : (channels : List Channel) (bytes : Content) (rows : Rows) (fault : RowFault)
    → StopsAfter channels bytes rows fault
    → BeginsWith bytes channels rows
fault_begins channels bytes rows fault (bad, same) =
    (bad.front, bad.rest, bad.bytes_are, subst (Lines bad.front channels) same bad.before)

module _ (end : ℕ) (channels : List Channel) (gives some : Rows → Rows → Type 0)
    (meets meets_some : Rows → ConflictValue → Type 0)
    (rows : FedRows) (bytes piece : Content) (before puts : Rows) (start then now : View) (waits : Content)
    (h : HasPiece end channels rows bytes piece before puts start then)
    (never : FaultsNeverFall then now)
    (later : (others next : Rows) → some others next → gives (before ++ others) (puts ++ next))
    (meets_later : (others : Rows) (conflict : ConflictValue)
    → meets_some others conflict
    → meets (before ++ others) conflict) where
  -- the rows of the piece did not all run
  pub piece_stops : (fault : StreamFault)
      → EndsInPiece some meets_some rows piece [] then waits now fault
      → StopsInInput end channels gives meets start waits now fault
  piece_stops (Row fault) (others, next, given, passes, after) =
      let stops : (more : Content) → StopsAfter channels (bytes ++ piece ++ more) (before ++ others) fault =
      λ more.
      subst (λ c. StopsAfter c (bytes ++ piece ++ more) (before ++ others) fault) h.channels_are
      (after bytes before h.taken more) in
      let front =
      subst (λ b. StopsAfter channels b (before ++ others) fault) (append-nil (bytes ++ piece)) (stops []) in
      record {
        rows = before ++ others;
        puts = puts ++ next;
        held =
            piece_held end channels gives rows bytes piece before puts others next waits start then now h never passes
            (fault_begins channels (bytes ++ piece) (before ++ others) fault front) (later others next given);
        shown = record {
          bytes = bytes ++ piece;
          read = record { place = passes.2.place ∙ h.read.place; prefix = h.read.prefix };
          within = h.within;
          stops = inl stops;
          sound =
              (piece_passed end channels rows bytes piece before puts others next waits start then now h never
              passes).sound;
        };
      }
  piece_stops (Conflict conflict) (others, row, next, given, met, passes, ends) = record {
    rows = before ++ others;
    puts = puts ++ next;
    held = piece_held end channels gives rows bytes piece before puts others next waits start then now h never passes
        (some_begin channels rows bytes piece before others (row ∷ []) h.channels_are h.few h.taken ends)
        (later others next given);
    shown = record {
      bytes = bytes ++ piece;
      row = row;
      read = record { place = passes.2.place ∙ h.read.place; prefix = h.read.prefix };
      within = h.within;
      rows_are = inl (subst (EndsInLastPiece (bytes ++ piece) channels) (sym (append_assoc before others (row ∷ [])))
          (lines_end channels rows bytes piece before (others ++ row ∷ []) h.channels_are h.few h.taken ends));
      met =
          subst (λ r. meets r conflict) (sym (append_assoc before others (row ∷ [])))
          (meets_later (others ++ row ∷ []) conflict met);
    };
  }
  piece_stops Desk (others, row, next, given, failed, added, ends) =
      let held =
      piece_held end channels gives rows bytes piece before puts others next (printed next) start then then h
      (never_fall_same then)
      ([], refl, appended_none then)
      (some_begin channels rows bytes piece before others (row ∷ []) h.channels_are h.few h.taken ends)
      (later others next given) in
      held_cut end channels gives (before ++ others) (puts ++ next) (printed next) start then now held failed added
  piece_stops TooLong ends = absurd ends
