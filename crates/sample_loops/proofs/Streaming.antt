-- Pieces of a stream are read, and the rows that they end run.
use Rattle.std.proofs.Common.{arith, ◌≡◌, ℕ, ◌+◌, ◌<◌, ◌≤◌, List, [], ◌++◌, length, take, drop, refl, ap, sym, ◌∙◌}
use Rattle.std.proofs.Common.{subst, inl, inr}
use Rattle.std.proofs.lemmas.Grind.{flat_map-append}
use Rattle.std.proofs.lemmas.List.{append-nil, length-append, take-append-le, take-append-drop, take_all}
use Rattle.std.proofs.Math.Seq.{take-add, take-append-add}
use Rattle.lists.specs.Rows.{Rows}
use Rattle.desk_core.specs.Desk.{FaultsNeverFall, IsRead, IsUnchanged, ReadFailed, WriteFailed}
use Rattle.desk_core.specs.View.{Content, View}
use Rattle.desk_core.proofs.DeskLemmas.{never_fall_trans}
use Rattle.sample_io.specs.declared.channel.Channel.{Channel}
use Rattle.sample_io.specs.FedRows.{FedRows}
use Rattle.sample_io.specs.Pieces.{HasTaken, AreLinesSoFar}
use Rattle.sample_io.specs.Samples.{Lines, StopsAfter, printed, printed_row}
use Rattle.sample_io.proofs.Taken.{taken_lines, taken_sound}
use Rattle.sample_loops.specs.Output.{HasPut}
use Rattle.sample_loops.specs.Reading.{piece_size, HasEarly, IsSoundEarly}
use Rattle.sample_loops.specs.Streams.{HasRead, HasReadAll, HasReadRows, HasReadLines, HasReadTooMany}
use Rattle.sample_loops.specs.Private.Buffers.{IsAppended, IsAppendedInPart}
use Rattle.sample_loops.specs.Private.Streaming.{HasPassed, IsHeld, IsRunning, IsAtEnd, IsCut}
use Rattle.sample_loops.proofs.Growing.{never_fall_same, grown_none, grown_more, grown_read, grown_unchanged}
use Rattle.sample_loops.proofs.Growing.{grown_alone, read_failed, write_failed}

pub printed-append : (puts more : Rows) → printed (puts ++ more) ≡ printed puts ++ printed more
printed-append puts more = flat_map-append printed_row puts more

printed_front : (puts : Rows) (n : ℕ) → length (printed (take n puts)) ≤ length (printed puts)
printed_front puts n =
    let parts = ap printed (sym (take-append-drop n puts)) ∙ printed-append (take n puts) (drop n puts) in
    let size = ap length parts in
    omega (arith, size, length-append (printed (take n puts)) (printed (drop n puts)))

-- a front of the bytes that is no longer than these is a front of these
front_within : (bytes more front rest : Content)
    → bytes ++ more ≡ front ++ rest
    → length front ≤ length bytes
    → bytes ≡ front ++ drop (length front) bytes
front_within bytes more front rest is within =
    let front_is : take (length front) bytes ≡ front =
    sym (take-append-le (length front) bytes more within) ∙ ap (take (length front)) is
    ∙ take-append-le (length front) front rest (omega arith) ∙ take_all (length front) front (omega arith) in
    sym (take-append-drop (length front) bytes) ∙ ap (λ l. l ++ drop (length front) bytes) front_is

-- where all that earlier rows put is written, and a piece was read since
pub early_now : (channels : List Channel) (rows : FedRows) (bytes more all : Content)
    → (before others puts next : Rows) (count place : ℕ)
    → rows.channels ≡ channels
    → HasTaken rows bytes before
    → length puts ≡ length before
    → all ≡ bytes ++ more
    → length more ≤ piece_size
    → place ≡ length all
    → length (printed puts) ≤ count
    → HasEarly channels all (before ++ others) (puts ++ next) count place
early_now channels rows bytes more all before others puts next count place same taken as_many all_is few at written
    front rest some is lines ended =
    let size : length all ≡ length bytes + length more = ap length all_is ∙ length-append bytes more in
    let within : length front ≤ length bytes = omega (arith, size, few, at, ended) in
    let front_is = front_within bytes more front rest (sym all_is ∙ is) within in
    let fewer : length some ≤ length before =
    taken_lines rows bytes before taken front (drop (length front) bytes) some front_is
    (subst (λ c. Lines front c some) (sym same) lines) in
    let kept : take (length some) (puts ++ next) ≡ take (length some) puts =
    take-append-le (length some) puts next (omega (arith, fewer, as_many)) in
    let text : length (printed (take (length some) (puts ++ next))) ≡ length (printed (take (length some) puts)) =
    ap (λ p. length (printed p)) kept in (
      omega (arith, fewer, length-append before others),
      omega (arith, text, printed_front puts (length some), written),
    )

pub early_more : (channels : List Channel) (bytes : Content) (rows puts : Rows) (count more place later : ℕ)
    → HasEarly channels bytes rows puts count place
    → count ≤ more
    → later ≡ place
    → HasEarly channels bytes rows puts more later
early_more channels bytes rows puts count more place later early fewer same front rest some is lines ended =
    let found = early front rest some is lines (omega (arith, same, ended)) in
    (found.0, omega (arith, found.1, fewer))

-- where a piece was read since these bytes were taken
pub sound_now : (channels : List Channel) (rows : FedRows) (bytes more all : Content) (before : Rows) (place : ℕ)
    → rows.channels ≡ channels
    → HasTaken rows bytes before
    → all ≡ bytes ++ more
    → length more ≤ piece_size
    → place ≡ length all
    → IsSoundEarly channels all place
sound_now channels rows bytes more all before place same taken all_is few at front rest some fault is ended stops =
    let size : length all ≡ length bytes + length more = ap length all_is ∙ length-append bytes more in
    let front_is = front_within bytes more front rest (sym all_is ∙ is) (omega (arith, size, few, at, ended)) in
    taken_sound rows bytes before taken front (drop (length front) bytes) some fault front_is
    (λ behind. subst (λ c. StopsAfter c (front ++ behind) some fault) (sym same) (stops behind))

pub sound_more : (channels : List Channel) (bytes : Content) (place later : ℕ)
    → IsSoundEarly channels bytes place
    → later ≡ place
    → IsSoundEarly channels bytes later
sound_more channels bytes place later sound same = subst (IsSoundEarly channels bytes) (sym same) sound

pub read_at : (bytes : Content) (start mid now : View)
    → HasRead bytes start mid
    → now.place ≡ mid.place
    → HasRead bytes start now
read_at bytes start mid now read same = record { place = same ∙ read.place; prefix = read.prefix }

pub read_all_at : (end : ℕ) (bytes : Content) (start mid now : View)
    → HasReadAll end bytes start mid
    → now.place ≡ mid.place
    → HasReadAll end bytes start now
read_all_at end bytes start mid now all same =
    record { read = read_at bytes start mid now all.read same; all = all.all; within = all.within }

pub read_rows_at : (end : ℕ) (channels : List Channel) (bytes : Content) (rows : Rows) (start mid now : View)
    → HasReadRows end channels bytes rows start mid
    → now.place ≡ mid.place
    → HasReadRows end channels bytes rows start now
read_rows_at end channels bytes rows start mid now read same = record {
  read = read_at bytes start mid now read.read same;
  within = read.within;
  rows_are = elim read.rows_are [
    | inl begins ↦ inl begins
    | inr whole ↦ inr (read_all_at end bytes start mid now whole.0 same, whole.1)
  ];
}

-- no byte was read yet
pub starts : (channels : List Channel) (ran : Rows → Rows → Type 0) (end : ℕ) (rows : FedRows) (waits : Content)
    → (start : View)
    → rows.channels ≡ channels
    → HasTaken rows [] []
    → start.place ≡ 0
    → waits ≡ []
    → ran [] []
    → IsRunning channels ran end end rows waits start start
starts channels ran end rows waits start same taken at none ran_none = record {
  bytes = [];
  before = [];
  puts = [];
  left_is = omega arith;
  read = record { place = at; prefix = λ all there. refl };
  channels_are = same;
  taken = taken;
  as_many = refl;
  ran_rows = ran_none;
  passed = record {
    never_fall = never_fall_same start;
    written = [];
    text = none;
    grown = grown_none start;
    early =
        early_now channels rows [] [] [] [] [] [] [] 0 start.place same taken refl refl (omega arith) at (omega arith);
    sound = sound_now channels rows [] [] [] [] start.place same taken refl (omega arith) at;
  };
}

-- what waits is written
pub passed_flushed : (channels : List Channel) (bytes : Content) (rows puts : Rows) (waits : Content)
    → (start mid now : View)
    → HasPassed channels bytes rows puts waits start mid
    → FaultsNeverFall mid now
    → IsAppended waits mid now
    → HasPassed channels bytes rows puts [] start now
passed_flushed channels bytes rows puts waits start mid now h never added = record {
  never_fall = never_fall_trans start mid now h.never_fall never;
  written = h.written ++ waits;
  text = append-nil (h.written ++ waits) ∙ h.text;
  grown = grown_more h.written waits start mid now h.grown added;
  early =
      early_more channels bytes rows puts (length h.written) (length (h.written ++ waits)) mid.place now.place h.early
      (omega (arith, length-append h.written waits)) added.place;
  sound = sound_more channels bytes mid.place now.place h.sound added.place;
}

pub running_flushed : (channels : List Channel) (ran : Rows → Rows → Type 0) (left end : ℕ) (rows : FedRows)
    → (waits : Content) (start mid now : View)
    → IsRunning channels ran left end rows waits start mid
    → FaultsNeverFall mid now
    → IsAppended waits mid now
    → IsRunning channels ran left end rows [] start now
running_flushed channels ran left end rows waits start mid now run never added = record {
  bytes = run.bytes;
  before = run.before;
  puts = run.puts;
  left_is = run.left_is;
  read = read_at run.bytes start mid now run.read added.place;
  channels_are = run.channels_are;
  taken = run.taken;
  as_many = run.as_many;
  ran_rows = run.ran_rows;
  passed = passed_flushed channels run.bytes run.before run.puts waits start mid now run.passed never added;
}

-- the rows that ran are rows that were read
pub running_rows : (end : ℕ) (channels : List Channel) (rows : FedRows) (bytes : Content) (before : Rows)
    → (start now : View)
    → HasRead bytes start now
    → rows.channels ≡ channels
    → HasTaken rows bytes before
    → length bytes ≤ end
    → HasReadRows end channels bytes before start now
running_rows end channels rows bytes before start now read same taken within =
    let so = taken.so_far in
    record {
      read = read;
      within = within;
      rows_are = inl (so.front, so.line, so.bytes_are, subst (λ c. Lines so.front c before) same so.before);
    }

pub running_held : (channels : List Channel) (ran gives : Rows → Rows → Type 0) (left end : ℕ) (rows : FedRows)
    → (waits : Content) (start now : View)
    → (run : IsRunning channels ran left end rows waits start now)
    → gives run.before run.puts
    → IsHeld end channels gives run.before run.puts waits start now
running_held channels ran gives left end rows waits start now run given = record {
  bytes = run.bytes;
  read =
      running_rows end channels rows run.bytes run.before start now run.read run.channels_are run.taken
      (omega (arith, run.left_is));
  given = given;
  passed = run.passed;
}

-- what waits could not be written
pub held_cut : (end : ℕ) (channels : List Channel) (gives : Rows → Rows → Type 0) (rows puts : Rows)
    → (waits : Content) (start mid now : View)
    → IsHeld end channels gives rows puts waits start mid
    → WriteFailed mid now
    → IsAppendedInPart waits mid now
    → IsCut end channels gives start now
held_cut end channels gives rows puts waits start mid now held failed (k, within, added) =
    let h = held.passed in
    let text : take (length h.written + k) (printed puts) ≡ h.written ++ take k waits =
    ap (take (length h.written + k)) (sym h.text) ∙ take-append-add h.written waits k in
    let size = ap length (sym h.text) ∙ length-append h.written waits in
    let grown = grown_more h.written (take k waits) start mid now h.grown added in
    record {
      cut = inr (inl (record {
        failed = write_failed h.written start mid now h.never_fall h.grown failed;
        bytes = held.bytes;
        rows = rows;
        puts = puts;
        count = length h.written + k;
        read = read_rows_at end channels held.bytes rows start mid now held.read added.place;
        given = held.given;
        short = omega (arith, size, within);
        put = subst (λ t. HasPut t start now) (sym text) grown.files;
        early =
            early_more channels held.bytes rows puts (length h.written) (length h.written + k) mid.place now.place
            h.early (omega arith) added.place;
        sound = sound_more channels held.bytes mid.place now.place h.sound added.place;
      }));
      alone = grown_alone (h.written ++ take k waits) start now grown;
    }

-- nothing waits, so all is written
pub all_written : (written : Content) (puts : Rows) → written ++ [] ≡ printed puts → written ≡ printed puts
all_written written puts text = sym (append-nil written) ∙ text

-- the bytes that were read are lines and a line begun
lines_read : (channels : List Channel) (ran : Rows → Rows → Type 0) (left end : ℕ) (rows : FedRows) (waits : Content)
    → (start mid now : View)
    → (run : IsRunning channels ran left end rows waits start mid)
    → now.place ≡ mid.place
    → HasReadLines channels run.before start now
lines_read channels ran left end rows waits start mid now run same = record {
  bytes = run.bytes;
  read = read_at run.bytes start mid now run.read same;
  lines = subst (λ c. AreLinesSoFar c run.bytes run.before) run.channels_are run.taken.so_far;
}

-- the next bytes could not be read
pub reading_cut : (channels : List Channel) (ran gives : Rows → Rows → Type 0) (left end : ℕ) (rows : FedRows)
    → (start mid now : View)
    → (run : IsRunning channels ran left end rows [] start mid)
    → gives run.before run.puts
    → 0 < left
    → ReadFailed mid now
    → IsUnchanged mid now
    → IsCut end channels gives start now
reading_cut channels ran gives left end rows start mid now run given some failed same =
    let h = run.passed in
    let grown = grown_unchanged h.written start mid now h.grown same in
    record {
      cut = inl (record {
        failed = read_failed h.written start mid now h.never_fall h.grown failed;
        rows = run.before;
        before_end = omega (arith, run.left_is, run.read.place, same.place, some);
        lines = lines_read channels ran left end rows [] start mid now run same.place;
        put = record {
          puts = run.puts;
          given = given;
          put = subst (λ t. HasPut t start now) (all_written h.written run.puts h.text) grown.files;
        };
      });
      alone = grown_alone h.written start now grown;
    }

-- no byte is left
pub too_many : (channels : List Channel) (ran : Rows → Rows → Type 0) (left end : ℕ) (rows : FedRows)
    → (waits : Content) (start now : View)
    → (run : IsRunning channels ran left end rows waits start now)
    → left ≡ 0
    → HasReadTooMany end channels run.before start now
too_many channels ran left end rows waits start now run none = record {
  place = run.read.place ∙ omega (arith, run.left_is, none);
  lines = lines_read channels ran left end rows waits start now now run refl;
}

-- the next bytes
pub read_more : (bytes piece : Content) (n : ℕ) (old_buf new_buf : Content) (start mid now : View)
    → HasRead bytes start mid
    → mid.input_bytes ≡ start.input_bytes
    → IsRead n old_buf new_buf mid now
    → piece ≡ take n new_buf
    → length piece ≡ n
    → HasRead (bytes ++ piece) start now
read_more bytes piece n old_buf new_buf start mid now read same step is size = record {
  place =
      step.place ∙ ap (λ p. p + n) read.place ∙ ap (λ l. length bytes + l) (sym size) ∙ sym (length-append bytes piece);
  prefix = λ all there.
      let taken = step.taken all (same ∙ there) in
      let added : piece ≡ take n (drop (length bytes) all) =
      is ∙ taken.front ∙ ap (λ p. take n (drop p all)) read.place in
      ap (λ b. b ++ piece) (read.prefix all there) ∙ ap (λ p. take (length bytes) all ++ p) added
      ∙ sym (take-add (length bytes) n all)
      ∙ ap (λ m. take m all) (sym (length-append bytes piece ∙ ap (λ l. length bytes + l) size));
}

-- no byte came
pub at_end : (channels : List Channel) (ran : Rows → Rows → Type 0) (left end n : ℕ) (rows : FedRows)
    → (waits : Content) (old_buf new_buf : Content) (start mid now : View)
    → IsRunning channels ran left end rows [] start mid
    → waits ≡ []
    → 0 < left
    → FaultsNeverFall mid now
    → IsRead n old_buf new_buf mid now
    → n ≡ 0
    → 0 < length old_buf
    → IsAtEnd channels ran end rows waits start now
at_end channels ran left end n rows waits old_buf new_buf start mid now run none some never step nothing room =
    let h = run.passed in
    let same : now.place ≡ mid.place = step.place ∙ omega (arith, nothing) in
    let read = read_at run.bytes start mid now run.read same in
    record {
      left = left;
      running = record {
        bytes = run.bytes;
        before = run.before;
        puts = run.puts;
        left_is = run.left_is;
        read = read;
        channels_are = run.channels_are;
        taken = run.taken;
        as_many = run.as_many;
        ran_rows = run.ran_rows;
        passed = record {
          never_fall = never_fall_trans start mid now h.never_fall never;
          written = h.written;
          text = h.text;
          grown = grown_read h.written n old_buf new_buf start mid now h.grown step;
          early =
              early_more channels run.bytes run.before run.puts (length h.written) (length h.written) mid.place
              now.place h.early (omega arith) same;
          sound = sound_more channels run.bytes mid.place now.place h.sound same;
        };
      };
      all = record {
        read = read;
        all = λ all there.
            let taken = step.taken all (h.grown.input.bytes ∙ there) in
            let ends : length all ≤ mid.place = taken.ends nothing room in
            run.read.prefix all there ∙ take_all (length run.bytes) all (omega (arith, ends, run.read.place));
        within = omega (arith, run.left_is, some);
      };
      none_waits = none;
    }
