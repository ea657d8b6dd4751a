-- A whole sample of a processor keeps a net's state, and is as many turns as it has cycles.
use Rattle.std.proofs.Common.{◌≡◌, ℕ, ◌+◌, ◌-◌, ◌*◌, ◌%◌, ◌<◌, ◌≤◌, ◌^◌, Bool, true, false, List, [], ◌∷◌, ◌++◌, length}
use Rattle.std.proofs.Common.{get_or, take, drop, replicate, Some, ℤ, refl, ap, sym, ◌∙◌, subst, arith}
use Rattle.std.proofs.Common.{mul-le-mul_right}
use Rattle.std.specs.Prelude.{slice_get, slice_set}
use Rattle.std.proofs.Math.Nat.{mul-mod_left}
use Rattle.std.proofs.lemmas.List.{length-append, length-replicate, length-map, get_or-map, map-set, append-nil}
use Rattle.std.proofs.lemmas.List.{take_more}
use Rattle.std.proofs.lemmas.Option.{slice_get_read}
use Rattle.lists.specs.Rows.{Rows}
use Rattle.lists.proofs.Places.{some_at, some_once}
use Rattle.micro_image.specs.declared.conflict.Conflict.{Conflict}
use Rattle.micro_image.specs.Conflict.{HasConflict}
use Rattle.micro_image.specs.Fields.{Microprogram}
use Rattle.micro_image.specs.Run.{Stands, IsRunOut, spread, latches}
use Rattle.micro_image.proofs.Prefix.{IsClear-without}
use Rattle.micro_image.proofs.Streams.{spread-append}
use Rattle.cycle_sim.specs.Machine.{state_of, sample_rows, IsAtSample, IsFirstOfSample, MeetsConflictInSample}
use Rattle.cycle_sim.specs.Microcode.{micro_of}
use Rattle.net_core.specs.declared.types.Wire.{Wire}
use Rattle.net_turns.specs.Turns.{Point, start, point_of, period_of, lacks, after_turns}
use Rattle.net_turns.proofs.Rounds.{turns_keep}
use Rattle.proc_net.specs.declared.processor.Processor.{Processor}
use Rattle.net_solution.specs.RowLists.{row_in, count_in}
use Rattle.net_solution.specs.Solutions.{program_of, shape_of, fed}
use Rattle.net_solution.proofs.Cycles.{all_cycles, length-so_far, row_put}
use Rattle.proc_net.specs.Nets.{NetState, parts_of, points_of, IsProcessorAt, sample_turns}
use Rattle.proc_net.specs.Private.Reading.{point_at, points_by, shape_by}
use Rattle.proc_net.specs.Private.Runs.{RanSample, CanRunSample}
use Rattle.proc_net.specs.Private.States.{IsProcessorIn, IsState, TookTurns}
use Rattle.proc_net.proofs.Changing.{parts_kept, state_kept, with_processor, marking_kept}
use Rattle.proc_net.proofs.Keeping.{keeps_more}
use Rattle.proc_net.proofs.Reading.{feed_is}
use Rattle.proc_net.proofs.SampleTurns.{all_same_number, turns_of_sample, sample_runs, turns_first}
use Rattle.proc_net.proofs.Turned.{Begins, BeginsBy, lacks_says, row_now, row_there}
use Rattle.proc_net.proofs.Turning.{inside, feed_inside, image_inside, at, point, more, more_fed, period, cycle}
use Rattle.proc_net.proofs.Turning.{program}
use Rattle.proc_net.proofs.Turning.{read, row_count, row_words, micro_period, stands, small, width, can_run}

-- the cycles of a whole sample
sample_ends : (period : ℕ) (stream : Rows) (ran so_many : ℕ) (row : List ℤ)
    → ran < length stream
    → row ≡ get_or stream ran []
    → so_many ≡ 0
    → (spread period (take ran stream) ++ replicate so_many row) ++ replicate period row
    ≡ spread period (take (ran + 1) stream) ++ replicate 0 row
sample_ends period stream ran so_many row within is first =
    ap (λ (n : ℕ). (spread period (take ran stream) ++ replicate n row) ++ replicate period row) first
    ∙ ap (λ (l : Rows). l ++ replicate period row) (append-nil (spread period (take ran stream)))
    ∙ ap (λ (l : Rows). spread period (take ran stream) ++ l) (sym (append-nil (replicate period row)))
    ∙ sym (spread-append period (take ran stream) (row ∷ []))
    ∙ ap (λ (r : List ℤ). spread period (take ran stream ++ r ∷ [])) is
    ∙ ap (λ (s : Rows). spread period s) (sym (take_more stream ran [] within))
    ∙ sym (append-nil (spread period (take (ran + 1) stream)))

module _ (micro : Microprogram) (stream rows : Rows) (run : IsRunOut micro stream rows) (ran cycle : ℕ) (row : List ℤ)
    (within : ran < length stream) (is : row ≡ get_or stream ran []) (first : cycle ≡ 0) where
  -- no cycle of the sample has a conflict
  no_conflict : (conflict : Conflict)
      → IsFirstOfSample micro (spread micro.period (take ran stream) ++ replicate cycle row) row conflict
      → ⊥
  no_conflict conflict met =
      let so_far = length-so_far micro.period stream ran cycle row within is in
      let whole = length-so_far micro.period stream ran micro.period row within is in
      let more : (ran + 1) * micro.period ≤ length stream * micro.period =
      mul-le-mul_right micro.period (omega (arith, within)) in
      let clear = run.clear conflict.cycle (omega (arith, more, met.within, so_far, first)) in
      let front : (spread micro.period (take ran stream) ++ replicate cycle row) ++ replicate micro.period row
      ≡ spread micro.period (take ran stream) ++ replicate micro.period row =
      ap (λ (n : ℕ). (spread micro.period (take ran stream) ++ replicate n row) ++ replicate micro.period row) first
      ∙ ap (λ (l : Rows). l ++ replicate micro.period row) (append-nil (spread micro.period (take ran stream))) in
      let all = all_cycles micro.period stream ran micro.period row within is (omega arith) in
      IsClear-without micro (spread micro.period (take ran stream) ++ replicate micro.period row)
      (replicate (micro.period - micro.period) row ++ spread micro.period (drop (ran + 1) stream)) conflict.cycle
      (omega (arith, met.within, so_far, whole, first)) (rw (← all) clear) conflict.kind conflict.place
      (subst (λ (z : Rows). HasConflict conflict.kind micro z conflict.cycle conflict.place) front met.there.there)

-- a machine that has run whole samples is at the start of one
is_at_sample : (machine period ran samples count : ℕ)
    → machine ≡ ran * period + count
    → count ≡ 0
    → 0 < period
    → ran < samples
    → samples < 2 ^ 47
    → (machine % period ≡ 0) × (machine < 2 ^ 48 * period)
is_at_sample machine period ran samples count is none some more few =
    let whole : machine ≡ ran * period = omega (arith, is, none) in
    let most : (ran + 1) * period ≤ 2 ^ 48 * period = mul-le-mul_right period (omega (arith, more, few)) in
    (ap (λ (n : ℕ). n % period) whole ∙ mul-mod_left ran period, omega (arith, whole, most, some))

module _ (net : NetState) (is : IsState net) (p : ℕ) (own : Processor) (old_row row : List ℤ)
    (there : slice_get net.processors p ≡ Some own) (old_there : slice_get net.rows p ≡ Some old_row)
    (runs_now : lacks (shape_of (parts_of net)) (points_of net) p ≡ false)
    (row_is : row ≡ get_or (fed (parts_of net) is.puts p) own.ran []) (first : own.cycle ≡ 0) where
  same : 0 < own.cycle → row ≡ old_row
  same later = absurd (omega (arith, first, later))

  abbrev so_far : Rows
  so_far =
      spread (program_of (parts_of net) p).period (take own.ran (fed (parts_of net) is.puts p))
      ++ replicate own.cycle row

  stands_now : Stands (state_of own.machine) (program_of (parts_of net) p) so_far
  stands_now = stands net is p own old_row row there old_there runs_now row_is same

  stands_own : Stands (state_of own.machine) (micro_of own.machine.code) so_far
  stands_own =
      subst (λ (micro : Microprogram). Stands (state_of own.machine) micro so_far)
      (sym (program net is p own old_row row there old_there runs_now row_is same)) stands_now

  fed_more : own.ran < length (fed (parts_of net) is.puts p)
  fed_more = more_fed net is p own old_row row there old_there runs_now row_is same

  some_cycles : 0 < (program_of (parts_of net) p).period
  some_cycles =
      let below = cycle net is p own old_row row there old_there runs_now row_is same in
      omega (arith, below, micro_period net is p own old_row row there old_there runs_now row_is same)

  at_sample : IsAtSample own.machine
  at_sample =
      let count =
      length-so_far (program_of (parts_of net) p).period (fed (parts_of net) is.puts p) own.ran own.cycle row fed_more
      row_is in
      let here = is_at_sample own.machine.cycle (program_of (parts_of net) p).period own.ran
      (length (parts_of net).stream) own.cycle (stands_now.cycle ∙ count) first some_cycles
      (more net is p own old_row row there old_there runs_now row_is same) is.solved.samples in
      subst (λ (micro : Microprogram).
      (own.machine.cycle % micro.period ≡ 0) × (own.machine.cycle < 2 ^ 48 * micro.period) → IsAtSample own.machine)
      (program net is p own old_row row there old_there runs_now row_is same)
      (λ both. record { whole = both.0; young = both.1 }) here

  clear_sample : (conflict : Conflict) → MeetsConflictInSample own.machine row conflict → ⊥
  clear_sample conflict meets =
      let met = meets so_far stands_own in
      no_conflict (program_of (parts_of net) p) (fed (parts_of net) is.puts p) (get_or is.puts p [])
      (is.solved.solution.runs p (image_inside net is p own old_row row there old_there runs_now row_is same)) own.ran
      own.cycle row fed_more row_is first conflict
      (subst (λ (micro : Microprogram). IsFirstOfSample micro so_far row conflict)
      (program net is p own old_row row there old_there runs_now row_is same) met)

  pub can_sample : CanRunSample own row
  can_sample =
      let few = small net is p own old_row row there old_there runs_now row_is same in
      record {
        words = row_count net is p own old_row row there old_there runs_now row_is same;
        operands = row_words net is p own old_row row there old_there runs_now row_is same;
        at = at_sample;
        clear = clear_sample;
        taken = few.0;
        ran = few.1;
        width = width net is p own old_row row there old_there runs_now row_is same;
        room = (can_run net is p own old_row row there old_there runs_now row_is same).1;
      }

  -- after the sample
  module _ (new : Processor) (ran : RanSample row own new) where
    abbrev turns : List ℕ
    turns = replicate (period_of (shape_of (parts_of net)) p) p

    some_turns : 0 < period_of (shape_of (parts_of net)) p
    some_turns =
        let below = cycle net is p own old_row row there old_there runs_now row_is same in
        omega (arith, below, period net is p own old_row row there old_there runs_now row_is same)

    point_now : point_of (points_of net) p ≡ point_at own
    point_now = point net is p own old_row row there old_there runs_now row_is same

    point_new : point_at new ≡ record { taken = own.taken + 1; ran = own.ran + 1; cycle = 0 }
    point_new =
        ran.point
        ∙ ap (λ (n : ℕ). let x : Point = record { taken = own.taken + 1; ran = own.ran + 1; cycle = n } in x) first

    points_inside : p < length (points_of net)
    points_inside =
        let here = inside net is p own old_row row there old_there runs_now row_is same in
        omega (arith, here, length-map net.processors point_at)

    points_next : points_of (with_processor net p new row) ≡ after_turns (shape_of (parts_of net)) (points_of net) turns
    points_next =
        map-set point_at net.processors p new
        ∙ ap (λ (x : Point). slice_set (points_of net) p x) point_new
        ∙ sym (turns_of_sample (shape_of (parts_of net)) p (points_of net) (point_at own) points_inside point_now first
        runs_now (period_of (shape_of (parts_of net)) p) refl some_turns)

    turns_within : (k d : ℕ) → k < length turns → get_or turns k d < length (shape_of (parts_of net)).feeds
    turns_within =
        all_same_number (λ q. q < length (shape_of (parts_of net)).feeds) (period_of (shape_of (parts_of net)) p) p
        (feed_inside net is p own old_row row there old_there runs_now row_is same)

    is_ran : new.ran ≡ own.ran + 1
    is_ran = ap (λ (x : Point). x.ran) point_new

    is_cycle : new.cycle ≡ 0
    is_cycle = ap (λ (x : Point). x.cycle) point_new

    whole : so_far ++ sample_rows (program_of (parts_of net) p) row
        ≡ spread (program_of (parts_of net) p).period (take (own.ran + 1) (fed (parts_of net) is.puts p))
        ++ replicate 0 row
    whole =
        sample_ends (program_of (parts_of net) p).period (fed (parts_of net) is.puts p) own.ran own.cycle row fed_more
        row_is first

    stands_next :
        Stands (state_of new.machine) (program_of (parts_of net) p)
        (so_far ++ sample_rows (program_of (parts_of net) p) row)
    stands_next =
        subst (λ (micro : Microprogram). Stands (state_of new.machine) micro (so_far ++ sample_rows micro row))
        (program net is p own old_row row there old_there runs_now row_is same) (ran.machine so_far stands_own)

    put_is : row_in new.put (own.ran % own.places) ≡ get_or (get_or is.puts p []) own.ran []
    put_is =
        let all : so_far ++ sample_rows (program_of (parts_of net) p) row
        ≡ spread (program_of (parts_of net) p).period (take (own.ran + 1) (fed (parts_of net) is.puts p)) =
        whole ∙ append-nil _ in
        let count : length so_far + (program_of (parts_of net) p).period
        ≡ length (spread (program_of (parts_of net) p).period (take (own.ran + 1) (fed (parts_of net) is.puts p))) =
        ap (λ (n : ℕ). length so_far + n) (sym (length-replicate (program_of (parts_of net) p).period row))
        ∙ sym (length-append so_far (replicate (program_of (parts_of net) p).period row))
        ∙ ap (λ (l : Rows). length l) all in
        let latched : row_in new.put (own.ran % own.places)
        ≡ latches (program_of (parts_of net) p) (so_far ++ sample_rows (program_of (parts_of net) p) row)
        (length so_far + (program_of (parts_of net) p).period) =
        subst (λ (micro : Microprogram). row_in new.put (own.ran % own.places)
        ≡ latches micro (so_far ++ sample_rows micro row) (length so_far + micro.period))
        (program net is p own old_row row there old_there runs_now row_is same) (ran.row_is so_far stands_own) in
        row_put (program_of (parts_of net) p) (fed (parts_of net) is.puts p) (get_or is.puts p [])
        (is.solved.solution.runs p (image_inside net is p own old_row row there old_there runs_now row_is same)) own.ran
        0
        row fed_more row_is some_cycles (row_in new.put (own.ran % own.places))
        (latched
        ∙ ap (λ (z : Rows).
        latches (program_of (parts_of net) p) z (length so_far + (program_of (parts_of net) p).period))
        all
        ∙ ap (λ (n : ℕ). latches (program_of (parts_of net) p)
        (spread (program_of (parts_of net) p).period (take (own.ran + 1) (fed (parts_of net) is.puts p))) n) count)

    at_next : IsProcessorAt (parts_of net) is.puts p new row
    at_next = record {
      stands = rw (is_ran, is_cycle) (rw whole at stands_next);
      under_way = λ later. absurd (omega (arith, later, is_cycle));
    }

    new_in : IsProcessorIn (parts_of net) is.puts p new row
    new_in =
        let old = at net is p own old_row row there old_there runs_now row_is same in
        record {
          code = ran.code ∙ old.code;
          period = ran.period ∙ old.period;
          width = ran.put.width ∙ old.width;
          words = (read net is p own old_row row there old_there runs_now row_is same).count
              ∙ sym
              (is.solved.feeds p (image_inside net is p own old_row row there old_there runs_now row_is same))
              ∙ ap (λ (feed : List Wire). length feed) (feed_is net is p own there ∙ sym ran.feed);
          at = at_next;
          keeps = keeps_more is.puts p own new old.keeps ran.put ran.places is_ran put_is;
          queue = λ later. omega (arith, old.queue later, ran.places);
          last = λ ends. omega (arith, old.last ends, ran.places);
        }

    pub state_sampled : IsState (with_processor net p new row)
    state_sampled =
        state_kept net p own new row there ran.code ran.feed is
        (marking_kept net p own new row there ran.code ran.feed
        (after_turns (shape_of (parts_of net)) (points_of net) turns)
        points_next
        (turns_keep (shape_of (parts_of net)) is.solved.shape (points_of net) turns is.marking turns_within)) new_in

    turns_run : TookTurns net (with_processor net p new row) turns true
    turns_run = record {
      parts = parts_kept net p own new row there ran.code ran.feed;
      within = turns_within;
      points = points_next;
      some = sample_runs (shape_of (parts_of net)) p (points_of net) (point_at own) points_inside point_now first
          runs_now (period_of (shape_of (parts_of net)) p) some_turns;
    }

    pub turns_taken :
        TookTurns net (with_processor net p new row) (sample_turns (shape_of (parts_of net)) (points_of net) p) true
    turns_taken =
        subst (λ (ps : List ℕ). TookTurns net (with_processor net p new row) ps true)
        (sym (turns_first (shape_of (parts_of net)) (points_of net) p
        (ap (λ (x : Point). x.cycle) point_now ∙ first)))
        turns_run

-- after the second step
abbrev pub SamplesOne : NetState → List (List ℤ) → ℕ → List Processor → Type 0
SamplesOne net rows p processors =
    (own : Processor) (row : List ℤ) → slice_get net.processors p ≡ Some own
    → slice_get rows p ≡ Some row
    → (new : Processor) × RanSample row own new × (processors ≡ slice_set net.processors p new)

-- after both
pub record IsSampled (old new : NetState) (p : ℕ) : Type 0 where
  pub took : TookTurns old new (sample_turns (shape_of (parts_of old)) (points_of old) p) true
  pub state : IsState new

module _ (net : NetState) (is : IsState net) (p : ℕ) (inside_now : p < length net.processors)
    (runs_now : lacks (shape_of (parts_of net)) (points_of net) p ≡ false)
    (first : (own : Processor) → slice_get net.processors p ≡ Some own → own.cycle ≡ 0) (rows : List (List ℤ))
    (begun : Begins net rows p) where
  pub ready_sample : (own : Processor) (row : List ℤ)
      → slice_get net.processors p ≡ Some own
      → slice_get rows p ≡ Some row
      → CanRunSample own row
  ready_sample own row there here =
      let (old, old_there) = some_at net.rows p (omega (arith, inside_now, is.rows)) in
      let (now, rows_are, row_is, same_row) =
      row_now net is p inside_now runs_now rows begun own old there old_there in
      subst (CanRunSample own) (some_once (row_there net is p inside_now runs_now rows begun now rows_are) here)
      (can_sample net is p own old now there old_there runs_now row_is (first own there))

  pub sampled : (processors : List Processor)
      → SamplesOne net rows p processors
      → IsSampled net (record { processors = processors; rows = rows; stream = net.stream; capacity = net.capacity }) p
  sampled processors one =
      let (own, there) = some_at net.processors p inside_now in
      let (old, old_there) = some_at net.rows p (omega (arith, inside_now, is.rows)) in
      let (row, rows_are, row_is, same_row) =
      row_now net is p inside_now runs_now rows begun own old there old_there in
      let (new, ran, processors_are) =
      one own row there (row_there net is p inside_now runs_now rows begun row rows_are) in
      subst (λ (ps : List Processor). IsSampled net
      (record { processors = ps; rows = rows; stream = net.stream; capacity = net.capacity }) p) (sym processors_are)
      (subst (λ (rs : List (List ℤ)). IsSampled net
      (record {
        processors = slice_set net.processors p new;
        rows = rs;
        stream = net.stream;
        capacity = net.capacity;
      })
      p)
      (sym rows_are)
      (record {
        took = turns_taken net is p own old row there old_there runs_now row_is (first own there) new ran;
        state = state_sampled net is p own old row there old_there runs_now row_is (first own there) new ran;
      }))

-- the processor at a place, by what was read there
pub first_by : (list : List Processor) (number : ℕ) (read : Processor)
    → number < length list
    → read ≡ get_or list number read
    → (get_or list number read).cycle ≤ 0
    → (own : Processor)
    → slice_get list number ≡ Some own
    → own.cycle ≡ 0
first_by list number read inside_now is first own there =
    let is_own : read ≡ own = some_once (slice_get_read list (length list) number read refl inside_now is) there in
    omega (arith, first, ap (λ (o : Processor). o.cycle) (sym is ∙ is_own))

-- a processor at the first cycle of a sample, by the list of processors
pub first_now : (net : NetState) (list : List Processor) (number : ℕ)
    → list ≡ net.processors
    → ((own : Processor) → slice_get list number ≡ Some own → own.cycle ≡ 0)
    → (own : Processor)
    → slice_get net.processors number ≡ Some own
    → own.cycle ≡ 0
first_now net list number list_is first own there =
    first own (subst (λ (l : List Processor). slice_get l number ≡ Some own) (sym list_is) there)

-- the sample, by what its calls say
pub sample_done : (net : NetState) (is : IsState net) (number : ℕ)
    → number < length net.processors
    → (list : List Processor)
    → list ≡ net.processors
    → (samples : ℕ)
    → samples ≡ count_in net.stream
    → (says : Bool)
    → says ≡ lacks (shape_by list net.capacity samples) (points_by list) number
    → says ≡ false
    → ((own : Processor) → slice_get list number ≡ Some own → own.cycle ≡ 0)
    → (rows : List (List ℤ))
    → BeginsBy list net rows number
    → (slice : List (List ℤ))
    → slice ≡ rows
    → (processors : List Processor)
    → SamplesOne net slice number processors
    → IsSampled net (record { processors = processors; rows = rows; stream = net.stream; capacity = net.capacity })
    number
sample_done net is number inside_now list list_is samples samples_is says says_is none first rows begun slice slice_is
    processors one =
    sampled net is number inside_now (lacks_says net list samples number says list_is samples_is says_is ∙ none)
    (first_now net list number list_is first) rows
    (subst (λ (l : List Processor). BeginsBy l net rows number) list_is begun) processors
    (subst (λ (rs : List (List ℤ)). SamplesOne net rs number processors) slice_is one)

-- where a processor is, by what was read
pub cycle_read : (net : NetState) (list : List Processor) (number : ℕ) (read : Processor)
    → list ≡ net.processors
    → number < length net.processors
    → (point_of (points_of net) number).cycle ≡ (get_or list number read).cycle
cycle_read net list number read list_is inside_now =
    ap (λ (x : Point). x.cycle) (get_or-map point_at net.processors number read start inside_now)
    ∙ ap (λ (l : List Processor). (get_or l number read).cycle) (sym list_is)
