-- A turn keeps a net's state: the processor runs a cycle, and nothing else changes.
use Rattle.std.proofs.Common.{◌≡◌, ℕ, ◌+◌, ◌*◌, ◌%◌, ◌<◌, ◌≤◌, ◌^◌, false, List, [], ◌∷◌, ◌++◌, length, get_or}
use Rattle.std.proofs.Common.{replicate}
use Rattle.std.proofs.Common.{take, Some, ℤ, refl, ap, ap₂, sym, ◌∙◌, subst, arith, inl, inr}
use Rattle.std.specs.Prelude.{slice_get, slice_set}
use Rattle.std.specs.List.{All}
use Rattle.std.proofs.lemmas.List.{map-set, get_or-map, append-nil}
use Rattle.std.proofs.lemmas.Bool.{cases_lt}
use Rattle.std.proofs.Common.{mul-le-mul_left}
use Rattle.lists.specs.Rows.{Rows}
use Rattle.lists.proofs.Numbers.{same_or_not}
use Rattle.micro_image.specs.declared.conflict.Conflict.{Conflict}
use Rattle.micro_image.specs.Fields.{Microprogram}
use Rattle.micro_image.specs.Run.{Stands, spread, latches}
use Rattle.cycle_sim.specs.Machine.{IsOperand, state_of, MeetsConflict}
use Rattle.cycle_sim.specs.Microcode.{micro_of, inputs_of}
use Rattle.net_core.specs.declared.types.Wire.{Wire}
use Rattle.net_turns.specs.Turns.{Point, point_of, period_of, next, lacks, after_turn}
use Rattle.net_turns.proofs.Kept.{Runs, runs, next-ends, next-goes, turn_keeps}
use Rattle.proc_net.specs.declared.processor.Processor.{Processor}
use Rattle.net_solution.specs.RowLists.{row_in}
use Rattle.net_solution.specs.Solutions.{no_image, image_of, program_of, shape_of, fed}
use Rattle.proc_net.specs.Nets.{NetState, parts_of, points_of, IsProcessorAt}
use Rattle.proc_net.specs.Private.Reading.{point_at, HasRoom}
use Rattle.proc_net.specs.Private.Runs.{Advanced, RanCycle}
use Rattle.net_solution.specs.Private.Solved.{IsReadRow}
use Rattle.proc_net.specs.Private.States.{Keeps, IsProcessorIn, IsState}
use Rattle.net_solution.proofs.Cycles.{length-so_far, so_far-goes, so_far-ends, no_conflict, row_put}
use Rattle.proc_net.proofs.Changing.{parts_kept, state_kept, with_processor, marking_kept}
use Rattle.proc_net.proofs.Keeping.{keeps_on, keeps_more}
use Rattle.proc_net.proofs.Reading.{feed_is}
use Rattle.net_solution.proofs.Solving.{length-fed}
use Rattle.proc_net.proofs.Standing.{at_there, images_length, feeds_length, point_there}

module _ (net : NetState) (is : IsState net) (p : ℕ) (own : Processor) (old_row row : List ℤ)
    (there : slice_get net.processors p ≡ Some own) (old_there : slice_get net.rows p ≡ Some old_row)
    (runs_now : lacks (shape_of (parts_of net)) (points_of net) p ≡ false)
    (row_is : row ≡ get_or (fed (parts_of net) is.puts p) own.ran []) (same_row : 0 < own.cycle → row ≡ old_row) where
  pub inside : p < length net.processors
  inside = (at_there net.processors p own there).0

  pub image_inside : p < length (parts_of net).images
  image_inside = omega (arith, inside, images_length net is)

  pub feed_inside : p < length (parts_of net).feeds
  feed_inside = omega (arith, inside, feeds_length net is)

  pub at : IsProcessorIn (parts_of net) is.puts p own old_row
  at = is.each p own old_row there old_there

  has : Runs (shape_of (parts_of net)) (points_of net) p
  has = runs (shape_of (parts_of net)) (points_of net) is.marking p feed_inside runs_now

  pub point : point_of (points_of net) p ≡ point_at own
  point = point_there net is p own there

  pub more : own.ran < length (parts_of net).stream
  more = omega (arith, has.input, ap (λ (x : Point). x.ran) point)

  pub more_fed : own.ran < length (fed (parts_of net) is.puts p)
  more_fed = omega (arith, more, length-fed (parts_of net) is.puts p)

  pub period : period_of (shape_of (parts_of net)) p ≡ own.period
  period = get_or-map (λ image. image.period) (parts_of net).images p no_image 1 image_inside ∙ sym at.period

  pub cycle : own.cycle < own.period
  cycle =
      omega (arith, (is.marking.each p feed_inside).cycle, period, ap (λ (x : Point). x.cycle) point)

  pub program : micro_of own.machine.code ≡ program_of (parts_of net) p
  program = ap micro_of at.code

  -- the row is one that the machine can take
  pub read : IsReadRow (image_of (parts_of net) p) row
  read = rw row_is (is.solved.reads p image_inside own.ran [] more_fed)

  pub row_count : length row ≡ length (inputs_of own.machine.code)
  row_count = read.count ∙ ap (λ code. length (inputs_of code)) (sym at.code)

  pub row_words : All IsOperand row
  row_words = read.words

  pub micro_period : (program_of (parts_of net) p).period ≡ own.period
  micro_period = sym at.period

  same_cycles : replicate own.cycle old_row ≡ replicate own.cycle row
  same_cycles =
      elim (cases_lt 0 own.cycle) [
        | inl later ↦ ap (λ (r : List ℤ). replicate own.cycle r) (sym (same_row later))
        | inr first ↦ (let none : own.cycle ≡ 0 = omega (arith, first) in rw none refl)
      ]

  -- where the machine stands, by the row
  pub stands :
      Stands (state_of own.machine) (program_of (parts_of net) p)
      (spread (program_of (parts_of net) p).period (take own.ran (fed (parts_of net) is.puts p))
      ++ replicate own.cycle row)
  stands =
      subst (λ (cycles : Rows). Stands (state_of own.machine) (program_of (parts_of net) p)
      (spread (program_of (parts_of net) p).period (take own.ran (fed (parts_of net) is.puts p)) ++ cycles)) same_cycles
      at.at.stands

  pub young : own.machine.cycle < 2 ^ 60
  young =
      let count =
      length-so_far (program_of (parts_of net) p).period (fed (parts_of net) is.puts p) own.ran own.cycle row
      more_fed row_is in
      let period_most : (program_of (parts_of net) p).period ≤ 4096 = (is.solved.valid p image_inside).period.1 in
      let most : own.ran * (program_of (parts_of net) p).period ≤ own.ran * 4096 =
      mul-le-mul_left own.ran period_most in
      omega (arith, stands.cycle, count, most, more, is.solved.samples, cycle, micro_period, period_most)

  pub clear : (conflict : Conflict) → MeetsConflict own.machine row conflict → ⊥
  clear conflict meets =
      let met = meets (spread (program_of (parts_of net) p).period (take own.ran (fed (parts_of net) is.puts p))
      ++ replicate own.cycle row) (rw program stands) in
      no_conflict (program_of (parts_of net) p) (fed (parts_of net) is.puts p) (get_or is.puts p [])
      (is.solved.solution.runs p image_inside) own.ran own.cycle row more_fed row_is
      (omega (arith, cycle, micro_period))
      conflict (rw (← program) met.0) met.1

  pub small : (own.taken < 2 ^ 60) × (own.ran < 2 ^ 60)
  small =
      let x = is.marking.each p feed_inside in
      let taken : (point_of (points_of net) p).taken ≡ own.taken = ap (λ (x : Point). x.taken) point in
      let ran : (point_of (points_of net) p).ran ≡ own.ran = ap (λ (x : Point). x.ran) point in
      let taken_le : (point_of (points_of net) p).taken ≤ (point_of (points_of net) p).ran + 1 =
      elim (cases_lt 0 (point_of (points_of net) p).cycle) [
        | inl later ↦ omega (arith, x.under_way later)
        | inr first ↦ omega (arith, x.between (omega (arith, first)))
      ] in
      (omega (arith, taken, ran, taken_le, more, is.solved.samples), omega (arith, more, is.solved.samples))

  pub width : own.put.width ≡ (micro_of own.machine.code).outs
  width = at.width ∙ ap (λ micro. micro.outs) (sym program)

  pub can_run : (own.cycle < own.period) × HasRoom own.put own.places
  can_run = (cycle, at.keeps.room)

  -- after the cycle
  module _ (new : Processor) (ran : RanCycle row own new) where
    advanced : Advanced (record own { machine = new.machine }) new
    advanced = ran.advanced

    pub parts_same : parts_of (with_processor net p new row) ≡ parts_of net
    parts_same = parts_kept net p own new row there ran.code advanced.feed

    pub points_next : points_of (with_processor net p new row) ≡ after_turn (shape_of (parts_of net)) (points_of net) p
    unfolding after_turn
    points_next =
        map-set point_at net.processors p new
        ∙ ap (λ (x : Point). slice_set (points_of net) p x)
        (advanced.point ∙ ap₂ next (sym period) (sym point))
        ∙ rw runs_now refl

    -- the machine after the cycle
    stands_next :
        Stands (state_of new.machine) (program_of (parts_of net) p)
        ((spread (program_of (parts_of net) p).period (take own.ran (fed (parts_of net) is.puts p))
        ++ replicate own.cycle row) ++ row ∷ [])
    stands_next =
        subst (λ (micro : Microprogram). Stands (state_of new.machine) micro
        ((spread (program_of (parts_of net) p).period (take own.ran (fed (parts_of net) is.puts p))
        ++ replicate own.cycle row) ++ row ∷ [])) program
        (ran.machine _ (subst (λ (micro : Microprogram). Stands (state_of own.machine) micro
        (spread (program_of (parts_of net) p).period (take own.ran (fed (parts_of net) is.puts p))
        ++ replicate own.cycle row)) (sym program) stands))

    ran_next : new.ran ≡ (next own.period (point_at own)).ran
    ran_next = ap (λ (x : Point). x.ran) advanced.point

    cycle_next : new.cycle ≡ (next own.period (point_at own)).cycle
    cycle_next = ap (λ (x : Point). x.cycle) advanced.point

    stands_at : (r c : ℕ)
        → new.ran ≡ r
        → new.cycle ≡ c
        → (spread (program_of (parts_of net) p).period (take own.ran (fed (parts_of net) is.puts p))
        ++ replicate own.cycle row) ++ row ∷ []
        ≡ spread (program_of (parts_of net) p).period (take r (fed (parts_of net) is.puts p)) ++ replicate c row
        → Stands (state_of new.machine) (program_of (parts_of net) p)
        (spread (program_of (parts_of net) p).period (take new.ran (fed (parts_of net) is.puts p))
        ++ replicate new.cycle row)
    stands_at r c is_r is_c same = rw (is_r, is_c) (rw same at stands_next)

    -- what is kept of the rows that it puts, and where it is
    record Next : Type 0 where
      at_next : IsProcessorAt (parts_of net) is.puts p new row
      keeps_next : Keeps is.puts p new

    goes : (own.cycle + 1 ≡ own.period → ⊥) → Next
    goes on =
        let point_is = next-goes own.period (point_at own) on in
        let is_ran : new.ran ≡ own.ran = ran_next ∙ point_is.0 in
        let is_cycle : new.cycle ≡ own.cycle + 1 = cycle_next ∙ point_is.1 in
        record {
          at_next = record {
            stands = stands_at own.ran (own.cycle + 1) is_ran is_cycle
                (so_far-goes (program_of (parts_of net) p).period (fed (parts_of net) is.puts p) own.ran own.cycle row);
            under_way = λ later. row_is ∙ ap (λ (n : ℕ). get_or (fed (parts_of net) is.puts p) n []) (sym is_ran);
          };
          keeps_next = keeps_on is.puts p own new at.keeps advanced.put advanced.places is_ran (advanced.goes_on on);
        }

    ends : own.cycle + 1 ≡ own.period → Next
    ends last =
        let point_is = next-ends own.period (point_at own) last in
        let is_ran : new.ran ≡ own.ran + 1 = ran_next ∙ point_is.0 in
        let is_cycle : new.cycle ≡ 0 = cycle_next ∙ point_is.1 in
        let whole =
        so_far-ends (program_of (parts_of net) p).period (fed (parts_of net) is.puts p) own.ran own.cycle row
        row more_fed row_is (last ∙ at.period) in
        let all : (spread (program_of (parts_of net) p).period (take own.ran (fed (parts_of net) is.puts p))
        ++ replicate own.cycle row) ++ row ∷ []
        ≡ spread (program_of (parts_of net) p).period (take (own.ran + 1) (fed (parts_of net) is.puts p)) =
        whole ∙ append-nil _ in
        let program_next : micro_of new.machine.code ≡ program_of (parts_of net) p = ap micro_of ran.code ∙ program in
        let latched = advanced.ends last
        (spread (program_of (parts_of net) p).period (take (own.ran + 1) (fed (parts_of net) is.puts p)))
        (subst (λ (micro : Microprogram). Stands (state_of new.machine) micro
        (spread (program_of (parts_of net) p).period (take (own.ran + 1) (fed (parts_of net) is.puts p))))
        (sym program_next)
        (subst (λ (cycles : Rows). Stands (state_of new.machine) (program_of (parts_of net) p) cycles) all
        stands_next)) in
        let put_is = row_put (program_of (parts_of net) p) (fed (parts_of net) is.puts p) (get_or is.puts p [])
        (is.solved.solution.runs p image_inside) own.ran own.cycle row more_fed row_is
        (omega (arith, cycle, micro_period)) (row_in new.put (own.ran % own.places))
        (subst (λ (micro : Microprogram). row_in new.put (own.ran % own.places)
        ≡ latches micro
        (spread (program_of (parts_of net) p).period (take (own.ran + 1) (fed (parts_of net) is.puts p)))
        (length (spread (program_of (parts_of net) p).period (take (own.ran + 1) (fed (parts_of net) is.puts p)))))
        program_next latched) in
        record {
          at_next = record {
            stands = stands_at (own.ran + 1) 0 is_ran is_cycle whole;
            under_way = λ later. absurd (omega (arith, later, is_cycle));
          };
          keeps_next = keeps_more is.puts p own new at.keeps advanced.put advanced.places is_ran put_is;
        }

    outcome : Next
    outcome = elim (same_or_not (own.cycle + 1) own.period) [ inl last ↦ ends last | inr on ↦ goes on ]

    new_in : IsProcessorIn (parts_of net) is.puts p new row
    new_in = record {
      code = ran.code ∙ at.code;
      period = advanced.period ∙ at.period;
      width = advanced.put.width ∙ at.width;
      words = read.count ∙ sym (is.solved.feeds p image_inside) ∙ ap (λ (feed : List Wire). length feed)
          (feed_is net is p own there ∙ sym advanced.feed);
      at = outcome.at_next;
      keeps = outcome.keeps_next;
      queue = λ later. omega (arith, at.queue later, advanced.places);
      last = λ ends. omega (arith, at.last ends, advanced.places);
    }

    pub state_next : IsState (with_processor net p new row)
    state_next =
        state_kept net p own new row there ran.code advanced.feed is
        (marking_kept net p own new row there ran.code advanced.feed
        (after_turn (shape_of (parts_of net)) (points_of net) p)
        points_next
        (turn_keeps (shape_of (parts_of net)) is.solved.shape (points_of net) p is.marking feed_inside)) new_in
