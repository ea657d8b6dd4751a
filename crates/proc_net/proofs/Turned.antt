-- A whole turn: the processor takes its row, where it is at the first cycle of a sample, and runs a cycle.
use Rattle.std.proofs.Common.{◌≡◌, ℕ, ◌<◌, Bool, false, List, [], length, get_or, map, Some, ℤ, ap, sym, ◌∙◌, subst}
use Rattle.std.proofs.Common.{arith, inl, inr}
use Rattle.std.specs.Prelude.{slice_get, slice_set}
use Rattle.std.specs.List.{All}
use Rattle.std.proofs.lemmas.Bool.{cases_lt}
use Rattle.std.proofs.lemmas.List.{length-set}
use Rattle.lists.proofs.Places.{at_set_same, some_at, some_once}
use Rattle.net_turns.specs.Turns.{lacks, after_turn}
use Rattle.net_turns.proofs.Kept.{Runs, runs}
use Rattle.proc_net.specs.declared.processor.Processor.{Processor}
use Rattle.net_solution.specs.Solutions.{shape_of, fed}
use Rattle.proc_net.specs.Nets.{NetState, parts_of, points_of}
use Rattle.proc_net.specs.Private.Reading.{shape_by, points_by, word_by, IsReadable}
use Rattle.net_solution.specs.RowLists.{count_in}
use Rattle.proc_net.specs.Private.Runs.{RanCycle, CanRun}
use Rattle.proc_net.specs.Private.States.{IsState}
use Rattle.proc_net.proofs.Reading.{count_is, row_taken, all_readable}
use Rattle.proc_net.proofs.Standing.{feeds_length}
use Rattle.proc_net.proofs.Turning.{row_count, row_words, young, clear, small, width, can_run, parts_same, points_next}
use Rattle.proc_net.proofs.Turning.{state_next}

-- what a turn lacks does not depend on periods
pub lacks_same : (net : NetState) (p : ℕ)
    → lacks (shape_by net.processors net.capacity (count_in net.stream)) (points_by net.processors) p
    ≡ lacks (shape_of (parts_of net)) (points_of net) p
unfolding lacks
lacks_same net p =
    ap (λ (n : ℕ). lacks (shape_by net.processors net.capacity n) (points_by net.processors) p)
    (sym (count_is net.stream))

-- what the test says is what the turn lacks
pub lacks_says : (net : NetState) (list : List Processor) (samples number : ℕ) (says : Bool)
    → list ≡ net.processors
    → samples ≡ count_in net.stream
    → says ≡ lacks (shape_by list net.capacity samples) (points_by list) number
    → lacks (shape_of (parts_of net)) (points_of net) number ≡ says
lacks_says net list samples number says list_is samples_is is =
    sym
    (is
    ∙ ap (λ (l : List Processor). lacks (shape_by l net.capacity samples) (points_by l) number) list_is
    ∙ ap (λ (n : ℕ). lacks (shape_by net.processors net.capacity n) (points_by net.processors) number) samples_is
    ∙ lacks_same net number)

pub lacks_at : (net view : NetState) (number p : ℕ) (says : Bool)
    → net ≡ view
    → number ≡ p
    → lacks (shape_of (parts_of net)) (points_of net) number ≡ says
    → lacks (shape_of (parts_of view)) (points_of view) p ≡ says
lacks_at net view number p says same at is =
    subst (λ (n : NetState). lacks (shape_of (parts_of n)) (points_of n) p ≡ says) same
    (subst (λ (q : ℕ). lacks (shape_of (parts_of net)) (points_of net) q ≡ says) at is)

-- after the first step
abbrev pub BeginsBy : List Processor → NetState → List (List ℤ) → ℕ → Type 0
BeginsBy list net rows p =
    (own : Processor) (row : List ℤ) → slice_get list p ≡ Some own
    → slice_get net.rows p ≡ Some row
    → (new : List ℤ) × (rows ≡ slice_set net.rows p new)
    × (own.cycle ≡ 0 → new ≡ map (word_by list net.stream own.ran) own.feed)
    × (0 < own.cycle → new ≡ row)

abbrev pub Begins : NetState → List (List ℤ) → ℕ → Type 0
Begins net rows p = BeginsBy net.processors net rows p

-- after the second
abbrev pub RunsOne : NetState → List (List ℤ) → ℕ → List Processor → Type 0
RunsOne net rows p processors =
    (own : Processor) (row : List ℤ) → slice_get net.processors p ≡ Some own
    → slice_get rows p ≡ Some row
    → (new : Processor) × RanCycle row own new × (processors ≡ slice_set net.processors p new)

-- after both
pub record IsTurned (old new : NetState) (p : ℕ) : Type 0 where
  pub parts : parts_of new ≡ parts_of old
  pub points : points_of new ≡ after_turn (shape_of (parts_of old)) (points_of old) p
  pub state : IsState new

module _ (net : NetState) (is : IsState net) (p : ℕ) (inside : p < length net.processors)
    (runs_now : lacks (shape_of (parts_of net)) (points_of net) p ≡ false) where
  has : Runs (shape_of (parts_of net)) (points_of net) p
  has =
      runs (shape_of (parts_of net)) (points_of net) is.marking p (omega (arith, inside, feeds_length net is)) runs_now

  -- the words that it takes are there
  pub takes : (own : Processor)
      → slice_get net.processors p ≡ Some own
      → own.cycle ≡ 0
      → All (IsReadable net.processors net.stream own.ran) own.feed
  takes own there first = all_readable net is p own there has first

  module _ (rows : List (List ℤ)) (begun : Begins net rows p) where
    pub row_now : (own : Processor) (old : List ℤ)
        → slice_get net.processors p ≡ Some own
        → slice_get net.rows p ≡ Some old
        → (row : List ℤ)
        × (rows ≡ slice_set net.rows p row)
        × (row ≡ get_or (fed (parts_of net) is.puts p) own.ran [])
        × (0 < own.cycle → row ≡ old)
    row_now own old there old_there =
        let (row, rows_are, first, later) = begun own old there old_there in (
          row,
          rows_are,
          elim (cases_lt 0 own.cycle) [
            | inl after ↦ later after ∙ ((is.each p own old there old_there).at).under_way after
            | inr before ↦
                let none : own.cycle ≡ 0 = omega (arith, before) in first none ∙ row_taken net is p own there has none
          ],
          later,
        )

    pub row_there : (row : List ℤ) → rows ≡ slice_set net.rows p row → slice_get rows p ≡ Some row
    row_there row rows_are =
        ap (λ (rs : List (List ℤ)). slice_get rs p) rows_are
        ∙ at_set_same net.rows p row (omega (arith, inside, is.rows))

    can : (own : Processor) (old row : List ℤ)
        → slice_get net.processors p ≡ Some own
        → slice_get net.rows p ≡ Some old
        → row ≡ get_or (fed (parts_of net) is.puts p) own.ran []
        → (0 < own.cycle → row ≡ old)
        → CanRun own row
    can own old row there old_there row_is same =
        let few = small net is p own old row there old_there runs_now row_is same in
        let runs_it = can_run net is p own old row there old_there runs_now row_is same in
        record {
          words = row_count net is p own old row there old_there runs_now row_is same;
          operands = row_words net is p own old row there old_there runs_now row_is same;
          young = young net is p own old row there old_there runs_now row_is same;
          clear = clear net is p own old row there old_there runs_now row_is same;
          cycle = runs_it.0;
          taken = few.0;
          ran = few.1;
          width = width net is p own old row there old_there runs_now row_is same;
          room = runs_it.1;
        }

    -- it meets no conflict
    pub ready : (own : Processor) (row : List ℤ)
        → slice_get net.processors p ≡ Some own
        → slice_get rows p ≡ Some row
        → CanRun own row
    ready own row there here =
        let (old, old_there) = some_at net.rows p (omega (arith, inside, is.rows)) in
        let (now, rows_are, row_is, same) = row_now own old there old_there in
        subst (CanRun own) (some_once (row_there now rows_are) here) (can own old now there old_there row_is same)

    pub turned : (processors : List Processor)
        → RunsOne net rows p processors
        → IsTurned net (record { processors = processors; rows = rows; stream = net.stream; capacity = net.capacity }) p
    turned processors one =
        let (own, there) = some_at net.processors p inside in
        let (old, old_there) = some_at net.rows p (omega (arith, inside, is.rows)) in
        let (row, rows_are, row_is, same) = row_now own old there old_there in
        let (new, ran, processors_are) = one own row there (row_there row rows_are) in
        subst (λ (ps : List Processor). IsTurned net
        (record { processors = ps; rows = rows; stream = net.stream; capacity = net.capacity }) p) (sym processors_are)
        (subst (λ (rs : List (List ℤ)). IsTurned net
        (record {
          processors = slice_set net.processors p new;
          rows = rs;
          stream = net.stream;
          capacity = net.capacity;
        })
        p)
        (sym rows_are)
        (record {
          parts = parts_same net is p own old row there old_there runs_now row_is same new ran;
          points = points_next net is p own old row there old_there runs_now row_is same new ran;
          state = state_next net is p own old row there old_there runs_now row_is same new ran;
        }))

-- after the first step the processor has a row
pub row_inside : (net : NetState) (is : IsState net) (number : ℕ)
    → number < length net.processors
    → (list : List Processor)
    → list ≡ net.processors
    → (rows : List (List ℤ))
    → BeginsBy list net rows number
    → (slice : List (List ℤ))
    → slice ≡ rows
    → number < length slice
row_inside net is number inside list list_is rows begun slice slice_is =
    let (own, there) = some_at net.processors number inside in
    let (old, old_there) = some_at net.rows number (omega (arith, inside, is.rows)) in
    let (row, rows_are, first, later) = begun own old
    (subst (λ (l : List Processor). slice_get l number ≡ Some own) (sym list_is) there) old_there in
    let count : length slice ≡ length net.rows =
    ap (λ (rs : List (List ℤ)). length rs) (slice_is ∙ rows_are) ∙ length-set net.rows number row in
    omega (arith, inside, is.rows, count)

-- the turn, by what its calls say
pub turn_done : (net : NetState) (is : IsState net) (number : ℕ)
    → number < length net.processors
    → (list : List Processor)
    → list ≡ net.processors
    → (samples : ℕ)
    → samples ≡ count_in net.stream
    → (says : Bool)
    → says ≡ lacks (shape_by list net.capacity samples) (points_by list) number
    → says ≡ false
    → (rows : List (List ℤ))
    → BeginsBy list net rows number
    → (slice : List (List ℤ))
    → slice ≡ rows
    → (processors : List Processor)
    → RunsOne net slice number processors
    → IsTurned net (record { processors = processors; rows = rows; stream = net.stream; capacity = net.capacity })
    number
turn_done net is number inside list list_is samples samples_is says says_is none rows begun slice slice_is processors
    one =
    turned net is number inside (lacks_says net list samples number says list_is samples_is says_is ∙ none) rows
    (subst (λ (l : List Processor). BeginsBy l net rows number) list_is begun) processors
    (subst (λ (rs : List (List ℤ)). RunsOne net rs number processors) slice_is one)
