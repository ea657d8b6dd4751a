-- What is read of a net: how many of its rows stand, each of them, and whether all samples are run.
use Rattle.std.proofs.Common.{◌≡◌, ℕ, ◌+◌, ◌*◌, ◌%◌, ◌<◌, ◌≤◌, ◌==◌, true, List, [], length, get_or, Some, ap, sym, ◌∙◌}
use Rattle.std.proofs.Common.{arith}
use Rattle.std.proofs.Common.{mul-le-mul_right}
use Rattle.std.specs.Prelude.{slice_get}
use Rattle.std.specs.List.{list_all}
use Rattle.std.proofs.lemmas.List.Folds.{list_all-map}
use Rattle.std.proofs.lemmas.Nat.{mod_below}
use Rattle.lists.specs.Rows.{Rows}
use Rattle.net_turns.specs.Turns.{Point, point_of, is_finished}
use Rattle.net_turns.proofs.Moves.{all_ran}
use Rattle.proc_net.specs.declared.processor.Processor.{Processor}
use Rattle.net_solution.specs.RowLists.{row_in, rows_of, count_in}
use Rattle.net_solution.specs.Solutions.{shape_of, IsNetSolution}
use Rattle.proc_net.specs.Nets.{NetState, parts_of, points_of, last_of, count_of}
use Rattle.proc_net.specs.Private.Reading.{point_at, HasRoom}
use Rattle.proc_net.specs.Private.States.{IsState}
use Rattle.proc_net.proofs.Reading.{count_is}
use Rattle.net_solution.proofs.Solving.{one_solution}
use Rattle.proc_net.proofs.Standing.{images_length, feeds_length, point_there, ran_most, processor_in}

pub finished_is : (net : NetState)
    → list_all (λ processor. processor.ran == count_in net.stream) net.processors
    ≡ is_finished (shape_of (parts_of net)) (points_of net)
finished_is net =
    ap (λ (n : ℕ). list_all (λ (processor : Processor). processor.ran == n) net.processors) (sym (count_is net.stream))
    ∙ sym (list_all-map (λ (point : Point). point.ran == length (rows_of net.stream)) point_at net.processors)

-- once each processor has run all samples, all the net's rows stand
pub all_stand : (net : NetState)
    → IsState net
    → is_finished (shape_of (parts_of net)) (points_of net) ≡ true
    → count_of net ≡ length (parts_of net).stream
all_stand net is done =
    all_ran (shape_of (parts_of net)) is.solved.shape (points_of net) is.marking done (last_of net)
    (omega (arith, is.some, feeds_length net is))

-- a place that is there
pub place_inside : (processor : Processor) (n : ℕ)
    → HasRoom processor.put processor.places
    → (n % processor.places + 1) * processor.put.width ≤ length processor.put.words
place_inside processor n room =
    let below : n % processor.places < processor.places = mod_below n processor.places room.some in
    let more : (n % processor.places + 1) * processor.put.width ≤ processor.places * processor.put.width =
    mul-le-mul_right processor.put.width (omega (arith, below)) in
    omega (arith, more, room.words)

module _ (net : NetState) (is : IsState net) (last : Processor)
    (there : slice_get net.processors (last_of net) ≡ Some last) where
  pub last_ran : last.ran ≡ (point_of (points_of net) (last_of net)).ran
  last_ran = sym (ap (λ (x : Point). x.ran) (point_there net is (last_of net) last there))

  pub last_room : HasRoom last.put last.places
  last_room = ((processor_in net is (last_of net) last there).1).keeps.room

  pub row_stands : (n : ℕ) (puts : List Rows)
      → n < last.ran
      → IsNetSolution (parts_of net) puts
      → row_in last.put (n % last.places) ≡ get_or (get_or puts (last_of net) []) n []
  row_stands n puts h solution =
      let (row, at) = processor_in net is (last_of net) last there in
      let places : length (parts_of net).stream ≤ last.places =
      at.last (omega (arith, is.some, images_length net is)) in
      let most : last.ran ≤ length (parts_of net).stream = ran_most net is (last_of net) last there in
      at.keeps.rows n h (omega (arith, places, most))
      ∙ ap (λ (all : List Rows). get_or (get_or all (last_of net) []) n [])
      (one_solution (parts_of net) is.solved.wires is.puts puts is.solved.solution solution)
