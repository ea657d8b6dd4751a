-- A net in which one processor and the row that it has taken last are others: it keeps its image and its wires.
use Rattle.std.proofs.Common.{◌≡◌, ℕ, ◌<◌, List, length, get_or, map, Some, ℤ, ap, ap₂, sym, ◌∙◌, subst, arith, inl}
use Rattle.std.proofs.Common.{inr}
use Rattle.std.specs.Prelude.{slice_get, slice_set}
use Rattle.std.proofs.Math.Seq.{map-set_same}
use Rattle.std.proofs.lemmas.List.{length-set}
use Rattle.lists.proofs.Numbers.{same_or_not}
use Rattle.lists.proofs.Places.{at_set_same, at_set_other, some_once}
use Rattle.micro_image.specs.declared.image.Image.{Image}
use Rattle.net_core.specs.declared.types.Wire.{Wire}
use Rattle.net_turns.specs.Marking.{IsMarking}
use Rattle.net_turns.specs.Turns.{Point}
use Rattle.proc_net.specs.declared.processor.Processor.{Processor}
use Rattle.net_solution.specs.RowLists.{rows_of}
use Rattle.net_solution.specs.Solutions.{Parts, shape_of}
use Rattle.net_solution.specs.Private.Solved.{AreSolved}
use Rattle.proc_net.specs.Nets.{NetState, parts_of, points_of}
use Rattle.proc_net.specs.Private.States.{IsProcessorIn, IsState}
use Rattle.proc_net.proofs.Standing.{at_there}

abbrev pub with_processor : NetState → ℕ → Processor → List ℤ → NetState
with_processor net p new row = record {
  processors = slice_set net.processors p new;
  rows = slice_set net.rows p row;
  stream = net.stream;
  capacity = net.capacity;
}

module _ (net : NetState) (p : ℕ) (own new : Processor) (row : List ℤ) (there : slice_get net.processors p ≡ Some own)
    (code : new.machine.code ≡ own.machine.code) (feed : new.feed ≡ own.feed) where
  own_there : get_or net.processors p own ≡ own
  own_there = (at_there net.processors p own there).1

  images_same : map (λ processor. processor.machine.code.image) (slice_set net.processors p new)
      ≡ map (λ processor. processor.machine.code.image) net.processors
  images_same =
      map-set_same (λ processor. processor.machine.code.image) net.processors p new own
      (ap (λ code. code.image) code ∙ ap (λ (x : Processor). x.machine.code.image) (sym own_there))

  feeds_same : map (λ processor. processor.feed) (slice_set net.processors p new)
      ≡ map (λ processor. processor.feed) net.processors
  feeds_same =
      map-set_same (λ processor. processor.feed) net.processors p new own
      (feed ∙ ap (λ (x : Processor). x.feed) (sym own_there))

  pub parts_kept : parts_of (with_processor net p new row) ≡ parts_of net
  parts_kept =
      ap₂ (λ (images : List Image) (feeds : List (List Wire)).
      let parts : Parts = record {
        images = images;
        feeds = feeds;
        capacity = net.capacity;
        stream = rows_of net.stream;
      } in parts) images_same feeds_same

  -- its marking, by that of the points that it has now
  pub marking_kept : (points : List Point)
      → points_of (with_processor net p new row) ≡ points
      → IsMarking (shape_of (parts_of net)) points
      → IsMarking (shape_of (parts_of (with_processor net p new row))) (points_of (with_processor net p new row))
  marking_kept points same marking =
      subst (λ (parts : Parts). IsMarking (shape_of parts) (points_of (with_processor net p new row))) (sym parts_kept)
      (subst (λ (points : List Point). IsMarking (shape_of (parts_of net)) points) (sym same) marking)

  module _ (is : IsState net)
      (marking : IsMarking (shape_of (parts_of (with_processor net p new row)))
      (points_of (with_processor net p new row))) (new_in : IsProcessorIn (parts_of net) is.puts p new row) where
    inside : p < length net.processors
    inside = (at_there net.processors p own there).0

    each_kept : (q : ℕ) (processor : Processor) (r : List ℤ)
        → slice_get (slice_set net.processors p new) q ≡ Some processor
        → slice_get (slice_set net.rows p row) q ≡ Some r
        → IsProcessorIn (parts_of net) is.puts q processor r
    each_kept q processor r processor_there r_there =
        elim (same_or_not q p) [
          | inl same ↦
              let is_new : new ≡ processor =
              some_once (at_set_same net.processors p new inside) (rw same at processor_there) in
              let is_row : row ≡ r =
              some_once (at_set_same net.rows p row (omega (arith, inside, is.rows))) (rw same at r_there) in
              rw (same, ← is_new, ← is_row) new_in
          | inr apart ↦
              is.each q processor r (sym (at_set_other net.processors p q new apart) ∙ processor_there)
              (sym (at_set_other net.rows p q row apart) ∙ r_there)
        ]

    pub state_kept : IsState (with_processor net p new row)
    state_kept = record {
      puts = is.puts;
      solved = subst (λ (parts : Parts). AreSolved parts is.puts) (sym parts_kept) is.solved;
      stream = is.stream;
      some = omega (arith, is.some, length-set net.processors p new);
      few = omega (arith, is.few, length-set net.processors p new);
      rows = omega (arith, is.rows, length-set net.processors p new, length-set net.rows p row);
      marking = marking;
      each = λ q processor r processor_there r_there.
          subst (λ (parts : Parts). IsProcessorIn parts is.puts q processor r) (sym parts_kept)
          (each_kept q processor r processor_there r_there);
    }
