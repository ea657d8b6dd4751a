use Rattle.std.proofs.Common.{◌≡◌, ◌∙◌, ℤ, rules, to_z, of_z, w64, ◌+◌, refl, arith, sym, subst, slice_index_or}
use Rattle.micro_image.specs.Log.{Cell}
use Rattle.microcode_asm.specs.Units.{Writes}
use Rattle.microcode_asm.specs.Private.Starts.{no_init}
use Rattle.overlap_plan.specs.IsStagePlan.{plan_of}
use Rattle.overlap_sim.specs.Private.Cells.{AreCellsPut}
use Rattle.overlap_sim.proofs.CellSteps.{line_node, cell_there, none_put, cell_put, cell_skipped, cells_started}
use Rattle.overlap_sim.proofs.starts.start_cells.Goals as goal
use Rattle.overlap_sim.proofs.starts.start_cells.Goals.{then-ago-gt0+then-ago-line, else-ago-gt0}
use Rattle.overlap_sim.proofs.starts.start_cells.Goals.{else-ago-gt0-via-then-ago-gt0+else-ago-line}
use Rattle.overlap_sim.proofs.starts.start_cells.Goals.{else-ago-gt0-via-else-ago-gt0}

pub index-requires : goal.index-requires
index-requires c =
    line_node c.args.datapath.now c.args.plan.now c.requires.ready c.args.l c.index-line.result.now
    c.requires.there c.index-line.ensures

pub write_cell-requires-clause-unit : goal.write_cell-requires-clause-unit
write_cell-requires-clause-unit c =
    (cell_there c.args.datapath.now c.args.plan.now c.requires.ready c.args.l _ c.from.result
    c.index-line.result.now c.loop-ago.units c.requires.there c.index-line.ensures c.from.ensures
    c.if-ago-line.true c.loop-ago.invariant.are).0

pub write_cell-requires-clause-cell : goal.write_cell-requires-clause-cell
write_cell-requires-clause-cell c =
    (cell_there c.args.datapath.now c.args.plan.now c.requires.ready c.args.l _ c.from.result
    c.index-line.result.now c.loop-ago.units c.requires.there c.index-line.ensures c.from.ensures
    c.if-ago-line.true c.loop-ago.invariant.are).1

pub loop-ago-init : goal.loop-ago-init
loop-ago-init c =
    none_put c.args.datapath.now c.args.plan.now c.requires.ready c.args.l c.requires.there c.args.units.now
    c.requires.started

pub loop-ago-preserved : goal.loop-ago-preserved
loop-ago-preserved c =
    let d = c.args.datapath.now in
    let sp = c.args.plan.now in
    let items = c.deref-ago-items.result.now in
    let i = c.loop-ago.ago-index in
    elim c.if-ago-gt0.branch [
      | then-ago-gt0+then-ago-line w ↦
          let same : to_z w64 (of_z w64 w.word_of.result) ≡ w.word_of.result = search rules in
          subst (AreCellsPut d (plan_of sp) c.args.l (i + 1)) (sym w.units-is)
          (cell_put d sp c.requires.ready c.args.l c.requires.there i w.from.result c.index-line.result.now
          c.index.result.now items (slice_index_or items i no_init) c.loop-ago.units w.write_cell.new.units
          c.index-line.ensures c.index.ensures c.deref-ago-items.ensures c.loop-ago-test.true refl w.from.ensures
          w.if-ago-gt0.true w.if-ago-line.true
          (subst (λ (word : ℤ). Writes (Cell c.index-line.result.now.ram
          (c.index-line.result.now.offset + w.from.result)) word c.loop-ago.units w.write_cell.new.units)
          (same ∙ w.word_of.ensures) w.write_cell.ensures)
          c.loop-ago.invariant)
      | else-ago-gt0 w ↦
          subst (AreCellsPut d (plan_of sp) c.args.l (i + 1)) (sym w.units-is)
          (cell_skipped d sp c.requires.ready c.args.l c.requires.there i c.index-line.result.now
          c.index.result.now items (slice_index_or items i no_init) c.loop-ago.units c.index-line.ensures
          c.index.ensures c.deref-ago-items.ensures refl
          (λ some most. elim w.else-ago-gt0.branch [
            | else-ago-gt0-via-then-ago-gt0+else-ago-line v ↦ omega (arith, most, v.if-ago-line.false)
            | else-ago-gt0-via-else-ago-gt0 v ↦ omega (arith, some, v.if-ago-gt0.false)
          ])
          c.loop-ago.invariant)
    ]

pub returns : goal.returns
returns c =
    cells_started c.args.datapath.now c.args.plan.now c.requires.ready c.args.l c.requires.there
    c.loop-ago.ago-index c.index-line.result.now c.index.result.now c.deref-ago-items.result.now c.loop-ago.units
    c.index-line.ensures c.index.ensures c.deref-ago-items.ensures c.loop-ago-test.false c.loop-ago.invariant
