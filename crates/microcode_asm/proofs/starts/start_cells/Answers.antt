use Rattle.std.proofs.Common.{◌≡◌, ◌∙◌, ℤ, rules, to_z, of_z, w64, ◌+◌, refl, arith, sym, subst, slice_index_or}
use Rattle.micro_image.specs.Log.{Cell}
use Rattle.microcode_asm.specs.Units.{Writes}
use Rattle.microcode_asm.specs.Private.Starts.{AreUnitsOf, AreCellsPut, no_init}
use Rattle.microcode_asm.proofs.HeldSteps.{units_kept}
use Rattle.microcode_asm.proofs.StartSteps.{cell_there, cell_put, cell_skipped, cells_started}
use Rattle.microcode_asm.proofs.starts.start_cells.Goals as goal
use Rattle.microcode_asm.proofs.starts.start_cells.Goals.{then-ago-gt0+then-ago-line, else-ago-gt0}
use Rattle.microcode_asm.proofs.starts.start_cells.Goals.{else-ago-gt0-via-then-ago-gt0+else-ago-line}
use Rattle.microcode_asm.proofs.starts.start_cells.Goals.{else-ago-gt0-via-else-ago-gt0}

pub write_cell-requires-clause-cell : goal.write_cell-requires-clause-cell
write_cell-requires-clause-cell c =
    cell_there c.args.datapath.now c.args.plan.now c.requires.ready c.args.l _ c.from.result c.index-line.result.now
    c.loop-ago.units c.requires.there c.index-line.ensures c.from.ensures c.if-ago-line.true
    c.loop-ago.invariant.units

pub loop-ago-preserved : goal.loop-ago-preserved
loop-ago-preserved c =
    let d = c.args.datapath.now in
    let p = c.args.plan.now in
    let items = c.deref-ago-items.result.now in
    let i = c.loop-ago.ago-index in
    elim c.if-ago-gt0.branch [
      | then-ago-gt0+then-ago-line w ↦
          let same : to_z w64 (of_z w64 w.word_of.result) ≡ w.word_of.result = search rules in
          record {
            units = subst (AreUnitsOf d) (sym w.units-is)
                (units_kept d _ _ c.loop-ago.units w.write_cell.new.units c.loop-ago.invariant.units
                w.write_cell.ensures);
            started = λ image is started.
                subst (AreCellsPut d p image c.args.l (i + 1)) (sym w.units-is)
                (cell_put d p c.requires.ready image is c.args.l c.requires.there i w.from.result
                c.index-line.result.now c.index.result.now items (slice_index_or items i no_init) c.loop-ago.units
                w.write_cell.new.units c.index-line.ensures c.index.ensures c.deref-ago-items.ensures
                c.loop-ago-test.true refl w.from.ensures w.if-ago-gt0.true w.if-ago-line.true
                (subst (λ (word : ℤ). Writes (Cell c.index-line.result.now.ram
                (c.index-line.result.now.offset + w.from.result)) word c.loop-ago.units w.write_cell.new.units)
                (same ∙ w.word_of.ensures) w.write_cell.ensures)
                (c.loop-ago.invariant.started image is started));
          }
      | else-ago-gt0 w ↦ record {
        units = subst (AreUnitsOf d) (sym w.units-is) c.loop-ago.invariant.units;
        started = λ image is started.
            subst (AreCellsPut d p image c.args.l (i + 1)) (sym w.units-is)
            (cell_skipped d p c.requires.ready image is c.args.l c.requires.there i c.index-line.result.now
            c.index.result.now items (slice_index_or items i no_init) c.loop-ago.units c.index-line.ensures
            c.index.ensures c.deref-ago-items.ensures refl
            (λ some most. elim w.else-ago-gt0.branch [
              | else-ago-gt0-via-then-ago-gt0+else-ago-line v ↦ omega (arith, most, v.if-ago-line.false)
              | else-ago-gt0-via-else-ago-gt0 v ↦ omega (arith, some, v.if-ago-gt0.false)
            ])
            (c.loop-ago.invariant.started image is started));
      }
    ]

pub returns-clause-started : goal.returns-clause-started
returns-clause-started c image is started =
    cells_started c.args.datapath.now c.args.plan.now c.requires.ready image is c.args.l c.requires.there
    c.loop-ago.ago-index c.index-line.result.now c.index.result.now c.deref-ago-items.result.now c.loop-ago.units
    c.index-line.ensures c.index.ensures c.deref-ago-items.ensures c.loop-ago-test.false
    (c.loop-ago.invariant.started image is started)
