use Rattle.std.proofs.Common.{◌≡◌, Err, sym}
use Rattle.toml.specs.View.{view}
use Rattle.toml_rows.specs.declared.misfit.Misfit.TheVariants.{WrongKind}
use Rattle.net_file.specs.Table as row
use Rattle.toml_rows.proofs.ArrayEntries.{goes_on, stops, so_far, so_far-Ok, so_far-Range}
use Rattle.net_file.proofs.wires.wires.Goals as goal
use Rattle.net_file.proofs.wires.wires.Goals.{in-Ok+in_ok-push-in-Ok, in-Err-Range}

pub returns-in-Err-WrongKind : goal.returns-in-Err-WrongKind
returns-in-Err-WrongKind c =
    let bad : row.wire c.args.inputs c.args.own (view c.value-item.result) ≡ Err WrongKind = cc
    (c.as_wire.ensures, c.in-Err-WrongKind.is, c.in-Err-WrongKind.field-0-is) in
    rw (← c.deref-value-items.ensures.value)
    (sym (stops (row.wire c.args.inputs c.args.own) c.deref-value-items.result.now c.loop-value.value-index
    c.value-item.result
    c.loop-value-test.true c.value-item.is bad))

pub loop-value-preserved : goal.loop-value-preserved
loop-value-preserved c =
    let more =
    goes_on (row.wire c.args.inputs c.args.own) c.deref-value-items.result.now c.loop-value.value-index
    c.value-item.result
    (so_far c.loop-value.in_range c.loop-value.wires) in
    elim c.match-as_wire.branch [
      | in-Ok+in_ok-push-in-Ok w ↦
          more _ c.loop-value-test.true c.value-item.is c.loop-value.invariant
          (rw (← c.as_wire.ensures, w.in-Ok.is, w.wires-is, w.in_range-is, w.in_ok-push-in-Ok.ensures.ok)
          (so_far-Ok c.loop-value.in_range c.loop-value.wires _))
      | in-Err-Range w ↦
          more _ c.loop-value-test.true c.value-item.is c.loop-value.invariant
          (rw (← c.as_wire.ensures, w.in-Err-Range.is, w.in-Err-Range.field-0-is, w.wires-is, w.in_range-is)
          (so_far-Range c.loop-value.in_range c.loop-value.wires))
    ]
