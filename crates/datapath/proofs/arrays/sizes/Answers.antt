use Rattle.std.proofs.Common.{◌≡◌, Err, sym}
use Rattle.toml.specs.View.{view}
use Rattle.datapath.specs.declared.fault.Misfit.TheVariants.{WrongKind}
use Rattle.datapath.specs.Values.{whole}
use Rattle.datapath.proofs.ArrayEntries.{goes_on, stops, so_far, so_far-Ok, so_far-Range}
use Rattle.datapath.proofs.arrays.sizes.Goals as goal
use Rattle.datapath.proofs.arrays.sizes.Goals.{in-Ok+in_ok-push-in-Ok, in-Err-Range}

pub returns-in-Err-WrongKind : goal.returns-in-Err-WrongKind
returns-in-Err-WrongKind c =
    let bad : whole 1 256 (view c.value-item.result) ≡ Err WrongKind = cc
    (c.as_whole.ensures.value, c.in-Err-WrongKind.is, c.in-Err-WrongKind.field-0-is) in
    rw (← c.deref-value-items.ensures.value)
    (sym (stops (whole 1 256) c.deref-value-items.result.now c.loop-value.value-index c.value-item.result
    c.loop-value-test.true c.value-item.is bad))

pub loop-value-preserved : goal.loop-value-preserved
loop-value-preserved c =
    let more = goes_on (whole 1 256) c.deref-value-items.result.now c.loop-value.value-index c.value-item.result
    (so_far c.loop-value.in_range c.loop-value.sizes) in
    elim c.match-as_whole.branch [
      | in-Ok+in_ok-push-in-Ok w ↦
          more _ c.loop-value-test.true c.value-item.is c.loop-value.invariant
          (rw (← c.as_whole.ensures.value, w.in-Ok.is, w.sizes-is, w.in_range-is, w.in_ok-push-in-Ok.ensures.ok)
          (so_far-Ok c.loop-value.in_range c.loop-value.sizes _))
      | in-Err-Range w ↦
          more _ c.loop-value-test.true c.value-item.is c.loop-value.invariant
          (rw (← c.as_whole.ensures.value, w.in-Err-Range.is, w.in-Err-Range.field-0-is, w.sizes-is, w.in_range-is)
          (so_far-Range c.loop-value.in_range c.loop-value.sizes))
    ]
