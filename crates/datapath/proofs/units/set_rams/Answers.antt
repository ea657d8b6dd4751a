use Rattle.std.proofs.Common.{◌<◌, length, get_or, arith}
use Rattle.std.proofs.lemmas.List.{get_or_default, length-set}
use Rattle.datapath.proofs.Rams.{rams_go_on, rams_done}
use Rattle.datapath.proofs.units.set_rams.Goals as goal

pub loop-place-preserved : goal.loop-place-preserved
loop-place-preserved c =
    let units = c.loop-place.units in
    let rams = c.args.rams.now in
    let i = c.loop-place.place in
    let few = c.loop-place.invariant.0 in
    let within : i < length units = omega arith in (
      rw (length-set units i _) few,
      rams_go_on units rams i c.index_mut.result.now (get_or rams i 0) _ within
          c.loop-place-test.true c.index_mut.ensures.value
          (get_or_default rams i 0 (get_or rams i 0) c.loop-place-test.true) c.loop-place.invariant.1,
    )

pub returns : goal.returns
returns c = rams_done c.loop-place.units c.args.rams.now c.loop-place.place _ c.loop-place-test.false
    c.loop-place.invariant.1
