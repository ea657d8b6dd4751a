use Rattle.std.proofs.Common.{◌≡◌, ◌<◌, ◌∙◌, arith, length}
use Rattle.std.proofs.lemmas.List.{get_or_default}
use Rattle.micro_image.specs.Fields.{nth}
use Rattle.cycle_sim.specs.Private.Rings.{no_ring}
use Rattle.cycle_sim.proofs.RingLaws.{turned_more}
use Rattle.cycle_sim.proofs.rings.turn_all.Goals as goal

pub loop-unit-preserved : goal.loop-unit-preserved
loop-unit-preserved c =
    let below : c.loop-unit.unit < length c.args.rings.now =
    omega (arith, c.loop-unit-test.true, c.loop-unit.auto.unit-end, c.len-unit-end.ensures) in
    let within : c.loop-unit.unit < length c.loop-unit.rings = omega (arith, below, c.loop-unit.invariant.count) in
    let here : c.index.result.now ≡ nth c.loop-unit.rings c.loop-unit.unit no_ring =
    c.index.ensures ∙ get_or_default c.loop-unit.rings c.loop-unit.unit c.index.result.now no_ring within in
    turned_more c.loop-unit.unit c.args.rings.now c.loop-unit.rings c.index.result.now c.next.result
    c.loop-unit.invariant below here c.next.ensures

pub returns : goal.returns
returns c = record {
  count = c.loop-unit.invariant.count;
  each = λ u below.
      c.loop-unit.invariant.each u
      (omega (arith, below, c.loop-unit-test.false, c.len-unit-end.ensures, c.loop-unit.auto.unit-end));
}
