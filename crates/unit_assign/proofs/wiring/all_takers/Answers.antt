use Rattle.std.proofs.Common.{◌↔◌, ◌/◌, ◌%◌, ◌<◌, ℕ, subst, arith}
use Rattle.unit_assign.specs.Private.UnitSets.{Has, set_at}
use Rattle.unit_assign.specs.Private.Drivers.{place}
use Rattle.unit_assign.proofs.WiringSteps.{takers_more}
use Rattle.unit_assign.proofs.wiring.all_takers.Goals as goal

pub loop-place-preserved : goal.loop-place-preserved
loop-place-preserved c =
    let n = c.loop-place.place in
    let sets = c.args.drivers.now in
    let set = c.takers_of.result in
    takers_more c.args.datapath.now sets c.requires.drivers n c.loop-place.takers c.push.new.self set
    (omega (arith, c.loop-place-test.true, c.len-units.ensures)) c.loop-place.invariant c.in_ok-push.ensures.ok
    (subst (λ (m : ℕ). (u : ℕ) → Has set u ↔ ((u < m) × Has (set_at sets (place u (n % 3))) (n / 3)))
    c.len-units.ensures c.takers_of.ensures)
