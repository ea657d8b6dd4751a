use Rattle.std.proofs.Common.{◌∙◌, ◌+◌, refl, ap, sym, subst, ℕ, length}
use Rattle.std.proofs.lemmas.List.{length_push}
use Rattle.placed_plan.specs.Places.{place_of}
use Rattle.placed_plan.specs.Private.Units.{AreFirstUnits}
use Rattle.placed_plan.proofs.GivenUnits.{one_more}
use Rattle.placed_stages.proofs.units.units_of.Goals as goal

pub loop-v-preserved : goal.loop-v-preserved
loop-v-preserved c =
    let unit : ℕ = (place_of c.args.places.now c.loop-v.v).unit in
    let more = one_more c.args.places.now c.args.datapath.now c.args.lowered.now c.loop-v.units c.loop-v.v
    c.loop-v.invariant.0 c.loop-v.invariant.1 unit refl c.in_ok-check_unit.ensures.can in (
      ap length c.in_ok-push.ensures.ok ∙ length_push c.loop-v.units unit ∙ ap (λ (n : ℕ). n + 1) c.loop-v.invariant.0,
      subst (AreFirstUnits c.args.places.now c.args.datapath.now c.args.lowered.now) (sym c.in_ok-push.ensures.ok) more,
    )
