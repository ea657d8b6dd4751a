use Rattle.std.proofs.Common.{◌≡◌, ◌⊎◌, ◌∙◌, ap, subst₂, ℕ, List, length}
use Rattle.given_registers.specs.declared.given.GivenRegister.{GivenRegister}
use Rattle.placed_plan.specs.GivenPlans.{IsGivenPlanFault}
use Rattle.placed_plan.specs.declared.fault.GivenPlanFault.TheVariants.{Memory}
use Rattle.placed_plan.specs.declared.place.Place.{Place}
use Rattle.place_command.proofs.Lines.{its_place}
use Rattle.place_command.proofs.Refusing.{planless}
use Rattle.place_command.proofs.placer.placed_with.Goals as goal

pub unplanned-requires : goal.unplanned-requires
unplanned-requires c =
    its_place c.args.graph c.args.path c.args.lines.places.places c.requires.path c.requires.sound c.requires.loopless
    c.args.lines.registers c.as_slice-in-Err.result.now
    (ap (λ (lines : List ℕ). length lines) c.as_slice-in-Err.ensures ∙ c.requires.numbers.places)
    c.requires.numbers.registers c.in-Err.fault
    (subst₂
    (λ (places : List Place) (given : List GivenRegister).
    (c.in-Err.fault ≡ Memory) ⊎ IsGivenPlanFault places c.args.graph c.args.path given c.in-Err.fault)
    c.as_slice.ensures c.as_slice-given.ensures c.in-Err.ensures.fault)

pub returns-in-Err-clause-err : goal.returns-in-Err-clause-err
returns-in-Err-clause-err c =
    planless c.args.graph c.args.path c.args.lines c.as_slice-in-Err.result.now c.as_slice-in-Err.ensures c.in-Err.fault
    (subst₂
    (λ (places : List Place) (given : List GivenRegister).
    (c.in-Err.fault ≡ Memory) ⊎ IsGivenPlanFault places c.args.graph c.args.path given c.in-Err.fault)
    c.as_slice.ensures c.as_slice-given.ensures c.in-Err.ensures.fault)
    c.unplanned.result c.unplanned.ensures
