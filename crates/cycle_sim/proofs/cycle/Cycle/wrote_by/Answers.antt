use Rattle.std.proofs.Common.{◌≡◌, ◌==◌, ◌∙◌, arith, sym, subst, ap, find, w64}
use Rattle.std.proofs.lemmas.Int.{to_z-of_z}
use Rattle.micro_image.specs.Fields.{driver_at}
use Rattle.cycle_sim.specs.InFlight.{slot_of}
use Rattle.cycle_sim.specs.Machine.{IsOperand}
use Rattle.cycle_sim.specs.Order.{spot_of}
use Rattle.cycle_sim.specs.Microcode.{micro_of}
use Rattle.cycle_sim.specs.Private.Execution.{IsCycle, register_of, value_after}
use Rattle.cycle_sim.specs.Private.Predecode.{driver_of}
use Rattle.cycle_sim.proofs.Acting.{driver_small}
use Rattle.cycle_sim.proofs.cycle.Cycle.wrote_by.Goals as goal

pub result-requires-clause-unit : goal.result-requires-clause-unit
result-requires-clause-unit c =
    let is = subst IsCycle c.self.view_is c.self.invariant.0 in
    let word : c.word_at.result.now ≡ (micro_of c.args.self.now.code).word_at c.args.self.now.number =
    c.word_at.ensures ∙ ap (λ cycle. (micro_of cycle.code).word_at cycle.number) c.self.view_is in
    omega (
      arith,
      c.driver_of-driver.ensures,
      ap (λ word. driver_of (find (λ enable. enable.bus == c.args.take.now.bus) word.enables)) word,
      driver_small c.args.self.now is c.args.take.now.bus,
    )

pub returns-clause-wrote : goal.returns-clause-wrote
returns-clause-wrote c =
    let word : c.word_at.result.now ≡ (micro_of c.args.self.now.code).word_at c.args.self.now.number =
    c.word_at.ensures ∙ ap (λ cycle. (micro_of cycle.code).word_at cycle.number) c.self.view_is in
    let driver : c.driver_of-driver.result
    ≡ driver_of (driver_at (micro_of c.args.self.now.code) c.args.self.now.number c.args.take.now.bus) =
    c.driver_of-driver.ensures
    ∙ ap (λ word. driver_of (find (λ enable. enable.bus == c.args.take.now.bus) word.enables)) word in
    ap (λ value. record { spot = spot_of (register_of c.args.take.now); value = value })
    (to_z-of_z w64 c.get.result (omega (arith, c.get.type_inv)) ∙ c.get.ensures.value ∙ c.result.ensures
    ∙ ap (λ n.
    value_after c.args.self.now c.args.storage.now c.args.row.now c.args.values.now
    (slot_of c.args.self.now.number n))
    driver)

pub returns-clause-word : goal.returns-clause-word
returns-clause-word c =
    subst IsOperand (sym (to_z-of_z w64 c.get.result (omega (arith, c.get.type_inv)))) c.get.ensures.bound
