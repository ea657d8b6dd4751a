use Rattle.std.proofs.Common.{ap, sym, subst, arith, ℕ, rules}
use Rattle.std.proofs.lemmas.List.{get_or_default}
use Rattle.plan_core.specs.Hardware.{file_size}
use Rattle.plan_core.specs.Arcs.{no_arc}
use Rattle.plan_core.specs.declared.registers.Arc.{Arc}
use Rattle.reg_alloc.proofs.Steps.{zero_arc}
use Rattle.given_registers.specs.Around.{IsGiven}
use Rattle.given_registers.specs.Private.Allotting.{IsClear, full_at}
use Rattle.given_registers.proofs.Checks.{none_given_for}
use Rattle.given_registers.proofs.around.register_for.Goals as goal

pub returns-in-None-clause-fault : goal.returns-in-None-clause-fault
returns-in-None-clause-fault c =
    let d = c.args.datapath.now in
    let arcs = c.args.arcs.now in
    let is = get_or_default arcs c.args.k zero_arc no_arc c.requires.there in
    let size = ap (λ (arc : Arc). file_size d arc.port) is in
    let ungiven : IsGiven c.args.given.now arcs c.args.k c.args.copy → ⊥ =
    none_given_for c.args.given.now arcs c.args.k c.args.copy c.given_for.result c.given_for.ensures
    c.in_default.not-Some in (
      ap full_at is,
      record {
        ungiven = ungiven;
        none = λ register within clear.
            c.in-None.ensures register (omega (arith, within, size, c.file_size-size.ensures.size))
            (subst (λ (n : ℕ). IsClear n c.args.circle.samples arcs c.args.allotted.now c.args.k c.args.copy register)
            (sym c.requires.period) clear);
      },
    )
