use Rattle.std.proofs.Common.{rules, ap, arith, refl, ℕ, ◌<◌, subst, take, List}
use Rattle.std.proofs.lemmas.List.{get_or_default}
use Rattle.plan_core.specs.Hardware.{file_size}
use Rattle.plan_core.specs.Arcs.{no_arc, arc_of}
use Rattle.plan_core.specs.declared.registers.Arc.{Arc}
use Rattle.reg_alloc.proofs.Steps.{zero_arc}
use Rattle.given_registers.specs.Around.{given_at, IsFor, IsGiven}
use Rattle.given_registers.specs.Private.Allotting.{IsClear, IsMet}
use Rattle.given_registers.specs.declared.given.GivenRegister.{GivenRegister}
use Rattle.given_registers.proofs.Checks.{taken, can_have, none_given_for}
use Rattle.given_registers.proofs.check.allotted_for.Goals as goal

pub returns-then-not-is_clear-clause-cause : goal.returns-then-not-is_clear-clause-cause
returns-then-not-is_clear-clause-cause c =
    let d = c.args.datapath.now in
    let arcs = c.args.arcs.now in
    let given = c.args.given.now in
    let n = c.args.n in
    let k = c.in-Some.k in
    let entry = given_at given n in
    let home : IsFor arcs entry k entry.copy = search rules in
    let is = get_or_default arcs k zero_arc no_arc home.there in
    let size = ap (λ (arc : Arc). file_size d arc.port) is in
    let within : entry.register < file_size d (arc_of arcs k).port =
    omega (arith, size, c.from.ensures, c.file_size.ensures.size, c.if-from-file_size.false) in
    let early = c.split_at.ensures.front in
    let single : IsGiven (take n given) arcs k entry.copy → ⊥ =
    subst (λ (gs : List GivenRegister). IsGiven gs arcs k entry.copy → ⊥) early
    (none_given_for c.split_at.result.0.now arcs k entry.copy c.given_for.result c.given_for.ensures
    c.in_default-given_for.not-Some) in
    taken d c.args.circle.samples given arcs c.requires.allottable n c.requires.there c.args.allotted.now
    c.requires.count c.requires.before entry refl k entry.copy home within single
    (subst (λ (p : ℕ). IsMet p c.args.circle.samples arcs c.args.allotted.now k entry.copy entry.register)
    c.requires.period (search rules))

pub returns-clause-can : goal.returns-clause-can
returns-clause-can c =
    let d = c.args.datapath.now in
    let arcs = c.args.arcs.now in
    let given = c.args.given.now in
    let n = c.args.n in
    let k = c.in-Some.k in
    let entry = given_at given n in
    let home : IsFor arcs entry k entry.copy = search rules in
    let is = get_or_default arcs k zero_arc no_arc home.there in
    let size = ap (λ (arc : Arc). file_size d arc.port) is in
    let within : entry.register < file_size d (arc_of arcs k).port =
    omega (arith, size, c.from.ensures, c.file_size.ensures.size, c.if-from-file_size.false) in
    let early = c.split_at.ensures.front in
    let single : IsGiven (take n given) arcs k entry.copy → ⊥ =
    subst (λ (gs : List GivenRegister). IsGiven gs arcs k entry.copy → ⊥) early
    (none_given_for c.split_at.result.0.now arcs k entry.copy c.given_for.result c.given_for.ensures
    c.in_default-given_for.not-Some) in
    can_have d c.args.circle.samples given arcs c.requires.allottable n c.requires.there c.args.allotted.now
    c.requires.count c.requires.before entry refl k entry.copy home within single
    (subst (λ (p : ℕ). IsClear p c.args.circle.samples arcs c.args.allotted.now k entry.copy entry.register)
    c.requires.period (search rules))
