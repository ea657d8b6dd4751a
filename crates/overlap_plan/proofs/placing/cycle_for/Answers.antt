use Rattle.std.proofs.Common.{ℕ, ◌<◌, ◌≤◌, ◌∙◌, length, ap, sym, subst, refl, arith}
use Rattle.std.proofs.lemmas.List.{get_or_default}
use Rattle.datapath.specs.declared.types.Datapath.{Datapath}
use Rattle.datapath.specs.declared.types.Unit.{Unit}
use Rattle.bus_alloc.specs.Table.{IsFirstFitAround}
use Rattle.list_schedule.proofs.Placings.{ports_known}
use Rattle.plan_core.specs.Assigned.{unit_in}
use Rattle.plan_core.specs.Hardware.{gap_on, unit_of, no_unit}
use Rattle.schedule_priority.proofs.Problems.{latency_few}
use Rattle.overlap_plan.proofs.StagedPlacing.{first_found}
use Rattle.overlap_plan.proofs.placing.cycle_for.Goals as goal

pub first_fit-requires-clause-ports : goal.first_fit-requires-clause-ports
first_fit-requires-clause-ports c =
    ports_known c.args.staged.now.problem.datapath.now c.args.staged.now.problem.assigned.now c.requires.staged.problem
    c.args.v c.requires.node c.args.ports.now c.requires.ports c.args.placing.now.slots c.args.placing.now.table
    c.requires.table

pub first_fit-requires-clause-unit : goal.first_fit-requires-clause-unit
first_fit-requires-clause-unit c =
    subst (λ (x : Datapath). c.unit-unit.result < length x.units) (sym c.requires.table.path) c.unit-unit.ensures.there

pub first_fit-requires-clause-from : goal.first_fit-requires-clause-from
first_fit-requires-clause-from c =
    let d = c.args.staged.now.problem.datapath.now in
    let a = c.args.staged.now.problem.assigned.now in
    let early =
    c.ready.ensures.first 32768
    (λ q x reads.
    omega (arith, c.requires.table.early x, latency_few d c.requires.staged.problem.path (unit_in a.units x))) in
    omega (arith, early, c.earliest.ensures.most, c.max-from.ensures)

pub returns : goal.returns
returns c =
    let d = c.args.staged.now.problem.datapath.now in
    let a = c.args.staged.now.problem.assigned.now in
    let units = d.units in
    let number = c.from.ensures ∙ c.unit-unit.ensures.unit in
    let there : c.from.result < length units = omega (arith, c.from.ensures, c.unit-unit.ensures.there) in
    let its =
    c.index.ensures ∙ get_or_default units c.from.result c.index.result.now no_unit there ∙ ap (unit_of d) number in
    let gap = ap (λ (x : Unit). x.gap) its in
    let again : gap_on d (unit_in a.units c.args.v) ≤ d.period =
    omega (arith, gap, c.from-2.ensures, c.if-from-staged.false) in
    first_found c.args.staged.now c.requires.staged c.args.placing.now.table c.requires.table.path c.args.placing.now
    refl c.args.v c.ready.result c.earliest.result c.end-end.result c.args.ports.now again c.ready.ensures
    c.earliest.ensures.late c.end-end.ensures c.first_fit.result
    (subst (λ (from : ℕ).
    IsFirstFitAround c.end-end.result c.args.placing.now.table (unit_in a.units c.args.v) from c.args.ports.now
    c.first_fit.result) c.max-from.ensures
    (subst (λ (u : ℕ).
    IsFirstFitAround c.end-end.result c.args.placing.now.table u c.max-from.result c.args.ports.now
    c.first_fit.result) c.unit-unit.ensures.unit c.first_fit.ensures))
