use Rattle.std.proofs.Common.{◌∙◌, ◌<◌, ◌≤◌, rules, refl, ap, arith, [], length}
use Rattle.std.proofs.lemmas.List.{get_or_default}
use Rattle.datapath.specs.declared.types.Unit.{Unit}
use Rattle.plan_core.specs.Assigned.{unit_in}
use Rattle.plan_core.specs.Hardware.{gap_on, unit_of, no_unit}
use Rattle.placed_stages.specs.Private.Placing.{IsInTime}
use Rattle.placed_stages.proofs.Fitting.{fitting_by, blocked_by}
use Rattle.placed_stages.proofs.placing.check_cycle.Goals as goal

pub returns-then-not-fits_at-clause-fault : goal.returns-then-not-fits_at-clause-fault
returns-then-not-fits_at-clause-fault c =
    let staged = c.args.staged.now in
    let placing = c.args.placing.now in
    let in_time : IsInTime staged placing c.args.v c.args.cycle = search rules in (
      refl,
      record {
        in_time = in_time;
        busy = λ free.
            blocked_by staged c.requires.staged placing c.requires.table.path c.args.v c.args.cycle _ (search rules) []
            c.fits_at.ensures c.unit-unit.ensures.unit (λ yes. search rules) free.fits;
      },
    )

pub returns-then-not-fits_at-2-clause-fault : goal.returns-then-not-fits_at-2-clause-fault
returns-then-not-fits_at-2-clause-fault c =
    let d = c.args.staged.now.problem.datapath.now in
    let there : c.from-4.result < length d.units = omega (arith, c.from-4.ensures, c.unit-unit.ensures.there) in
    let its =
    c.index.ensures ∙ get_or_default d.units c.from-4.result c.index.result.now no_unit there
    ∙ ap (unit_of d) (c.from-4.ensures ∙ c.unit-unit.ensures.unit) in
    let gap = ap (λ (x : Unit). x.gap) its in
    let again : gap_on d (unit_in c.args.staged.now.problem.assigned.now.units c.args.v) ≤ d.period =
    omega (arith, gap, c.from-5.ensures, c.if-from-staged.false) in
    let staged = c.args.staged.now in
    let placing = c.args.placing.now in
    let in_time : IsInTime staged placing c.args.v c.args.cycle = search rules in (
      refl,
      record {
        in_time = in_time;
        free = record {
          again = again;
          fits =
              fitting_by staged c.requires.staged placing c.requires.table.path c.args.v c.args.cycle _ (search rules)
              []
              c.fits_at.ensures c.unit-unit.ensures.unit (search rules) in_time.ends;
        };
        blocked = λ fits.
            blocked_by staged c.requires.staged placing c.requires.table.path c.args.v c.args.cycle _ (search rules)
            c.args.ports.now c.fits_at-2.ensures c.unit-unit.ensures.unit (λ yes. search rules) fits;
      },
    )

pub returns-clause-stands : goal.returns-clause-stands
returns-clause-stands c =
    let d = c.args.staged.now.problem.datapath.now in
    let there : c.from-4.result < length d.units = omega (arith, c.from-4.ensures, c.unit-unit.ensures.there) in
    let its =
    c.index.ensures ∙ get_or_default d.units c.from-4.result c.index.result.now no_unit there
    ∙ ap (unit_of d) (c.from-4.ensures ∙ c.unit-unit.ensures.unit) in
    let gap = ap (λ (x : Unit). x.gap) its in
    let again : gap_on d (unit_in c.args.staged.now.problem.assigned.now.units c.args.v) ≤ d.period =
    omega (arith, gap, c.from-5.ensures, c.if-from-staged.false) in
    let staged = c.args.staged.now in
    let placing = c.args.placing.now in
    let in_time : IsInTime staged placing c.args.v c.args.cycle = search rules in
    record {
      in_time = in_time;
      again = again;
      fits =
          fitting_by staged c.requires.staged placing c.requires.table.path c.args.v c.args.cycle _ (search rules)
          c.args.ports.now c.fits_at-2.ensures c.unit-unit.ensures.unit (search rules) in_time.ends;
    }
