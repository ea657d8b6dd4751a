use Rattle.std.proofs.Common.{arith, below_more}
use Rattle.image_labels.specs.Labelled.{IsFitCycle}
use Rattle.image_labels.specs.Private.Checked.{AreCyclesFit}
use Rattle.image_labels.proofs.Whole.{on_err}
use Rattle.image_labels.proofs.cycles.check_cycles.Goals as goal

pub loop-cycle-preserved : goal.loop-cycle-preserved
loop-cycle-preserved c =
    below_more (IsFitCycle c.args.graph.now c.args.image.now c.args.certificate.now) c.loop-cycle.cycle
    c.loop-cycle.invariant
    (record {
      issues = c.in_ok-check_issues.ensures.ok;
      enables = c.in_ok-check_enables.ensures.ok;
      takes = c.in_ok-check_takes.ensures.ok;
    })

pub returns-in_err-check_issues-clause-err : goal.returns-in_err-check_issues-clause-err
returns-in_err-check_issues-clause-err c =
    let not : AreCyclesFit c.args.graph.now c.args.image.now c.args.certificate.now c.args.turn → ⊥ =
    λ all. c.in_err-check_issues.ensures.err (all c.loop-cycle.cycle (omega arith)).issues in
    on_err _ not

pub returns-in_err-check_enables-clause-err : goal.returns-in_err-check_enables-clause-err
returns-in_err-check_enables-clause-err c =
    let not : AreCyclesFit c.args.graph.now c.args.image.now c.args.certificate.now c.args.turn → ⊥ =
    λ all. c.in_err-check_enables.ensures.err (all c.loop-cycle.cycle (omega arith)).enables in
    on_err _ not

pub returns-in_err-check_takes-clause-err : goal.returns-in_err-check_takes-clause-err
returns-in_err-check_takes-clause-err c =
    let not : AreCyclesFit c.args.graph.now c.args.image.now c.args.certificate.now c.args.turn → ⊥ =
    λ all. c.in_err-check_takes.ensures.err (all c.loop-cycle.cycle (omega arith)).takes in
    on_err _ not
