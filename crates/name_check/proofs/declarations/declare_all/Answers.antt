use Rattle.name_check.proofs.Declared.{none_declared, one_declared, one_fails, all_declared}
use Rattle.name_check.proofs.declarations.declare_all.Goals as goal

pub loop-d-init : goal.loop-d-init
loop-d-init c = none_declared c.args.tops.now c.args.signals.now c.args.decls.now

pub loop-d-preserved : goal.loop-d-preserved
loop-d-preserved c =
    one_declared c.args.tops.now c.args.signals.now c.loop-d.signals c.declare.new.signals c.args.decls.now
    c.loop-d.d-index c.d-item.result c.loop-d-test.true c.d-item.is c.loop-d.invariant
    c.in_ok-declare.ensures.met c.in_ok-declare.ensures.names

pub returns-in_err-declare-clause-met : goal.returns-in_err-declare-clause-met
returns-in_err-declare-clause-met c =
    one_fails c.args.tops.now c.args.signals.now c.loop-d.signals c.loop-d.signals c.args.decls.now c.loop-d.d-index
    c.d-item.result c.loop-d-test.true c.d-item.is c.loop-d.invariant
    c.from_residual.result _ c.from_residual.ensures.1 c.in_err-declare.ensures.met

pub returns : goal.returns
returns c =
    let all =
    all_declared c.args.tops.now c.args.signals.now c.loop-d.signals c.args.decls.now c.loop-d.d-index
    c.loop-d-test.false c.loop-d.invariant in
    record { met = all.0; names = all.1 }
