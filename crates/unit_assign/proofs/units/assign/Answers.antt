use Rattle.std.proofs.Common.{◌≡◌, rules, refl, Ok, Err}
use Rattle.unit_assign.proofs.OneFault.{copied, ok_found, ok_refused, err_found, err_refused}
use Rattle.unit_assign.proofs.units.assign.Goals as goal

pub returns-in_err-units-clause-found : goal.returns-in_err-units-clause-found
returns-in_err-units-clause-found c a same is =
    let err : c.from_residual.result ≡ Err c.in_err-units.field-0.0 = search rules in
    err_found c.args.datapath.now c.args.lowered.now c.from_residual.result c.in_err-units.field-0.0 err
    c.in_err-units.ensures.fault a same is a

pub returns-in_err-units-clause-refused : goal.returns-in_err-units-clause-refused
returns-in_err-units-clause-refused c =
    let err : c.from_residual.result ≡ Err c.in_err-units.field-0.0 = search rules in
    err_refused c.args.datapath.now c.args.lowered.now c.from_residual.result c.in_err-units.field-0.0 err
    c.in_err-units.ensures.fault

pub returns-clause-assigned : goal.returns-clause-assigned
returns-clause-assigned c =
    copied c.args.datapath.now c.args.lowered.now c.in_ok-units.units c.in_ok-assigned.field-0
    c.in_ok-units.ensures.units c.in_ok-assigned.ensures.lowered c.in_ok-assigned.ensures.units

pub returns-clause-found : goal.returns-clause-found
returns-clause-found c =
    ok_found c.args.datapath.now c.args.lowered.now (Ok c.in_ok-assigned.field-0) c.in_ok-assigned.field-0 refl
    c.in_ok-assigned.ensures.lowered (returns-clause-assigned c)

pub returns-clause-refused : goal.returns-clause-refused
returns-clause-refused c =
    ok_refused c.args.datapath.now c.args.lowered.now (Ok c.in_ok-assigned.field-0) c.in_ok-assigned.field-0 refl
    c.in_ok-assigned.ensures.lowered (returns-clause-assigned c)
