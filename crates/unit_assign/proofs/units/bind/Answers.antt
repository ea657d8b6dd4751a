use Rattle.std.proofs.Common.{◌≡◌, rules, refl, Ok, Err}
use Rattle.unit_assign.proofs.OneFault.{units_found, units_refused, err_found, err_refused}
use Rattle.unit_assign.proofs.units.bind.Goals as goal

pub returns-in_err-bind_all-clause-found : goal.returns-in_err-bind_all-clause-found
returns-in_err-bind_all-clause-found c units are =
    let err : c.from_residual-in_err-bind_all.result ≡ Err c.in_err-bind_all.field-0.0 = search rules in
    err_found c.args.datapath.now c.args.lowered.now c.from_residual-in_err-bind_all.result
    c.in_err-bind_all.field-0.0 err c.in_err-bind_all.ensures.fault
    (record { lowered = c.args.lowered.now; units = units }) refl are units

pub returns-in_err-bind_all-clause-refused : goal.returns-in_err-bind_all-clause-refused
returns-in_err-bind_all-clause-refused c =
    let err : c.from_residual-in_err-bind_all.result ≡ Err c.in_err-bind_all.field-0.0 = search rules in
    err_refused c.args.datapath.now c.args.lowered.now c.from_residual-in_err-bind_all.result
    c.in_err-bind_all.field-0.0 err c.in_err-bind_all.ensures.fault

pub returns-clause-found : goal.returns-clause-found
returns-clause-found c =
    units_found c.args.datapath.now c.args.lowered.now (Ok c.bind_all.new.binding.units) c.bind_all.new.binding.units
    refl (record { count = c.in_ok-bind_all.ensures.count; units = c.in_ok-bind_all.ensures.units })

pub returns-clause-refused : goal.returns-clause-refused
returns-clause-refused c =
    units_refused c.args.datapath.now c.args.lowered.now (Ok c.bind_all.new.binding.units)
    c.bind_all.new.binding.units refl
    (record { count = c.in_ok-bind_all.ensures.count; units = c.in_ok-bind_all.ensures.units })
