use Rattle.std.proofs.Common.{◌≡◌, rules, refl, Ok, Err}
use Rattle.reg_alloc.proofs.OneAnswer.{ok_found, ok_refused, err_found, err_refused}
use Rattle.reg_alloc.proofs.allocator.allot.Goals as goal

pub returns-in_err-regs-clause-found : goal.returns-in_err-regs-clause-found
returns-in_err-regs-clause-found c =
    let is : c.from_residual.result ≡ Err c.in_err-regs.field-0.0 = search rules in
    err_found c.args.datapath.now c.args.arcs.now c.requires.allottable c.from_residual.result
    c.in_err-regs.field-0.0 is (search rules)

pub returns-in_err-regs-clause-refused : goal.returns-in_err-regs-clause-refused
returns-in_err-regs-clause-refused c =
    let is : c.from_residual.result ≡ Err c.in_err-regs.field-0.0 = search rules in
    err_refused c.args.datapath.now c.args.arcs.now c.requires.allottable c.from_residual.result
    c.in_err-regs.field-0.0 is (search rules)

pub returns-clause-found : goal.returns-clause-found
returns-clause-found c =
    ok_found c.args.datapath.now c.args.arcs.now c.requires.allottable (Ok (record { regs = c.in_ok-regs.regs }))
    (record { regs = c.in_ok-regs.regs }) refl (search rules)

pub returns-clause-refused : goal.returns-clause-refused
returns-clause-refused c =
    ok_refused c.args.datapath.now c.args.arcs.now c.requires.allottable (Ok (record { regs = c.in_ok-regs.regs }))
    (record { regs = c.in_ok-regs.regs }) (search rules)
