use Rattle.std.proofs.Common.{refl}
use Rattle.std.proofs.lemmas.Result.{err_from_is_err_and}
use Rattle.silage_syntax.specs.Tree.{view}
use Rattle.element_rules.specs.ElementFaults.{without_place}
use Rattle.element_rules.proofs.PlacedFaults.{told_first, told_ok, told_fault}
use Rattle.single_def.proofs.check_defs.Goals as goal

pub returns-in_err-check_elements-clause-fault : goal.returns-in_err-check_elements-clause-fault
returns-in_err-check_elements-clause-fault c =
    let p = err_from_is_err_and c.from_residual.result c.from_residual.ensures.1 in
    let fault = c.in_err-check_elements.field-0.0 in
    rw (p.1, p.2)
    (told_first (view c.args.program.now) fault (without_place fault) refl c.in_err-check_elements.ensures.fault)

pub returns-in_err-check_elements-clause-each_ok : goal.returns-in_err-check_elements-clause-each_ok
returns-in_err-check_elements-clause-each_ok c =
    let p = err_from_is_err_and c.from_residual.result c.from_residual.ensures.1 in
    let fault = c.in_err-check_elements.field-0.0 in
    rw (p.1, p.2)
    (told_ok (view c.args.program.now) fault (without_place fault) refl c.in_err-check_elements.ensures.each_ok)

pub returns-in_err-check_elements-clause-each_fault : goal.returns-in_err-check_elements-clause-each_fault
returns-in_err-check_elements-clause-each_fault c =
    let p = err_from_is_err_and c.from_residual.result c.from_residual.ensures.1 in
    let fault = c.in_err-check_elements.field-0.0 in
    rw (p.1, p.2)
    (told_fault (view c.args.program.now) fault (without_place fault) refl c.in_err-check_elements.ensures.each_fault)
