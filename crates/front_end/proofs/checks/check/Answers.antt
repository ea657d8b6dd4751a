use Rattle.std.proofs.Common.{arith}
use Rattle.std.proofs.lemmas.Result.{err_from_is_err_and}
use Rattle.silage_syntax.specs.Tree.{view}
use Rattle.element_rules.proofs.PlacedFaults.{elements_clear}
use Rattle.front_end.proofs.Counts.{few_tops, short_numbers, results}
use Rattle.front_end.proofs.FirstFaults.{name_error, def_error, type_error}
use Rattle.front_end.proofs.FaultPlaces.{name_about, def_about, type_about}
use Rattle.front_end.proofs.checks.check.Goals as goal

pub check_names-requires : goal.check_names-requires
check_names-requires c =
    omega (arith, c.requires.1.size, few_tops c.requires.0 (view c.args.program.now) c.requires.1)

pub check_elements-requires-clause-results : goal.check_elements-requires-clause-results
check_elements-requires-clause-results c = results c.requires.0 (view c.args.program.now) c.requires.1

pub check_types-requires-clause-few : goal.check_types-requires-clause-few
check_types-requires-clause-few c =
    omega (arith, c.requires.1.size, few_tops c.requires.0 (view c.args.program.now) c.requires.1)

pub check_types-requires-clause-numbers : goal.check_types-requires-clause-numbers
check_types-requires-clause-numbers c = short_numbers c.requires.0 (view c.args.program.now) c.requires.1

pub returns-in_err-names-clause-err : goal.returns-in_err-names-clause-err
returns-in_err-names-clause-err c =
    let p = err_from_is_err_and c.from_residual.result c.from_residual.ensures.1 in
    rw (p.1, p.2) (name_error (view c.args.program.now) c.in_err-names.field-0.0 c.in_err-names.ensures.fault)

pub returns-in_err-elements-clause-err : goal.returns-in_err-elements-clause-err
returns-in_err-elements-clause-err c =
    let p = err_from_is_err_and c.from_residual-in_err-elements.result c.from_residual-in_err-elements.ensures.1 in
    rw (p.1, p.2)
    (def_error (view c.args.program.now) c.in_ok-names.ensures.ok c.in_err-elements.field-0.0
    c.in_err-elements.ensures.fault)

pub returns-in_err-typed-clause-err : goal.returns-in_err-typed-clause-err
returns-in_err-typed-clause-err c =
    let p = err_from_is_err_and c.from_residual-in_err-typed.result c.from_residual-in_err-typed.ensures.1 in
    rw (p.1, p.2)
    (type_error (view c.args.program.now) c.in_ok-names.ensures.ok
    (elements_clear (view c.args.program.now) c.in_ok-elements.ensures.ok)
    c.in_err-typed.field-0.0 c.in_err-typed.ensures.fault)

pub returns-in_err-names-clause-about : goal.returns-in_err-names-clause-about
returns-in_err-names-clause-about c =
    let p = err_from_is_err_and c.from_residual.result c.from_residual.ensures.1 in
    rw (p.1, p.2) (name_about (view c.args.program.now) c.in_err-names.field-0.0)

pub returns-in_err-elements-clause-about : goal.returns-in_err-elements-clause-about
returns-in_err-elements-clause-about c =
    let p = err_from_is_err_and c.from_residual-in_err-elements.result c.from_residual-in_err-elements.ensures.1 in
    rw (p.1, p.2) (def_about (view c.args.program.now) c.in_err-elements.field-0.0 c.in_err-elements.ensures.fault)

pub returns-in_err-typed-clause-about : goal.returns-in_err-typed-clause-about
returns-in_err-typed-clause-about c =
    let p = err_from_is_err_and c.from_residual-in_err-typed.result c.from_residual-in_err-typed.ensures.1 in
    rw (p.1, p.2) (type_about (view c.args.program.now) c.in_err-typed.field-0.0)
