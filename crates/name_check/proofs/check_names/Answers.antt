use Rattle.std.proofs.Common.{sym, subst}
use Rattle.silage_syntax.specs.Tree.{view}
use Rattle.fault_order.specs.Ranked.{IsFirst}
use Rattle.name_rules.specs.NameFaults.{name_faults}
use Rattle.name_check.proofs.NameAnswers.{twice_first, inside_first, recursive_first, no_main_first, names_clear}
use Rattle.name_check.proofs.MainFound.{no_main_given, main_given, error_told, error_each_ok, error_each_fault}
use Rattle.name_check.proofs.check_names.Goals as goal

pub returns-in_err-tops-clause-fault : goal.returns-in_err-tops-clause-fault
returns-in_err-tops-clause-fault c =
    let p = view c.args.program.now in
    error_told p c.from_residual.result c.in_err-tops.field-0.0 c.from_residual.ensures.1
    (λ n. twice_first p _ (c.in_err-tops.ensures.twice n))

pub returns-in_err-tops-clause-each_ok : goal.returns-in_err-tops-clause-each_ok
returns-in_err-tops-clause-each_ok c =
    let p = view c.args.program.now in
    error_each_ok p c.from_residual.result c.in_err-tops.field-0.0 c.from_residual.ensures.1
    (λ n. twice_first p _ (c.in_err-tops.ensures.twice n))

pub returns-in_err-tops-clause-each_fault : goal.returns-in_err-tops-clause-each_fault
returns-in_err-tops-clause-each_fault c =
    let p = view c.args.program.now in
    error_each_fault p c.from_residual.result c.in_err-tops.field-0.0 c.from_residual.ensures.1
    (λ n. twice_first p _ (c.in_err-tops.ensures.twice n))

pub returns-in_err-check_tops-clause-fault : goal.returns-in_err-check_tops-clause-fault
returns-in_err-check_tops-clause-fault c =
    let p = view c.args.program.now in
    error_told p c.from_residual-in_err-check_tops.result c.in_err-check_tops.field-0.0
    c.from_residual-in_err-check_tops.ensures.1
    (λ n. inside_first p c.in_ok-tops.ensures.distinct _ (sym (c.in_err-check_tops.ensures n)))

pub returns-in_err-check_tops-clause-each_ok : goal.returns-in_err-check_tops-clause-each_ok
returns-in_err-check_tops-clause-each_ok c =
    let p = view c.args.program.now in
    error_each_ok p c.from_residual-in_err-check_tops.result c.in_err-check_tops.field-0.0
    c.from_residual-in_err-check_tops.ensures.1
    (λ n. inside_first p c.in_ok-tops.ensures.distinct _ (sym (c.in_err-check_tops.ensures n)))

pub returns-in_err-check_tops-clause-each_fault : goal.returns-in_err-check_tops-clause-each_fault
returns-in_err-check_tops-clause-each_fault c =
    let p = view c.args.program.now in
    error_each_fault p c.from_residual-in_err-check_tops.result c.in_err-check_tops.field-0.0
    c.from_residual-in_err-check_tops.ensures.1
    (λ n. inside_first p c.in_ok-tops.ensures.distinct _ (sym (c.in_err-check_tops.ensures n)))

pub returns-in_err-check_recursion-clause-fault : goal.returns-in_err-check_recursion-clause-fault
returns-in_err-check_recursion-clause-fault c =
    let p = view c.args.program.now in
    error_told p c.from_residual-in_err-check_recursion.result c.in_err-check_recursion.field-0.0
    c.from_residual-in_err-check_recursion.ensures.1 (λ n.
    recursive_first p c.in_ok-tops.ensures.distinct (sym c.in_ok-check_tops.ensures) _
    (c.in_err-check_recursion.ensures.first n))

pub returns-in_err-check_recursion-clause-each_ok : goal.returns-in_err-check_recursion-clause-each_ok
returns-in_err-check_recursion-clause-each_ok c =
    let p = view c.args.program.now in
    error_each_ok p c.from_residual-in_err-check_recursion.result c.in_err-check_recursion.field-0.0
    c.from_residual-in_err-check_recursion.ensures.1 (λ n.
    recursive_first p c.in_ok-tops.ensures.distinct (sym c.in_ok-check_tops.ensures) _
    (c.in_err-check_recursion.ensures.first n))

pub returns-in_err-check_recursion-clause-each_fault : goal.returns-in_err-check_recursion-clause-each_fault
returns-in_err-check_recursion-clause-each_fault c =
    let p = view c.args.program.now in
    error_each_fault p c.from_residual-in_err-check_recursion.result c.in_err-check_recursion.field-0.0
    c.from_residual-in_err-check_recursion.ensures.1 (λ n.
    recursive_first p c.in_ok-tops.ensures.distinct (sym c.in_ok-check_tops.ensures) _
    (c.in_err-check_recursion.ensures.first n))

pub returns-in_err-main-clause-fault : goal.returns-in_err-main-clause-fault
returns-in_err-main-clause-fault c =
    let p = view c.args.program.now in
    let e =
    no_main_given p c.main_position.result c.main_position.ensures c.in_err-main.field-0.0
    c.in_err-main.ensures.value in
    let first =
    no_main_first p c.in_ok-tops.ensures.distinct (sym c.in_ok-check_tops.ensures)
    c.in_ok-check_recursion.ensures.none e.0 in
    error_told p c.from_residual-in_err-main.result c.in_err-main.field-0.0 c.from_residual-in_err-main.ensures.1
    (λ n. subst (IsFirst (name_faults p)) (sym e.1) first)

pub returns-in_err-main-clause-each_ok : goal.returns-in_err-main-clause-each_ok
returns-in_err-main-clause-each_ok c =
    let p = view c.args.program.now in
    let e =
    no_main_given p c.main_position.result c.main_position.ensures c.in_err-main.field-0.0
    c.in_err-main.ensures.value in
    let first =
    no_main_first p c.in_ok-tops.ensures.distinct (sym c.in_ok-check_tops.ensures)
    c.in_ok-check_recursion.ensures.none e.0 in
    error_each_ok p c.from_residual-in_err-main.result c.in_err-main.field-0.0 c.from_residual-in_err-main.ensures.1
    (λ n. subst (IsFirst (name_faults p)) (sym e.1) first)

pub returns-in_err-main-clause-each_fault : goal.returns-in_err-main-clause-each_fault
returns-in_err-main-clause-each_fault c =
    let p = view c.args.program.now in
    let e =
    no_main_given p c.main_position.result c.main_position.ensures c.in_err-main.field-0.0
    c.in_err-main.ensures.value in
    let first =
    no_main_first p c.in_ok-tops.ensures.distinct (sym c.in_ok-check_tops.ensures)
    c.in_ok-check_recursion.ensures.none e.0 in
    error_each_fault p c.from_residual-in_err-main.result c.in_err-main.field-0.0 c.from_residual-in_err-main.ensures.1
    (λ n. subst (IsFirst (name_faults p)) (sym e.1) first)

pub returns-clause-ok : goal.returns-clause-ok
returns-clause-ok c =
    let p = view c.args.program.now in
    names_clear p c.in_ok-tops.ensures.distinct (sym c.in_ok-check_tops.ensures) c.in_ok-check_recursion.ensures.none
    (main_given p c.main_position.result c.main_position.ensures c.in_ok-main.main c.in_ok-main.ensures.value)

pub returns-clause-each_fault : goal.returns-clause-each_fault
returns-clause-each_fault c fault i =
    let p = view c.args.program.now in
    names_clear p c.in_ok-tops.ensures.distinct (sym c.in_ok-check_tops.ensures) c.in_ok-check_recursion.ensures.none
    (main_given p c.main_position.result c.main_position.ensures c.in_ok-main.main c.in_ok-main.ensures.value)
    i.rank fault i.here
