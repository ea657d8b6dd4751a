use Rattle.std.proofs.Common.{ap}
use Rattle.std.proofs.lemmas.Result.{err_from_is_err_and}
use Rattle.std.specs.Prelude.{Err}
use Rattle.signal_graph.specs.Flat.{view}
use Rattle.front_end.proofs.Flats.{is_flat, flat_for, loop_error}
use Rattle.front_end.proofs.flat.loopless_flat.Goals as goal

pub check_loops-requires : goal.check_loops-requires
check_loops-requires c =
    is_flat c.requires.0 c.args.typed.now c.args.elements.now c.requires.1 (view c.in_ok-flat.flat)
    (c.in_ok-flat.ensures.flat c.requires.0 c.requires.1)

pub returns-in_err-check_loops-clause-err : goal.returns-in_err-check_loops-clause-err
returns-in_err-check_loops-clause-err c =
    let at = c.from_residual-in_err-check_loops in
    let p = err_from_is_err_and at.result at.ensures.1 in
    rw (p.1, p.2)
    (λ p are.
    loop_error p c.args.typed.now c.args.elements.now are (view c.in_ok-flat.flat) (c.in_ok-flat.ensures.flat p are)
    c.in_err-check_loops.field-0.0
    (λ e is. c.in_err-check_loops.ensures.fault e (ap Err is)))

pub returns-clause-ok : goal.returns-clause-ok
returns-clause-ok c = λ p are.
    flat_for p c.args.typed.now c.args.elements.now are (view c.in_ok-flat.flat) (c.in_ok-flat.ensures.flat p are)
    c.in_ok-check_loops.ensures.no_loop
