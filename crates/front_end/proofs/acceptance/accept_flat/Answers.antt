use Rattle.std.proofs.Common.{List, ℕ}
use Rattle.std.proofs.lemmas.Result.{err_from_is_err_and}
use Rattle.silage_syntax.specs.Tree.{Program, view}
use Rattle.signal_graph.specs.Flat as flat
use Rattle.source_faults.specs.Faults.{IsRead, HasProgram}
use Rattle.front_end.specs.Private.Checks.{HasNoFault, IsFlatFor}
use Rattle.front_end.proofs.FirstFaults.{source_error}
use Rattle.front_end.proofs.FaultPlaces.{early_line, early_element, late_line, late_element}
use Rattle.front_end.proofs.OneAnswer.{one_program, program_error, fault_error, no_fault}
use Rattle.front_end.proofs.acceptance.accept_flat.Goals as goal

has_program : (source : List ℕ) (program : Program) (f : flat.Program)
    → IsRead source program
    → HasNoFault program
    → IsFlatFor program f
    → HasProgram source program
has_program source program f read none is =
    record { read = read; names = none.names; elements = none.elements; types = none.types; loops = is.loops }

pub returns-in_err-program-clause-each_program : goal.returns-in_err-program-clause-each_program
returns-in_err-program-clause-each_program c =
    let p = err_from_is_err_and c.from_residual.result c.from_residual.ensures.1 in
    rw (p.1, p.2)
    (λ program has.
    program_error c.args.source.now c.in_err-program.field-0.0.error c.in_err-program.ensures.err program has)

pub returns-in_err-program-clause-each_fault : goal.returns-in_err-program-clause-each_fault
returns-in_err-program-clause-each_fault c =
    let p = err_from_is_err_and c.from_residual.result c.from_residual.ensures.1 in
    rw (p.1, p.2)
    (λ fault has. fault_error c.args.source.now c.in_err-program.field-0.0.error c.in_err-program.ensures.err fault has)

pub checked_flat-requires : goal.checked_flat-requires
checked_flat-requires c = (c.args.source.now, c.in_ok-program.ensures.ok)

pub returns-in-Ok-clause-ok : goal.returns-in-Ok-clause-ok
returns-in-Ok-clause-ok c =
    has_program c.args.source.now (view c.in_ok-program.program) (flat.view c.in-Ok.flat) c.in_ok-program.ensures.ok
    c.in-Ok.ensures.ok
    c.in-Ok.ensures.flat

pub returns-in-Ok-clause-each_program : goal.returns-in-Ok-clause-each_program
returns-in-Ok-clause-each_program c = λ program has.
    one_program c.args.source.now program (view c.in_ok-program.program) has
    (has_program c.args.source.now (view c.in_ok-program.program) (flat.view c.in-Ok.flat) c.in_ok-program.ensures.ok
    c.in-Ok.ensures.ok
    c.in-Ok.ensures.flat)

pub returns-in-Ok-clause-each_fault : goal.returns-in-Ok-clause-each_fault
returns-in-Ok-clause-each_fault c = λ fault has.
    no_fault c.args.source.now (view c.in_ok-program.program)
    (has_program c.args.source.now (view c.in_ok-program.program) (flat.view c.in-Ok.flat) c.in_ok-program.ensures.ok
    c.in-Ok.ensures.ok
    c.in-Ok.ensures.flat)
    fault has

pub returns-in-Err-clause-err : goal.returns-in-Err-clause-err
returns-in-Err-clause-err c =
    rw c.reject.ensures.error
    (source_error (view c.in_ok-program.program) c.args.source.now c.in_ok-program.ensures.ok c.in-Err.finding.error
    c.in-Err.ensures.err)

pub returns-in-Err-clause-each_program : goal.returns-in-Err-clause-each_program
returns-in-Err-clause-each_program c =
    rw c.reject.ensures.error
    (λ program has.
    program_error c.args.source.now c.in-Err.finding.error
    (source_error (view c.in_ok-program.program) c.args.source.now c.in_ok-program.ensures.ok c.in-Err.finding.error
    c.in-Err.ensures.err)
    program has)

pub returns-in-Err-clause-each_fault : goal.returns-in-Err-clause-each_fault
returns-in-Err-clause-each_fault c =
    rw c.reject.ensures.error
    (λ fault has.
    fault_error c.args.source.now c.in-Err.finding.error
    (source_error (view c.in_ok-program.program) c.args.source.now c.in_ok-program.ensures.ok c.in-Err.finding.error
    c.in-Err.ensures.err)
    fault has)

pub returns-in_err-program-clause-line : goal.returns-in_err-program-clause-line
returns-in_err-program-clause-line c =
    let p = err_from_is_err_and c.from_residual.result c.from_residual.ensures.1 in
    rw (p.1, p.2)
    (early_line c.args.source.now c.in_err-program.field-0.0 c.in_err-program.ensures.element
    c.in_err-program.ensures.line)

pub returns-in_err-program-clause-element : goal.returns-in_err-program-clause-element
returns-in_err-program-clause-element c =
    let p = err_from_is_err_and c.from_residual.result c.from_residual.ensures.1 in
    rw (p.1, p.2)
    (early_element c.args.source.now c.in_err-program.field-0.0 c.in_err-program.ensures.element
    c.in_err-program.ensures.about)

pub returns-in-Err-clause-line : goal.returns-in-Err-clause-line
returns-in-Err-clause-line c =
    late_line c.args.source.now c.in_ok-program.program c.in_ok-program.ensures.ok c.in-Err.finding c.reject.result
    c.reject.ensures.error c.reject.ensures.element c.in-Err.ensures.err c.reject.ensures.line

pub returns-in-Err-clause-element : goal.returns-in-Err-clause-element
returns-in-Err-clause-element c =
    late_element c.args.source.now c.in_ok-program.program c.in_ok-program.ensures.ok c.in-Err.finding c.reject.result
    c.reject.ensures.error c.reject.ensures.element c.in-Err.ensures.about

pub returns-in-Ok-clause-flat : goal.returns-in-Ok-clause-flat
returns-in-Ok-clause-flat c = c.in-Ok.ensures.flat.made

pub returns-in-Ok-clause-sound : goal.returns-in-Ok-clause-sound
returns-in-Ok-clause-sound c = c.in-Ok.ensures.flat.sound

pub returns-in-Ok-clause-loopless : goal.returns-in-Ok-clause-loopless
returns-in-Ok-clause-loopless c = c.in-Ok.ensures.flat.loopless

pub returns-in-Ok-clause-keeps : goal.returns-in-Ok-clause-keeps
returns-in-Ok-clause-keeps c = c.in-Ok.ensures.flat.keeps

pub returns-in-Ok-clause-types : goal.returns-in-Ok-clause-types
returns-in-Ok-clause-types c = c.in-Ok.ensures.flat.types

pub returns-in-Ok-clause-outputs : goal.returns-in-Ok-clause-outputs
returns-in-Ok-clause-outputs c = c.in-Ok.ensures.flat.outputs
