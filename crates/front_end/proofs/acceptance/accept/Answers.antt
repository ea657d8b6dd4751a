use Rattle.std.proofs.Common.{refl, inr}
use Rattle.std.proofs.lemmas.Result.{err_from_is_err_and}
use Rattle.silage_syntax.specs.Tree.{view}
use Rattle.signal_graph.specs.Flat as flat
use Rattle.front_end.proofs.Graphs.{graph_keeps_program}
use Rattle.front_end.proofs.acceptance.accept.Goals as goal

pub returns-in_err-accepted-clause-err : goal.returns-in_err-accepted-clause-err
returns-in_err-accepted-clause-err c =
    let p = err_from_is_err_and c.from_residual.result c.from_residual.ensures.1 in
    rw (p.1, p.2) c.in_err-accepted.ensures.err

pub returns-in_err-accepted-clause-line : goal.returns-in_err-accepted-clause-line
returns-in_err-accepted-clause-line c =
    let p = err_from_is_err_and c.from_residual.result c.from_residual.ensures.1 in
    rw (p.1, p.2) c.in_err-accepted.ensures.line

pub returns-in_err-accepted-clause-element : goal.returns-in_err-accepted-clause-element
returns-in_err-accepted-clause-element c =
    let p = err_from_is_err_and c.from_residual.result c.from_residual.ensures.1 in
    rw (p.1, p.2) c.in_err-accepted.ensures.element

pub returns-in_err-accepted-clause-each_program : goal.returns-in_err-accepted-clause-each_program
returns-in_err-accepted-clause-each_program c =
    let p = err_from_is_err_and c.from_residual.result c.from_residual.ensures.1 in
    rw (p.1, p.2) c.in_err-accepted.ensures.each_program

pub returns-in_err-accepted-clause-each_fault : goal.returns-in_err-accepted-clause-each_fault
returns-in_err-accepted-clause-each_fault c =
    let p = err_from_is_err_and c.from_residual.result c.from_residual.ensures.1 in
    rw (p.1, p.2) c.in_err-accepted.ensures.each_fault

pub returns-in-Ok-clause-graph : goal.returns-in-Ok-clause-graph
returns-in-Ok-clause-graph c = record {
  expanded = flat.view c.in_ok-accepted.accepted.flat;
  flat_program = c.in_ok-accepted.ensures.flat;
  graph = c.in-Ok.ensures.graph;
}

pub returns-in-Ok-clause-keeps : goal.returns-in-Ok-clause-keeps
returns-in-Ok-clause-keeps c =
    graph_keeps_program c.args.source.now (view c.in_ok-accepted.accepted.program) c.in_ok-accepted.ensures.ok
    (flat.view c.in_ok-accepted.accepted.flat) c.in_ok-accepted.ensures.flat c.in_ok-accepted.ensures.loopless
    c.in-Ok.graph c.in-Ok.ensures.graph

pub returns-in-Err-clause-err : goal.returns-in-Err-clause-err
returns-in-Err-clause-err c = rw c.no_memory.ensures tt

pub returns-in-Err-clause-line : goal.returns-in-Err-clause-line
returns-in-Err-clause-line c = rw c.no_memory.ensures refl

pub returns-in-Err-clause-element : goal.returns-in-Err-clause-element
returns-in-Err-clause-element c = rw c.no_memory.ensures (tt, λ p read. refl)

pub returns-in-Err-clause-each_program : goal.returns-in-Err-clause-each_program
returns-in-Err-clause-each_program c = rw c.no_memory.ensures (λ program has. refl)

pub returns-in-Err-clause-each_fault : goal.returns-in-Err-clause-each_fault
returns-in-Err-clause-each_fault c = rw c.no_memory.ensures (λ fault has. inr refl)
