use Rattle.std.proofs.Common.{arith}
use Rattle.silage_syntax.specs.Tree.{view}
use Rattle.front_end.proofs.Counts.{few_tops, results}
use Rattle.node_names.proofs.names.node_names.Goals as goal

pub elements_of-requires-clause-few : goal.elements_of-requires-clause-few
elements_of-requires-clause-few c =
    let read = c.in_ok-accepted.ensures.ok.read in
    omega (arith, few_tops c.args.source.now (view c.in_ok-accepted.accepted.program) read, read.size)

pub elements_of-requires-clause-results : goal.elements_of-requires-clause-results
elements_of-requires-clause-results c =
    results c.args.source.now (view c.in_ok-accepted.accepted.program) c.in_ok-accepted.ensures.ok.read
