use Rattle.signal_graph.proofs.OneSolution.{graph_solution}
use Rattle.equation_eval.proofs.evaluator.Evaluator.new.Goals as goal

pub returns-clause-one_solution : goal.returns-clause-one_solution
returns-clause-one_solution c stream = graph_solution c.args.graph.now c.requires.graph stream c.requires.loopless

pub returns-in_err-made-clause-one_solution : goal.returns-in_err-made-clause-one_solution
returns-in_err-made-clause-one_solution c stream =
    graph_solution c.args.graph.now c.requires.graph stream c.requires.loopless
