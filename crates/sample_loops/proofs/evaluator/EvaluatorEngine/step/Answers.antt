-- A row of the channels is a row of the graph's inputs.
use Rattle.sample_loops.proofs.TypedRows.{graph_row}
use Rattle.sample_loops.proofs.evaluator.EvaluatorEngine.step.Goals as goal

pub step-requires-clause-row : goal.step-requires-clause-row
step-requires-clause-row c =
    graph_row c.args.self.now.graph.inputs c.args.row.now c.outs.ensures.sound.inputs c.requires.row
