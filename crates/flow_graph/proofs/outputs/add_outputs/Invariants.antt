use Rattle.flow_graph.specs.Private.Outputs.{AddsOutputs}
use Rattle.flow_graph.proofs.outputs.add_outputs.Given as goal

abbrev pub invariant-loop-word : goal.invariant-loop-word
invariant-loop-word l = AddsOutputs l.fn.nodes l.elements l.outs l.word l.nodes
