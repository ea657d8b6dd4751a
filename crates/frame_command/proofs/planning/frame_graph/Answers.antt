use Rattle.signal_graph.specs.Flat.{view}
use Rattle.rate_unfold.specs.Frames.{rates}
use Rattle.frame_command.proofs.FrameGraphs.{keeps_frame_rows}
use Rattle.frame_command.proofs.planning.frame_graph.Goals as goal

pub returns-in-Ok-clause-graph : goal.returns-in-Ok-clause-graph
returns-in-Ok-clause-graph c = record {
  fits = c.in_ok-unfolded.ensures.clear;
  unfolded = view c.in_ok-unfolded.unfolded;
  unfolded_of = c.in_ok-unfolded.ensures.unfolded;
  graph = c.in-Ok.ensures.graph;
}

pub returns-in-Ok-clause-keeps : goal.returns-in-Ok-clause-keeps
returns-in-Ok-clause-keeps c =
    keeps_frame_rows (rates c.args.phases c.args.down.now c.args.up.now) (view c.args.flat.now)
    (view c.in_ok-unfolded.unfolded) c.in-Ok.graph c.in_ok-unfolded.ensures.unfolded.inputs
    c.in_ok-unfolded.ensures.keeps c.in-Ok.ensures.keeps
