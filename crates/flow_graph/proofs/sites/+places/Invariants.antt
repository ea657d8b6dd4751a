use Rattle.std.proofs.Common.{take}
use Rattle.signal_graph.specs.Expressions.{view_exprs}
use Rattle.flow_graph.proofs.SiteSteps.{PartsSoFar}
use Rattle.flow_graph.proofs.sites.+places.Given as goal

abbrev pub invariant-add_parts-loop-part : goal.invariant-add_parts-loop-part
invariant-add_parts-loop-part l =
    PartsSoFar l.fn.sites l.elem l.start (view_exprs (take l.part-index l.parts)) l.sites l.operands
