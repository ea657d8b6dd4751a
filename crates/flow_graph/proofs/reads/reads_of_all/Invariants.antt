use Rattle.std.proofs.Common.{◌≡◌, map, take}
use Rattle.signal_graph.specs.Flat.{view_body}
use Rattle.flow_graph.specs.Private.ReadsNow.{body_reads_now}
use Rattle.flow_graph.proofs.reads.reads_of_all.Given as goal

abbrev pub invariant-loop-element : goal.invariant-loop-element
invariant-loop-element l = l.lists ≡ map (λ x. body_reads_now (view_body x.body)) (take l.element-index l.element-items)
