use Rattle.std.proofs.Common.{take}
use Rattle.std.specs.List.{flat_map}
use Rattle.signal_graph.specs.Flat.{view_expr}
use Rattle.flow_graph.specs.Private.ReadsNow.{reads_now}
use Rattle.flow_graph.proofs.Adding.{Adds}
use Rattle.flow_graph.proofs.reads.+expressions.Given as goal

abbrev pub invariant-add_part_reads-loop-part : goal.invariant-add_part_reads-loop-part
invariant-add_part_reads-loop-part l =
    Adds l.fn.reads (flat_map (λ x. reads_now (view_expr x)) (take l.part-index l.parts)) l.reads
