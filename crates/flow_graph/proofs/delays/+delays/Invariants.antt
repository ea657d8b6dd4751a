use Rattle.std.proofs.Common.{take}
use Rattle.signal_graph.specs.GraphOf.{parts_delay}
use Rattle.signal_graph.specs.Expressions.{view_exprs}
use Rattle.flow_graph.specs.Private.Delayed.{Marks}
use Rattle.flow_graph.proofs.delays.+delays.Given as goal

abbrev pub invariant-mark_part_reads-loop-part : goal.invariant-mark_part_reads-loop-part
invariant-mark_part_reads-loop-part l =
    Marks l.fn.delayed (λ e. parts_delay e (view_exprs (take l.part-index l.parts))) l.delayed
