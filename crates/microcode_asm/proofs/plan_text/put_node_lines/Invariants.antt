use Rattle.std.proofs.Common.{◌≡◌, ◌++◌}
use Rattle.std.specs.List.{flat_map, range_with_len}
use Rattle.microcode_asm.specs.Printable.{node_line}
use Rattle.microcode_asm.proofs.plan_text.put_node_lines.Given as goal

abbrev pub invariant-loop-v : goal.invariant-loop-v
invariant-loop-v l = l.out ≡ l.fn.out ++ flat_map (node_line l.printed) (range_with_len 0 l.v)
