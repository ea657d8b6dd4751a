use Rattle.std.proofs.Common.{take}
use Rattle.silage_print.specs.Text.{dims_text}
use Rattle.silage_print.specs.Private.Puts.{Puts}
use Rattle.silage_print.proofs.print_types.put_dims.Given as goal

abbrev pub invariant-loop-dim : goal.invariant-loop-dim
invariant-loop-dim l = Puts l.fn.out (dims_text (take l.dim-index l.dim-items)) l.out
