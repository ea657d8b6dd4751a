use Rattle.std.proofs.Common.{take}
use Rattle.std.specs.List.{flat_map}
use Rattle.silage_syntax.specs.Tree.{view_top}
use Rattle.silage_print.specs.Text.{top_text}
use Rattle.silage_print.specs.Private.Puts.{Puts}
use Rattle.silage_print.proofs.printing.put_tops.Given as goal

abbrev pub invariant-loop-top : goal.invariant-loop-top
invariant-loop-top l = Puts l.fn.out (flat_map (λ top. top_text (view_top top)) (take l.top-index l.tops)) l.out
