use Rattle.std.proofs.Common.{take}
use Rattle.std.specs.List.{flat_map}
use Rattle.silage_syntax.specs.Tree.{view_manifest}
use Rattle.silage_print.specs.Text.{subscript_text}
use Rattle.silage_print.specs.Private.Puts.{Puts}
use Rattle.silage_print.proofs.print_exprs.put_subs.Given as goal

abbrev pub invariant-loop-sub : goal.invariant-loop-sub
invariant-loop-sub l = Puts l.fn.out (flat_map (λ m. subscript_text (view_manifest m)) (take l.sub-index l.subs)) l.out
