use Rattle.std.proofs.Common.{take}
use Rattle.std.specs.List.{flat_map}
use Rattle.silage_syntax.specs.Tree.{view_expr}
use Rattle.silage_print.specs.Text.{after_comma, expr_text}
use Rattle.silage_print.specs.Private.Puts.{Puts}
use Rattle.silage_print.proofs.print_exprs.put_other_exprs.Given as goal

abbrev pub invariant-loop-e : goal.invariant-loop-e
invariant-loop-e l = Puts l.fn.out (flat_map (λ e. after_comma expr_text (view_expr e)) (take l.e-index l.exprs)) l.out
