use Rattle.std.proofs.Common.{take, ◌++◌, ◌∷◌, []}
use Rattle.std.specs.List.{flat_map}
use Rattle.silage_lex.specs.declared.punctuation.TheConstants as punctuation
use Rattle.silage_syntax.specs.Tree.{view_item}
use Rattle.silage_print.specs.Text.{symbol, clause_text}
use Rattle.silage_print.specs.Private.Puts.{Puts}
use Rattle.silage_print.proofs.print_items.+items.Given as goal

abbrev pub invariant-put_items-loop-item : goal.invariant-put_items-loop-item
invariant-put_items-loop-item l =
    Puts l.fn.out
    (flat_map (λ x. clause_text (view_item x) ++ symbol punctuation.SEMICOLON ∷ []) (take l.item-index l.items)) l.out
