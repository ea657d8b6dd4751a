use Rattle.std.proofs.Common.{take}
use Rattle.std.specs.List.{flat_map}
use Rattle.silage_syntax.specs.Tree.{view_place}
use Rattle.silage_print.specs.Text.{after_comma, place_text}
use Rattle.silage_print.specs.Private.Puts.{Puts}
use Rattle.silage_print.proofs.print_exprs.put_other_places.Given as goal

abbrev pub invariant-loop-place : goal.invariant-loop-place
invariant-loop-place l =
    Puts l.fn.out (flat_map (λ p. after_comma place_text (view_place p)) (take l.place-index l.places)) l.out
