use Rattle.std.proofs.Common.{take}
use Rattle.std.specs.List.{flat_map}
use Rattle.silage_print.specs.Text.{after_comma, lit_text}
use Rattle.silage_print.specs.Private.Puts.{Puts}
use Rattle.silage_print.proofs.print_types.put_other_lits.Given as goal

abbrev pub invariant-loop-lit : goal.invariant-loop-lit
invariant-loop-lit l = Puts l.fn.out (flat_map (after_comma lit_text) (take l.lit-index l.lits)) l.out
