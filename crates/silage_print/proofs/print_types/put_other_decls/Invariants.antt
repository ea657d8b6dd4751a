use Rattle.std.proofs.Common.{take}
use Rattle.std.specs.List.{flat_map}
use Rattle.silage_print.specs.Text.{after_comma, decl_text}
use Rattle.silage_print.specs.Private.Puts.{Puts}
use Rattle.silage_print.proofs.print_types.put_other_decls.Given as goal

abbrev pub invariant-loop-decl : goal.invariant-loop-decl
invariant-loop-decl l = Puts l.fn.out (flat_map (after_comma decl_text) (take l.decl-index l.decls)) l.out
