use Rattle.std.proofs.Common.{take}
use Rattle.std.specs.List.{flat_map}
use Rattle.silage_print.specs.Private.Puts.{Puts, arm_text}
use Rattle.silage_print.proofs.print_exprs.+exprs.Given as goal

abbrev pub invariant-put_arms-loop-arm : goal.invariant-put_arms-loop-arm
invariant-put_arms-loop-arm l = Puts l.fn.out (flat_map arm_text (take l.arm-index l.arms)) l.out
