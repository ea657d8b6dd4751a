use Rattle.std.proofs.Common.{◌≡◌}
use Rattle.silc_show.proofs.trace.bring.Given as goal

abbrev pub invariant-loop-other : goal.invariant-loop-other
invariant-loop-other l = l.order ≡ l.fn.order
