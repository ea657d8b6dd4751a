use Rattle.std.proofs.Common.{◌≡◌, replicate}
use Rattle.loop_expand.proofs.values.repeated.Given as goal

abbrev pub invariant-loop : goal.invariant-loop
invariant-loop l = l.row.items ≡ replicate l.counter l.value
