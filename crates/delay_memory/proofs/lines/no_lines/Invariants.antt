use Rattle.std.proofs.Common.{◌≡◌, replicate}
use Rattle.delay_memory.proofs.lines.no_lines.Given as goal

abbrev pub invariant-loop : goal.invariant-loop
invariant-loop l = l.used ≡ replicate l.counter 0
