use Rattle.std.proofs.Common.{◌≡◌, ◌++◌, replicate}
use Rattle.loop_expand.proofs.elements.put_type.Given as goal

abbrev pub invariant-loop : goal.invariant-loop
invariant-loop l = l.types ≡ l.fn.types ++ replicate l.counter l.ty
