use Rattle.std.proofs.Common.{◌≡◌, ◌<◌, ◌+◌, ◌-◌, sym, subst, arith, length}
use Rattle.std.proofs.lemmas.List.{get_or_read}
use Rattle.delay_memory.specs.Private.Lines.{IsLongest}
use Rattle.delay_memory.proofs.LineSteps.{longest_last}
use Rattle.delay_memory.proofs.lines.longest.Goals as goal

pub returns-else-is_empty-clause-some : goal.returns-else-is_empty-clause-some
returns-else-is_empty-clause-some c =
    let long = c.args.delays.now in
    let some : 0 < length long = grind (arith, c.if-is_empty.ensures) in
    let n = c.len.result - 1 in
    let count : length long ≡ n + 1 = omega (arith, some, c.len.ensures) in
    subst (IsLongest long) (sym (get_or_read long n c.index.result.now (omega (arith, count)) c.index.ensures 0))
    (longest_last long n c.requires count)
