use Rattle.std.proofs.Common.{◌≡◌, ◌++◌, drop}
use Rattle.micro_bits.specs.Private.Placed.{placed_issues}
use Rattle.micro_bits.proofs.encoder.put_issues.Given as goal

abbrev pub invariant-loop-issue : goal.invariant-loop-issue
invariant-loop-issue l =
    l.out ++ placed_issues l.units l.next (drop l.issue-index l.issue-items)
    ≡ l.fn.out ++ placed_issues l.units 0 l.issues
