use Rattle.std.proofs.Common.{◌≡◌, ◌++◌, take}
use Rattle.std.specs.List.{flat_map}
use Rattle.microcode_asm.specs.Listing.{issue_line}
use Rattle.microcode_asm.proofs.word_lines.put_issues.Given as goal

abbrev pub invariant-loop-issue : goal.invariant-loop-issue
invariant-loop-issue l = l.out ≡ l.fn.out ++ flat_map issue_line (take l.issue-index l.issues)
