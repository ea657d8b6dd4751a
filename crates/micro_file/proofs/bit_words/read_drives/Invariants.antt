use Rattle.std.proofs.Common.{◌≡◌, ◌-◌, ◌≤◌, [], length, drop}
use Rattle.micro_file.specs.Private.WordFlags.{on_at, over_at}
use Rattle.micro_file.proofs.bit_words.read_drives.Given as goal

abbrev pub invariant-loop-k : goal.invariant-loop-k
invariant-loop-k l =
    (l.k ≤ length l.drives)
    × (over_at on_at l.enables (drop l.k l.drives) l.reader
    ≡ over_at on_at [] l.drives l.fn.reader)

abbrev pub decreases-loop-k : goal.decreases-loop-k
decreases-loop-k l = length l.drives - l.k
