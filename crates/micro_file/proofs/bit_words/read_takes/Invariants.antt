use Rattle.std.proofs.Common.{◌≡◌, ◌-◌, ◌≤◌, [], length, drop}
use Rattle.micro_file.specs.Private.WordFlags.{into_at, over_at}
use Rattle.micro_file.proofs.bit_words.read_takes.Given as goal

abbrev pub invariant-loop-k : goal.invariant-loop-k
invariant-loop-k l =
    (l.k ≤ length l.files)
    × (over_at (into_at l.image) l.takes (drop l.k l.files) l.reader
    ≡ over_at (into_at l.image) [] l.files l.fn.reader)

abbrev pub decreases-loop-k : goal.decreases-loop-k
decreases-loop-k l = length l.files - l.k
