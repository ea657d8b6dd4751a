use Rattle.std.proofs.Common.{◌≡◌, ◌-◌, ◌≤◌, [], length}
use Rattle.micro_file.specs.Private.Fields.{each_at}
use Rattle.micro_file.specs.Private.PackedWords.{slot_at}
use Rattle.micro_file.proofs.bit_words.read_slots.Given as goal

abbrev pub invariant-loop-k : goal.invariant-loop-k
invariant-loop-k l =
    (l.k ≤ length l.image.units)
    × (each_at (slot_at l.image) l.issues l.k (length l.image.units - l.k) l.reader
    ≡ each_at (slot_at l.image) [] 0 (length l.image.units) l.fn.reader)

abbrev pub decreases-loop-k : goal.decreases-loop-k
decreases-loop-k l = length l.image.units - l.k
