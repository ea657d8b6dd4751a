use Rattle.std.proofs.Common.{◌≡◌, ◌-◌, length}
use Rattle.micro_file.specs.Private.PackedWords.{most_takes, takes_at}
use Rattle.micro_file.proofs.bit_words.read_port_takes.Given as goal

abbrev pub invariant-loop-takes : goal.invariant-loop-takes
invariant-loop-takes l =
    takes_at l.image l.port l.size (most_takes - length l.takes) l.takes l.reader
    ≡ takes_at l.image l.port l.size (most_takes - length l.fn.takes) l.fn.takes l.fn.reader

abbrev pub decreases-loop-takes : goal.decreases-loop-takes
decreases-loop-takes l = most_takes - length l.takes
