use Rattle.std.proofs.Common.{◌≡◌, ◌++◌, drop}
use Rattle.micro_bits.specs.Private.Placed.{placed_takes}
use Rattle.micro_bits.proofs.encoder.put_takes.Given as goal

abbrev pub invariant-loop-take : goal.invariant-loop-take
invariant-loop-take l =
    l.out ++ placed_takes l.starts l.files l.next (drop l.take-index l.take-items)
    ≡ l.fn.out ++ placed_takes l.starts l.files 0 l.takes
