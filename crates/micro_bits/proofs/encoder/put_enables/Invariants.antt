use Rattle.std.proofs.Common.{◌≡◌, ◌++◌, drop}
use Rattle.micro_bits.specs.Private.Placed.{placed_enables}
use Rattle.micro_bits.proofs.encoder.put_enables.Given as goal

abbrev pub invariant-loop-enable : goal.invariant-loop-enable
invariant-loop-enable l =
    l.out ++ placed_enables l.buses l.flags l.next (drop l.enable-index l.enable-items)
    ≡ l.fn.out ++ placed_enables l.buses l.flags 0 l.enables
