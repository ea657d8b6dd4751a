use Rattle.std.proofs.Common.{◌≡◌, length}
use Rattle.cycle_sim.specs.Microcode.{inputs_of}
use Rattle.silc_show.proofs.repeat.clock_again.Given as goal

abbrev pub invariant-loop-turn : goal.invariant-loop-turn
invariant-loop-turn l = (l.machine.cycle ≡ l._turn) × (length l.row ≡ length (inputs_of l.machine.code))
