use Rattle.std.proofs.Common.{◌≡◌}
use Rattle.cycle_sim.specs.Microcode.{inputs_of}
use Rattle.silc_show.specs.Trace.{IsInputRow, IsRunAt}
use Rattle.silc_show.proofs.trace.Run.put_sample.Given as goal

abbrev pub invariant-loop-phase : goal.invariant-loop-phase
invariant-loop-phase l = record {
  run : IsRunAt l.self.order l.self.machine l.self.cycle;
  row : IsInputRow (inputs_of l.self.machine.code) l.row;
  code : l.self.machine.code ≡ l.fn.self.machine.code;
}
