use Rattle.cycle_sim.specs.Microcode.{inputs_of}
use Rattle.silc_show.specs.Trace.{AreInputRows, IsRunAt}
use Rattle.silc_show.proofs.trace.print_rows.Given as goal

abbrev pub invariant-loop-row : goal.invariant-loop-row
invariant-loop-row g l = record {
  run : IsRunAt l.run.order l.run.machine l.run.cycle;
  rows : AreInputRows (inputs_of l.run.machine.code) l.rows;
}
