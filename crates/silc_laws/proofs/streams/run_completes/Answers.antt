use Rattle.std.proofs.Common.{subst, Some, None}
use Rattle.cycle_sim.specs.Machine.{state_of}
use Rattle.cycle_sim.specs.Microcode.{micro_of, inputs_of}
use Rattle.sample_io.specs.Channels.{AreChannels}
use Rattle.sample_loops.specs.Machines.{channels_of}
use Rattle.silc_laws.proofs.Inputs.{run_law}
use Rattle.silc_laws.proofs.streams.run_completes.Goals as goal

pub returns-clause-completes : goal.returns-clause-completes
returns-clause-completes g c = λ cycles bytes stands reads runs.
    let machine = c.args.machine.now in
    run_law c.args.limit (micro_of machine.code) (channels_of (inputs_of machine.code)) (state_of machine)
    (state_of c.run_samples.new.machine) cycles (g.D.Desk.view c.args.desk.now)
    (g.D.Desk.view c.run_samples.new.desk) bytes stands reads
    (subst AreChannels c.requires.channels c.requires.fresh.sound)
    c.run_samples.result c.run_samples.ensures.ends None runs

pub returns-clause-stops : goal.returns-clause-stops
returns-clause-stops g c = λ cycles bytes stands reads fault stops.
    let machine = c.args.machine.now in
    run_law c.args.limit (micro_of machine.code) (channels_of (inputs_of machine.code)) (state_of machine)
    (state_of c.run_samples.new.machine) cycles (g.D.Desk.view c.args.desk.now)
    (g.D.Desk.view c.run_samples.new.desk) bytes stands reads
    (subst AreChannels c.requires.channels c.requires.fresh.sound)
    c.run_samples.result c.run_samples.ensures.ends (Some fault) stops
