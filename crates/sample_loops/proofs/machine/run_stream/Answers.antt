-- The loop over an engine, at a machine.
use Rattle.std.proofs.Common.{◌^◌, List, IfErr, OnOk, subst}
use Rattle.std.proofs.lemmas.Result.{on_ok_weaker}
use Rattle.cycle_sim.specs.Machine.{state_of}
use Rattle.cycle_sim.specs.Microcode.{micro_of}
use Rattle.sample_io.specs.declared.channel.Channel.{Channel}
use Rattle.sample_io.specs.Channels.{IsRow}
use Rattle.sample_loops.specs.Machines.{RunsRows, PutsRows, StopsInLast}
use Rattle.sample_loops.specs.Private.MachineLaws.{MachineRuns}
use Rattle.sample_loops.specs.Streams.{IsRunThrough, IsStopped}
use Rattle.sample_loops.proofs.Endings.{run_through_less}
use Rattle.sample_loops.proofs.SampleRuns.{samples_below}
use Rattle.sample_loops.proofs.machine.run_stream.Goals as goal

pub run_all-requires-clause-young : goal.run_all-requires-clause-young
run_all-requires-clause-young g c =
    samples_below c.args.machine.now.cycle (2 ^ 47) (micro_of c.args.machine.now.code).period c.requires.young

pub run_all-requires-clause-fits : goal.run_all-requires-clause-fits
run_all-requires-clause-fits g c = λ row is.
    subst (λ (channels : List Channel). IsRow channels row) c.requires.channels is

pub returns-clause-ok : goal.returns-clause-ok
returns-clause-ok g c =
    let machine = c.args.machine.now in
    let after = c.run_all.new.engine in
    let start = g.D.Desk.view c.args.desk.now in
    let end = g.D.Desk.view c.run_all.new.desk in
    subst (λ (channels : List Channel).
    OnOk c.run_all.result
    (IsRunThrough c.args.limit channels
    (λ ran puts. RunsRows (micro_of machine.code) (state_of machine) ran puts (state_of after)) start end))
    c.requires.channels
    (on_ok_weaker c.run_all.result
    (run_through_less c.args.limit c.args.rows.now.channels (λ ran puts. MachineRuns machine ran puts after)
    (λ ran puts. RunsRows (micro_of machine.code) (state_of machine) ran puts (state_of after)) start end
    (λ ran puts runs. runs.1))
    c.run_all.ensures.ok)

pub returns-clause-err : goal.returns-clause-err
returns-clause-err g c =
    let machine = c.args.machine.now in
    subst (λ (channels : List Channel).
    IfErr c.run_all.result (IsStopped c.args.limit channels (PutsRows (micro_of machine.code) (state_of machine))
    (λ ran conflict.
    StopsInLast (micro_of machine.code) (state_of machine) ran conflict (state_of c.run_all.new.engine))
    (g.D.Desk.view c.args.desk.now) (g.D.Desk.view c.run_all.new.desk)))
    c.requires.channels c.run_all.ensures.err
