use Rattle.overlap_sim.proofs.stream.run_guarded.Goals as goal

pub returns-clause-ok : goal.returns-clause-ok
returns-clause-ok g c = rw (← c.machine.view_is) c.run_stream.ensures.ok

pub returns-clause-err : goal.returns-clause-err
returns-clause-err g c = rw (← c.machine.view_is) c.run_stream.ensures.err
