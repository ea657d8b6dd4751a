use Rattle.std.proofs.Common.{inr}
use Rattle.sample_commands.proofs.Opening.{streams_only}
use Rattle.sample_commands.proofs.Simulating.{fresh_ready, fresh_young}
use Rattle.stage_commands.proofs.samples.pipe_files.Goals as goal

pub pipe_samples-requires-clause-ready : goal.pipe_samples-requires-clause-ready
pipe_samples-requires-clause-ready g c = fresh_ready c.args.machine.now c.requires.fresh

pub pipe_samples-requires-clause-young : goal.pipe_samples-requires-clause-young
pipe_samples-requires-clause-young g c = fresh_young c.args.machine.now c.requires.fresh

pub returns-in-Ok-clause-only : goal.returns-in-Ok-clause-only
returns-in-Ok-clause-only g c =
    streams_only c.args.samples.now c.args.output.now (g.D.Desk.view c.args.desk.now)
    (g.D.Desk.view c.open_files.new.desk) (g.D.Desk.view c.pipe_samples.new.desk)
    c.in-Ok.ensures.ok c.in-Ok.ensures.only c.pipe_samples.ensures.only

pub returns-in-Ok-clause-over : goal.returns-in-Ok-clause-over
returns-in-Ok-clause-over g c = inr (record {
  code = c.pipe_samples.ensures.code;
  mid = g.D.Desk.view c.open_files.new.desk;
  never_fall = c.in-Ok.ensures.never_fall;
  opened = c.in-Ok.ensures.ok;
  only = c.pipe_samples.ensures.only;
  ends = c.pipe_samples.ensures.ends;
})
