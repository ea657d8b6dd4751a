use Rattle.std.proofs.Common.{inr}
use Rattle.sample_commands.proofs.Opening.{streams_only}
use Rattle.sample_commands.proofs.evaluator.eval_ready.Goals as goal

pub returns-in-Ok-clause-only : goal.returns-in-Ok-clause-only
returns-in-Ok-clause-only g c =
    streams_only c.args.samples.now c.args.output.now (g.D.Desk.view c.args.desk.now)
    (g.D.Desk.view c.open_files.new.desk) (g.D.Desk.view c.eval_samples.new.desk)
    c.in-Ok.ensures.ok c.in-Ok.ensures.only c.eval_samples.ensures.only

pub returns-in-Ok-clause-over : goal.returns-in-Ok-clause-over
returns-in-Ok-clause-over g c = inr (record {
  mid = g.D.Desk.view c.open_files.new.desk;
  after = c.eval_samples.new.evaluator;
  never_fall = c.in-Ok.ensures.never_fall;
  opened = c.in-Ok.ensures.ok;
  only = c.eval_samples.ensures.only;
  ends = c.eval_samples.ensures.ends;
})
