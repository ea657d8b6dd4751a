use Rattle.std.proofs.Common.{subst, Some, None}
use Rattle.sample_io.specs.Channels.{AreChannels}
use Rattle.silc_laws.proofs.Inputs.{evaluation_law}
use Rattle.silc_laws.proofs.streams.evaluation_completes.Goals as goal

pub returns-clause-completes : goal.returns-clause-completes
returns-clause-completes g c = λ bytes reads runs.
    evaluation_law c.args.limit c.args.evaluator.now c.eval_samples.new.evaluator (g.D.Desk.view c.args.desk.now)
    (g.D.Desk.view c.eval_samples.new.desk) bytes reads (subst AreChannels c.requires.channels c.requires.fresh.sound)
    c.eval_samples.result c.eval_samples.ensures.ends None runs

pub returns-clause-stops : goal.returns-clause-stops
returns-clause-stops g c = λ bytes reads fault stops.
    evaluation_law c.args.limit c.args.evaluator.now c.eval_samples.new.evaluator (g.D.Desk.view c.args.desk.now)
    (g.D.Desk.view c.eval_samples.new.desk) bytes reads (subst AreChannels c.requires.channels c.requires.fresh.sound)
    c.eval_samples.result c.eval_samples.ensures.ends (Some fault) stops
