-- The loop over an engine, at an evaluator.
use Rattle.std.proofs.Common.{subst, List}
use Rattle.sample_io.specs.declared.channel.Channel.{Channel}
use Rattle.sample_io.specs.Channels.{IsRow}
use Rattle.sample_loops.proofs.evaluator.eval_stream.Goals as goal

pub run_all-requires-clause-fits : goal.run_all-requires-clause-fits
run_all-requires-clause-fits g c = λ row is.
    subst (λ (channels : List Channel). IsRow channels row) c.requires.channels is
