-- A status tells one fault of a stream.
use Rattle.std.proofs.Common.{sym, ◌∙◌}
use Rattle.sample_commands.proofs.Keeping.{done_keeps, told_keeps}
use Rattle.stage_commands.proofs.samples.pipe_samples.Goals as goal

pub returns-in-Ok-clause-kept : goal.returns-in-Ok-clause-kept
returns-in-Ok-clause-kept g c = λ fault e. done_keeps c.run_guarded.new.rows fault e

pub returns-in-Err-clause-kept : goal.returns-in-Err-clause-kept
returns-in-Err-clause-kept g c =
    λ fault e.
    told_keeps c.run_guarded.new.rows c.in-Err.fault fault (sym c.stream_status.ensures ∙ e) c.in-Err.ensures.kept
