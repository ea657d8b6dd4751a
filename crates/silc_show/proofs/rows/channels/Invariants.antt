use Rattle.std.specs.List.{All}
use Rattle.sample_io.specs.Channels.{IsChannel}
use Rattle.silc_show.proofs.rows.channels.Given as goal

abbrev pub invariant-loop-word : goal.invariant-loop-word
invariant-loop-word l = All IsChannel l.channels
