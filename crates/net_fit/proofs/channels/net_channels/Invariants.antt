use Rattle.std.proofs.Common.{◌≡◌}
use Rattle.std.specs.List.{All}
use Rattle.net_fit.specs.Joints.{net_channels}
use Rattle.sample_io.specs.Channels.{IsChannel}
use Rattle.net_fit.proofs.channels.net_channels.Given as goal

-- the channels of the words so far
abbrev pub invariant-loop-word : goal.invariant-loop-word
invariant-loop-word l = (l.channels ≡ net_channels l.word l.net.procs l.ports) × All IsChannel l.channels
