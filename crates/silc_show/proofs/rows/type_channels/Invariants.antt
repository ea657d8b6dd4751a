use Rattle.std.proofs.Common.{◌≡◌, map, take}
use Rattle.std.specs.List.{All}
use Rattle.sample_io.specs.Channels.{IsChannel}
use Rattle.sample_loops.specs.Evaluators.{type_channel}
use Rattle.silc_show.proofs.rows.type_channels.Given as goal

abbrev pub invariant-loop-ty : goal.invariant-loop-ty
invariant-loop-ty l = record {
  channels : l.channels ≡ map type_channel (take l.ty-index l.types);
  each : All IsChannel l.channels;
}
