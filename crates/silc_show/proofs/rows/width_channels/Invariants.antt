use Rattle.std.proofs.Common.{◌≡◌, map, take}
use Rattle.std.specs.List.{All}
use Rattle.sample_io.specs.Channels.{IsChannel, channel_of}
use Rattle.silc_show.proofs.rows.width_channels.Given as goal

abbrev pub invariant-loop-width : goal.invariant-loop-width
invariant-loop-width l = record {
  channels : l.channels ≡ map channel_of (take l.width-index l.widths);
  each : All IsChannel l.channels;
}
