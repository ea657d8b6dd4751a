use Rattle.std.proofs.Common.{◌∙◌, ap, sym, subst, length, List, arith}
use Rattle.std.specs.List.{All}
use Rattle.std.proofs.lemmas.List.FromFn.{length-map-range_with_len}
use Rattle.net_fit.specs.Joints.{net_type, word_width}
use Rattle.sample_io.specs.Channels.{IsChannel, channel_of}
use Rattle.sample_io.specs.declared.channel.Channel.{Channel}
use Rattle.net_command.proofs.samples.read_stream.Goals as goal

pub read_samples-requires-clause-width : goal.read_samples-requires-clause-width
read_samples-requires-clause-width g c =
    sym
    (ap length (c.as_slice.ensures ∙ c.in_ok-channels.ensures.channels)
    ∙ length-map-range_with_len
    (λ j. channel_of (word_width (net_type j c.args.file.now.procs c.args.ports.now))) 0 c.args.file.now.inputs)

pub read_samples-requires-clause-channels : goal.read_samples-requires-clause-channels
read_samples-requires-clause-channels g c =
    let wide = read_samples-requires-clause-width g c in
    record {
      some = omega (arith, wide, c.requires.file.inputs.0);
      few = omega (arith, wide, c.requires.file.inputs.1);
      each = subst (λ (cs : List Channel). All IsChannel cs) (sym c.as_slice.ensures) c.in_ok-channels.ensures.each;
    }
