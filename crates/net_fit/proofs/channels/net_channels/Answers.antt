use Rattle.std.proofs.Common.{◌∙◌, ◌++◌, ◌∷◌, [], ℕ, List, sym, ap, ap₂, subst, ◌≤◌, arith}
use Rattle.std.specs.List.{All}
use Rattle.std.proofs.lemmas.List.Elements.{All-push}
use Rattle.std.proofs.lemmas.List.FromFn.{map-range_with_len_more}
use Rattle.net_core.specs.declared.types.NetProc.{NetProc}
use Rattle.net_fit.specs.Joints.{net_type, word_width}
use Rattle.net_fit.proofs.Widths.{net_narrow}
use Rattle.sample_io.specs.Channels.{channel_of, IsChannel}
use Rattle.sample_io.specs.declared.channel.Channel.{Channel}
use Rattle.net_fit.proofs.channels.net_channels.Goals as goal

pub of-requires : goal.of-requires
of-requires c =
    subst (λ (n : ℕ). n ≤ 40) (sym (c.word_width.ensures ∙ ap word_width c.net_type-ty.ensures))
    (net_narrow c.loop-word.word c.as_slice.result.now c.args.ports.now c.requires.narrow)

pub loop-word-preserved : goal.loop-word-preserved
loop-word-preserved c =
    let word = c.loop-word.word in
    let procs = c.args.net.now.procs in
    let ports = c.args.ports.now in
    let width = c.word_width.ensures
    ∙ ap word_width (c.net_type-ty.ensures ∙ ap (λ (ps : List NetProc). net_type word ps ports) c.as_slice.ensures) in
    let pushed = c.in_ok-push.ensures.ok in (
      pushed
          ∙ ap₂ (λ (cs : List Channel) (channel : Channel). cs ++ channel ∷ []) c.loop-word.invariant.0
          (c.of.ensures.is ∙ ap channel_of width)
          ∙ sym (map-range_with_len_more (λ j. channel_of (word_width (net_type j procs ports))) 0 word word
          (omega arith)),
      subst (All IsChannel) (sym pushed)
          (All-push IsChannel c.loop-word.channels c.of.result c.loop-word.invariant.1 c.of.ensures.channel),
    )
