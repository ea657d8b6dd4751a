use Rattle.std.proofs.Common.{rules, ◌≡◌, ◌^◌, ◌-◌}
use Rattle.fix_word.specs.Words.{rounding}
use Rattle.fix_word.proofs.Bodies.{rounding_half, scaled_round}
use Rattle.fix_word.proofs.words.shifted_down.Goals as goal

pub returns-in-Round-clause-value : goal.returns-in-Round-clause-value
returns-in-Round-clause-value c =
    let half : rounding c.args.mode (2 ^ (c.args.steps - 1)) ≡ 2 ^ (c.args.steps - 1) =
    rounding_half c.args.mode (2 ^ (c.args.steps - 1)) c.in-Round.is in
    scaled_round c.args.q _ c.args.steps c.args.mode c.requires.steps.0 half (search rules)
