use Rattle.std.proofs.Common.{◌∙◌, sym, ap}
use Rattle.std.specs.Option.{option_copied}
use Rattle.front_end.proofs.TokenLines.{line_of_token}
use Rattle.front_end.proofs.lines.token_line.Goals as goal

pub returns-in-Some : goal.returns-in-Some
returns-in-Some c =
    c.from.ensures
    ∙ line_of_token c.args.source.now c.args.tokens.now c.requires.tokens c.args.token c.in-Some.token.now
    (sym c.get.ensures ∙ ap option_copied c.in-Some.is)
