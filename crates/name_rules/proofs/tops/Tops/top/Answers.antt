use Rattle.std.proofs.Common.{ap, option_map, ◌∙◌}
use Rattle.std.specs.Option.{option_copied}
use Rattle.silage_syntax.specs.Tree.{view_top}
use Rattle.name_rules.proofs.FoundNames.{no_top, some_top}
use Rattle.name_rules.proofs.tops.Tops.top.Goals as goal

pub returns-in_err-position : goal.returns-in_err-position
returns-in_err-position c =
    let tops = c.args.self.now in
    ap (λ o. option_map view_top (option_copied o)) c.from_residual.ensures
    ∙ no_top tops.program.now.tops tops.names.now c.args.name.now tops.named c.in_err-position.ensures.some

pub returns : goal.returns
returns c =
    let tops = c.args.self.now in
    some_top tops.program.now.tops tops.names.now c.args.name.now tops.named c.in_ok-position.position
    (option_copied c.get.result) c.in_ok-position.ensures.some c.get.ensures
