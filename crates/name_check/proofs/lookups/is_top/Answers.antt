use Rattle.std.proofs.Common.{◌∙◌}
use Rattle.name_rules.proofs.FoundNames.{is_there}
use Rattle.name_check.proofs.lookups.is_top.Goals as goal

pub returns : goal.returns
returns c =
    c.is_some.ensures
    ∙ is_there c.args.tops.now c.args.name.now c.position.result c.position.ensures.some c.position.ensures.none
