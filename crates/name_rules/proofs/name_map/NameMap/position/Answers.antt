-- The set finds the first place of a name.
use Rattle.std.proofs.Common.{ap, ◌∙◌}
use Rattle.std.specs.Prelude.{position, bytes_eq}
use Rattle.name_rules.proofs.FirstPlaces.{answered}
use Rattle.name_rules.proofs.name_map.NameMap.position.Goals as goal

pub returns-in_err-position : goal.returns-in_err-position
returns-in_err-position c =
    let a =
    answered _ _ _
    (c.from_residual.ensures ∙ c.in_err-position.ensures
    ∙ ap (position (bytes_eq c.args.name.now)) c.self.view_is) in
    record { some = a.some; none = a.none }

pub returns : goal.returns
returns c =
    let a = answered _ _ _ (c.in_ok-position.ensures ∙ ap (position (bytes_eq c.args.name.now)) c.self.view_is) in
    record { some = a.some; none = a.none }
