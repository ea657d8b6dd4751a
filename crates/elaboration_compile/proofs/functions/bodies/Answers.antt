use Rattle.std.proofs.Common.{◌≡◌, ◌∙◌, arith, ap, map, take, length, get_or}
use Rattle.std.proofs.lemmas.Grind.{common_steps}
use Rattle.silage_syntax.specs.Tree.{view, view_top}
use Rattle.name_rules.proofs.FirstPlaces.{top_stands}
use Rattle.element_rules.specs.Sizes.{top_is_sized}
use Rattle.elaboration_code.specs.ItemActions.{top_body}
use Rattle.elaboration_compile.specs.Private.Names.{HasTopNames}
use Rattle.elaboration_compile.proofs.KnownNames.{all_at, names_known}
use Rattle.elaboration_code.proofs.ActionRows.{map_of_map}
use Rattle.lists.proofs.Each.{all_pass}
use Rattle.element_rules.proofs.SomeElements.{has_result}
use Rattle.element_rules.proofs.SoundNames.{all_sized}
use Rattle.elaboration_compile.proofs.functions.bodies.Goals as goal

pub top_body-requires-clause-sized : goal.top_body-requires-clause-sized
top_body-requires-clause-sized c =
    all_pass top_is_sized (view c.args.tops.now.program.now).tops c.loop-top.top-index (view_top c.top-item.result)
    (all_sized (view c.args.tops.now.program.now) c.requires.clear)
    (top_stands c.args.tops.now.program.now.tops c.loop-top.top-index c.top-item.result
    (omega (arith, ap length c.as_slice-top-items.ensures))
    (c.top-item.is ∙ ap (λ tops. get_or tops c.loop-top.top-index c.top-item.result) c.as_slice-top-items.ensures))

pub top_body-requires-clause-result : goal.top_body-requires-clause-result
top_body-requires-clause-result c =
    has_result (view c.args.tops.now.program.now) c.requires.results c.loop-top.top-index (view_top c.top-item.result)
    (top_stands c.args.tops.now.program.now.tops c.loop-top.top-index c.top-item.result
    (omega (arith, ap length c.as_slice-top-items.ensures))
    (c.top-item.is ∙ ap (λ tops. get_or tops c.loop-top.top-index c.top-item.result) c.as_slice-top-items.ensures))

pub top_body-requires-clause-names : goal.top_body-requires-clause-names
top_body-requires-clause-names c =
    let p = view c.args.tops.now.program.now in
    all_at (HasTopNames p) p.tops c.loop-top.top-index (view_top c.top-item.result) (names_known p c.requires.clear)
    (top_stands c.args.tops.now.program.now.tops c.loop-top.top-index c.top-item.result
    (omega (arith, ap length c.as_slice-top-items.ensures))
    (c.top-item.is ∙ ap (λ tops. get_or tops c.loop-top.top-index c.top-item.result) c.as_slice-top-items.ensures))

pub returns : goal.returns
returns c =
    let p = view c.args.tops.now.program.now in
    let tops = c.args.tops.now.program.now.tops in
    let all : take c.loop-top.top-index tops ≡ tops = grind (arith, common_steps) in
    c.loop-top.invariant ∙ ap (map (λ t. top_body p (view_top t))) all ∙ map_of_map (top_body p) view_top tops
