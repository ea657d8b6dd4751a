use Rattle.std.proofs.Common.{ap, ◌∙◌, arith, map}
use Rattle.fault_order.specs.Private.FirstMet.{first}
use Rattle.fault_order.proofs.TableFaults.{next_fails, next_passes}
use Rattle.silage_syntax.specs.Tree.{view_place, view_manifest}
use Rattle.name_rules.specs.Meanings.{takes}
use Rattle.name_rules.specs.NameRules.{target_rules, taking_rules}
use Rattle.name_check.specs.Private.Views.{context_of}
use Rattle.name_check.proofs.calls.check_places.Goals as goal

pub returns-in_err-check_taking : goal.returns-in_err-check_taking
returns-in_err-check_taking c =
    let context = context_of c.args.context.now in
    let x = c.index-places-i.result in
    next_fails (taking_rules context c.args.results.now) view_place c.args.places.now c.loop-i.i x (omega arith)
    c.index-places-i.is _ _ _ c.loop-i.invariant
    (c.in_err-check_taking.ensures
    ∙ ap (λ o. first (target_rules context (takes o (map view_manifest x.subs)) (view_place x))) c.decl_at.ensures)
    c.from_residual.ensures.1

pub loop-i-preserved : goal.loop-i-preserved
loop-i-preserved c =
    let context = context_of c.args.context.now in
    let x = c.index-places-i.result in
    next_passes (taking_rules context c.args.results.now) view_place c.args.places.now c.loop-i.i x (omega arith)
    c.index-places-i.is _ c.loop-i.invariant
    (c.in_ok-check_taking.ensures
    ∙ ap (λ o. first (target_rules context (takes o (map view_manifest x.subs)) (view_place x))) c.decl_at.ensures)
