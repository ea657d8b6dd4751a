use Rattle.std.proofs.Common.{◌∙◌, ◌++◌, ◌∷◌, [], List, Option, option_map, map, take, sym, ap, subst}
use Rattle.std.specs.List.{All}
use Rattle.std.proofs.lemmas.List.Elements.{All-push}
use Rattle.elaboration_code.specs.declared.body.Body.{Body}
use Rattle.elaboration_run.specs.declared.function.Function.{Function}
use Rattle.elaboration_run.specs.Private.Functions.{IsTopLookedAt}
use Rattle.elaboration_run.proofs.IdleActions.{with_next, mapped_more}
use Rattle.elaboration_run.proofs.functions.functions.Goals as goal

pub loop-body-preserved : goal.loop-body-preserved
loop-body-preserved c =
    let body_of = λ (looked_at : Option Function). option_map (λ (f : Function). f.body.now) looked_at in
    let bodies = c.args.bodies.now in
    let i = c.loop-body.body-index in
    let old = c.loop-body.functions.items in
    let looked_at = c.in_ok-looked_at.looked_at in
    let items = c.in_ok-push.ensures.items in (
      ap (map body_of) items ∙ mapped_more body_of old looked_at
          ∙ ap (λ xs. xs ++ body_of looked_at ∷ []) c.loop-body.invariant.0
          ∙ ap (λ (b : Option Body). take i bodies ++ b ∷ []) c.in_ok-looked_at.ensures.body
          ∙ sym (with_next bodies i c.body-item.result c.loop-body-test.true c.body-item.is),
      subst (λ (fs : List (Option Function)). All IsTopLookedAt fs) (sym items)
          (All-push IsTopLookedAt old looked_at c.loop-body.invariant.1 c.in_ok-looked_at.ensures.looked),
    )
