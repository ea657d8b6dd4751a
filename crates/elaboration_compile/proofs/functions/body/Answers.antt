use Rattle.std.proofs.Common.{◌∙◌, ap, arith}
use Rattle.silage_syntax.specs.Tree.{view_func}
use Rattle.element_rules.specs.ElementRules.{elements_of}
use Rattle.elaboration_code.specs.ItemActions.{capped}
use Rattle.element_rules.proofs.SomeElements.{some_elements}
use Rattle.elaboration_compile.proofs.functions.body.Goals as goal

pub small_body-requires-clause-some : goal.small_body-requires-clause-some
small_body-requires-clause-some c =
    let some = some_elements (view_func c.args.func.now) c.requires.sized c.requires.results in
    let given = c.capped_elements-given.ensures ∙ ap (λ ds. capped (elements_of ds)) c.deref.ensures in
    let results = c.capped_elements.ensures ∙ ap (λ ds. capped (elements_of ds)) c.deref-2.ensures in
    let locals = c.capped_elements-2.ensures ∙ ap (λ ds. capped (elements_of ds)) c.deref-3.ensures in
    omega (arith, some, given, results, locals, c.sum.ensures, c.sum-count.ensures)
