use Rattle.std.proofs.Common.{◌≡◌, ◌∙◌, ℕ, length, ap, arith}
use Rattle.std.proofs.lemmas.Grind.{common_steps}
use Rattle.silage_syntax.specs.declared.tree.Decl.{Decl}
use Rattle.silage_syntax.specs.Tree.{view_place}
use Rattle.elaboration_compile.specs.Private.Scopes.{function_of, located_in}
use Rattle.elaboration_compile.proofs.KnownNames.{some_there, each_dim, target_actions}
use Rattle.elaboration_compile.proofs.places.put_target.Goals as goal

pub located-first-requires : goal.located-first-requires
located-first-requires c =
    some_there (λ (q : ℕ × Decl). length q.1.dims ≡ length (view_place c.args.place.now).subs)
    (located_in c.args.scope.now c.args.place.now.name) c.requires.element

pub target-requires-clause-each : goal.target-requires-clause-each
target-requires-clause-each c =
    let each =
    each_dim (function_of c.args.scope.now) (view_place c.args.place.now) c.located-first.result.0
    c.located-first.result.1.now c.requires.element c.located-first.ensures.signal in
    ap length c.deref.ensures ∙ each

pub returns : goal.returns
returns c =
    rw (target_actions (function_of c.args.scope.now) c.args.loops.now (view_place c.args.place.now)
    c.located-first.result.0 c.located-first.result.1.now c.requires.element c.located-first.ensures.signal)
    (grind (arith, common_steps))
