use Rattle.std.proofs.Common.{◌≡◌, ℕ, length}
use Rattle.silage_syntax.specs.declared.tree.Decl.{Decl}
use Rattle.silage_syntax.specs.Tree.{view_place}
use Rattle.elaboration_compile.specs.Private.Scopes.{located_in}
use Rattle.elaboration_compile.proofs.KnownNames.{some_there}
use Rattle.elaboration_compile.proofs.items.put_initial.Goals as goal

pub located-first-requires : goal.located-first-requires
located-first-requires c =
    some_there (λ (q : ℕ × Decl). length q.1.dims ≡ length (view_place c.args.place.now).subs)
    (located_in c.args.scope.now c.args.place.now.name) c.requires.element
