use Rattle.std.proofs.Common.{ℕ, List, map, sym, ap₂, ◌∙◌, arith}
use Rattle.silage_syntax.specs.declared.tree.Manifest.{Manifest}
use Rattle.silage_syntax.specs.Tree.{view_manifest, view_place}
use Rattle.loop_expand.specs.Private.Facts.{offset}
use Rattle.loop_expand.specs.Private.Scopes.{view_signal}
use Rattle.loop_expand.proofs.FlatReads.{offset_is}
use Rattle.loop_expand.proofs.expressions.number_at.Goals as goal

pub overflow_add-result-in-Some : goal.overflow_add-result-in-Some
overflow_add-result-in-Some c =
    let s = view_signal c.in-Some.signal in
    let (k, placed, less) = c.requires s (sym c.in-Some.ensures) in
    let place =
    c.offset-offset.ensures
    ∙ ap₂ (λ (dims : List ℕ) (subs : List Manifest). offset c.args.env.now dims (map view_manifest subs))
    c.deref.ensures c.deref-in-Some.ensures
    ∙ offset_is c.args.env.now s.decl.dims (view_place c.args.place.now).subs k placed in
    omega (arith, less, place, c.args.scope.now.few)

pub returns-in-Some-clause-within : goal.returns-in-Some-clause-within
returns-in-Some-clause-within c =
    let s = view_signal c.in-Some.signal in
    let (k, placed, less) = c.requires s (sym c.in-Some.ensures) in
    let place =
    c.offset-offset.ensures
    ∙ ap₂ (λ (dims : List ℕ) (subs : List Manifest). offset c.args.env.now dims (map view_manifest subs))
    c.deref.ensures c.deref-in-Some.ensures
    ∙ offset_is c.args.env.now s.decl.dims (view_place c.args.place.now).subs k placed in
    omega (arith, less, place)
