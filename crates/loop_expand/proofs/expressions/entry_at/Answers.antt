use Rattle.std.proofs.Common.{ℕ, List, map, sym, ap₂, ◌∙◌, arith}
use Rattle.silage_syntax.specs.declared.tree.Manifest.{Manifest}
use Rattle.silage_syntax.specs.Tree.{view_manifest, view_place}
use Rattle.loop_expand.specs.Private.Facts.{offset}
use Rattle.loop_expand.proofs.Offsets.{offset_below}
use Rattle.loop_expand.proofs.expressions.entry_at.Goals as goal

pub word_at-requires : goal.word_at-requires
word_at-requires c =
    let t = c.table-table.result.now in
    let sized = c.args.scope.now.sized c.args.place.now.name t (sym c.table-table.ensures) in
    let (k, placed) = c.requires.placed t (sym c.table-table.ensures) in
    let below = offset_below c.args.env.now t.dims (view_place c.args.place.now).subs k placed in
    let place =
    c.offset.ensures
    ∙ ap₂ (λ (dims : List ℕ) (subs : List Manifest). offset c.args.env.now dims (map view_manifest subs))
    c.deref.ensures c.deref-2.ensures in
    omega (arith, sized.words, place, below)
