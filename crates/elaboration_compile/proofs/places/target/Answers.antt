use Rattle.std.proofs.Common.{◌∙◌, ◌++◌, map, length, List, subst, sym, ap}
use Rattle.silage_syntax.specs.Tree.{view_manifest}
use Rattle.elaboration_code.specs.declared.actions.Subscript.{Subscript}
use Rattle.elaboration_code.specs.ItemActions.{subscripts}
use Rattle.elaboration_code.specs.Private.Strides.{AreStrided}
use Rattle.elaboration_compile.proofs.Strides.{subscripts_strided}
use Rattle.elaboration_compile.proofs.places.target.Goals as goal

pub invariant_of-result : goal.invariant_of-result
invariant_of-result c =
    let dims = c.args.dims.now in
    let subs = map view_manifest c.deref.result.now in
    let made =
    c.in_ok-push_subscripts.ensures
    ∙ ap (λ (front : List Subscript). front ++ subscripts c.args.loops.now dims subs) c.new-subs.ensures in
    let each = c.requires.each ∙ ap (λ subs. length (map view_manifest subs)) (sym c.deref.ensures) in
    record { strided = subst AreStrided (sym made) (subscripts_strided c.args.loops.now dims subs each) }
