-- A vertex that is met is active, a group of its own, and its arcs are pending.
use Rattle.std.proofs.Common.{◌≡◌, ℕ, ◌++◌, ◌∷◌, [], List, Some, length, ap, ap₂, ◌∙◌, refl, arith}
use Rattle.std.specs.Prelude.{slice_get, is_ok, if◌then◌else◌}
use Rattle.std.proofs.Math.ListN.{set}
use Rattle.std.proofs.lemmas.Option.{slice_get_within, slice_get_read}
use Rattle.digraph.specs.Private.Walk.{state_of}
use Rattle.digraph.specs.declared.walk.Group.{Group}
use Rattle.digraph.specs.declared.walk.Mark.TheVariants.{New, Active}
use Rattle.digraph.proofs.WalkSteps.{meets_if_ok, met_if_ok}
use Rattle.digraph.proofs.walk.Walk.meet.Goals as goal

pub returns-clause-walk : goal.returns-clause-walk
returns-clause-walk c =
    let inside = slice_get_within c.args.self.now.marks.items c.args.vertex New c.requires.new in
    let stands : slice_get c.args.arcs.now c.args.vertex ≡ Some c.index-arcs-vertex.result =
    slice_get_read c.args.arcs.now (length c.args.arcs.now) c.args.vertex c.index-arcs-vertex.result refl
    (let size = c.requires.walk.size in omega arith) c.index-arcs-vertex.is in
    let with_group : ℕ → ℕ → List Group = λ a p.
    c.args.self.now.groups.items ++ record { active = a; pending = p } ∷ [] in
    meets_if_ok c.args.arcs.now (state_of c.args.self.now)
    (set c.args.self.now.marks.items c.args.vertex (Active c.len-3.result)) c.push-2.new.self.items
    c.extend_from_slice.new.self.items c.push.new.self.items c.args.vertex c.index-arcs-vertex.result
    c.extend_from_slice.result
    stands c.requires.walk c.requires.due c.requires.new
    (ap (λ n. set c.args.self.now.marks.items c.args.vertex (Active n)) (omega arith)) c.in_ok-push-2.ensures.items
    (c.extend_from_slice.ensures.items
    ∙ ap (λ xs.
    if is_ok c.extend_from_slice.result
    then c.args.self.now.pending.items ++ xs
    else c.args.self.now.pending.items)
    c.deref.ensures)
    (c.in_ok-push.ensures.items ∙ ap₂ with_group (omega arith) (omega arith))

pub returns-clause-met : goal.returns-clause-met
returns-clause-met c =
    met_if_ok c.args.arcs.now (state_of c.args.self.now)
    (set c.args.self.now.marks.items c.args.vertex (Active c.len-3.result)) c.args.vertex c.len-3.result
    c.extend_from_slice.result c.requires.new refl
