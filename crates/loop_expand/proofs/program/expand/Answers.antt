use Rattle.std.proofs.Common.{◌≡◌, ◌∙◌, sym, subst, ap}
use Rattle.silage_syntax.specs.Tree.{Program}
use Rattle.element_rules.specs.declared.elements.Elements.{Elements}
use Rattle.type_rules.specs.declared.typed.Typed.{Typed}
use Rattle.type_rules.specs.Translation.{typed_program}
use Rattle.type_rules.specs.TypedTree.{Typed as Tree, view_typed}
use Rattle.signal_graph.specs.Flat as flat
use Rattle.loop_expand.specs.Expanded.{AreOf}
use Rattle.loop_expand.specs.FlatOf.{IsFlatOf}
use Rattle.loop_expand.specs.Private.Expansions.{flat_by}
use Rattle.loop_expand.proofs.Expanded.{expanded_keeps}
use Rattle.loop_expand.proofs.FlatMade.{is_flat_of}
use Rattle.loop_expand.proofs.SmallFlat.{flat_is_sound}
use Rattle.loop_expand.proofs.SoundFlat.{flat_loopless}
use Rattle.loop_expand.proofs.program.expand.Goals as goal

flat_of : (p : Program) (t : Typed) (es : Elements)
    → AreOf p t es
    → (f : flat.Program)
    → f ≡ flat_by (view_typed t) es.instances
    → IsFlatOf p es f
flat_of p t es of f made =
    let whole : f ≡ flat_by (typed_program p) es.instances =
    made ∙ ap (λ (u : Tree). flat_by u es.instances) of.program in
    subst (λ (g : flat.Program). IsFlatOf p es g) (sym whole) (is_flat_of p of.checked es of.elements)

pub returns-clause-flat : goal.returns-clause-flat
returns-clause-flat c = λ p of.
    flat_of p c.args.typed.now c.args.elements.now of (flat.view c.in_ok-flat_program.field-0)
    c.in_ok-flat_program.ensures

pub returns-clause-keeps : goal.returns-clause-keeps
returns-clause-keeps c = λ p stream of rows.
    expanded_keeps p of.checked c.args.elements.now of.elements (flat.view c.in_ok-flat_program.field-0)
    (flat_of p c.args.typed.now c.args.elements.now of (flat.view c.in_ok-flat_program.field-0)
    c.in_ok-flat_program.ensures) stream rows

pub returns-clause-loops : goal.returns-clause-loops
returns-clause-loops c = λ p of.
    flat_loopless p of.checked c.args.elements.now of.elements (flat.view c.in_ok-flat_program.field-0)
    (flat_of p c.args.typed.now c.args.elements.now of (flat.view c.in_ok-flat_program.field-0)
    c.in_ok-flat_program.ensures)

pub returns-clause-sound : goal.returns-clause-sound
returns-clause-sound c =
    let (p, of) = c.requires in
    flat_is_sound p of.checked c.args.elements.now of.elements (flat.view c.in_ok-flat_program.field-0)
    (flat_of p c.args.typed.now c.args.elements.now of (flat.view c.in_ok-flat_program.field-0)
    c.in_ok-flat_program.ensures)
