-- The heads are compared with the vertex, one after another.
use Rattle.std.proofs.Common.{◌∙◌, sym, refl}
use Rattle.std.proofs.lemmas.List.Elements.{Contains-get_or}
use Rattle.digraph.proofs.WalkEnds.{none_head, one_head, one_more_head, no_heads}
use Rattle.digraph.proofs.cycles.is_cyclic.Goals as goal

pub bounds-marks-head : goal.bounds-marks-head
bounds-marks-head c =
    c.requires.heads _ (Contains-get_or c.args.heads.now c.loop-head.head-index 0 c.loop-head-test.true)

pub loop-head-init : goal.loop-head-init
loop-head-init c = none_head c.args.marks.now c.args.vertex

pub returns-then-eq : goal.returns-then-eq
returns-then-eq c = (
  λ sure.
      one_head c.args.marks.now c.args.vertex c.loop-head.head-index c.args.heads.now c.component.result
      c.component-own.result c.loop-head-test.true c.component.ensures c.component-own.ensures
      (sym c.eq.ensures ∙ c.if-eq.true),
  λ arcs. refl,
)

pub loop-head-preserved : goal.loop-head-preserved
loop-head-preserved c =
    one_more_head c.args.marks.now c.args.vertex c.loop-head.head-index c.args.heads.now c.component.result
    c.component-own.result c.loop-head-test.true c.component.ensures c.component-own.ensures
    (sym c.eq.ensures ∙ c.if-eq.false) c.loop-head.invariant

pub returns : goal.returns
returns c = (
  λ t. absurd (cc),
  λ arcs.
      absurd (no_heads c.args.marks.now c.args.vertex c.loop-head.head-index c.args.heads.now c.loop-head-test.false
      c.loop-head.invariant arcs),
)
