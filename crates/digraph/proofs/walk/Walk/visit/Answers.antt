use Rattle.std.proofs.Common.{subst, sym, ◌∙◌}
use Rattle.digraph.specs.Private.Walk.{state_of}
use Rattle.digraph.proofs.WalkSteps.{is_due}
use Rattle.digraph.proofs.WalkEnds.{IsVisiting, new_is_read, no_last, visit_begins, visit_meets, visit_more, due_alone}
use Rattle.digraph.proofs.walk.Walk.visit.Goals as goal
use Rattle.digraph.proofs.walk.Walk.visit.Goals.{then-is_new+in_ok-meet, else-is_new}

pub meet-requires-clause-walk : goal.meet-requires-clause-walk
meet-requires-clause-walk c = is_due c.args.arcs.now (state_of c.args.self.now) c.args.vertex c.requires.walk

pub meet-requires-clause-due : goal.meet-requires-clause-due
meet-requires-clause-due c =
    due_alone c.args.arcs.now (state_of c.args.self.now) c.args.vertex c.requires.walk c.requires.idle

pub loop-group-init : goal.loop-group-init
loop-group-init c = elim c.if-is_new.branch [
  | then-is_new+in_ok-meet w ↦
      subst (λ x. IsVisiting c.args.arcs.now (state_of c.args.self.now) c.args.vertex (state_of x)) (sym w.self-is)
      (visit_meets c.args.arcs.now (state_of c.args.self.now) (state_of w.meet.new.self) c.args.vertex
      w.in_ok-meet.ensures.walk w.in_ok-meet.ensures.met)
  | else-is_new w ↦
      subst (λ x. IsVisiting c.args.arcs.now (state_of c.args.self.now) c.args.vertex (state_of x)) (sym w.self-is)
      (visit_begins c.args.arcs.now (state_of c.args.self.now) c.args.vertex c.requires.walk (λ is.
      new_is_read c.args.self.now.marks.items c.args.vertex _ _ is c.index.ensures (c.is_new.ensures.1)
      w.if-is_new.false))
]

pub loop-group-preserved : goal.loop-group-preserved
loop-group-preserved c =
    visit_more c.args.arcs.now (state_of c.args.self.now) (state_of c.loop-group.self) (state_of c.step.new.self)
    c.args.vertex c.loop-group.invariant c.in_ok-step.ensures.walk

pub returns : goal.returns
returns c =
    let v = c.loop-group.invariant in
    record {
      walk = v.walk;
      idle =
          no_last c.loop-group.self.groups.items c.deref.result.now c.deref.ensures.value
          (sym (c.copied.ensures ∙ c.last.ensures.value) ∙ c.in_default.is);
      met = v.met;
      not_new = v.not_new;
    }
