use Rattle.std.proofs.Common.{◌∙◌, ◌++◌, ◌∷◌, [], ℤ, List, ap, sym, subst, rules, w32, length}
use mir.Val.{SFits}
use Rattle.std.proofs.lemmas.Int.{to_z-of_z}
use Rattle.elaboration_run.specs.Private.Lanes.{column}
use Rattle.elaboration_run.specs.Private.Groups.{HaveRows}
use Rattle.elaboration_run.specs.Private.EmptyLoops.{IsMore}
use Rattle.elaboration_run.proofs.HeldTurns.{has_more}
use Rattle.elaboration_run.proofs.GroupRows.{turn_loops}
use Rattle.elaboration_run.proofs.empty_loops.put_lane.Goals as goal

pub put_turn-requires : goal.put_turn-requires
put_turn-requires c =
    let fits : SFits w32 c.turn_at.result = search rules in
    let turn = simp (to_z-of_z, fits) at c.in_ok-turn.ensures in
    let same = turn_loops c.args.lanes.inner.now c.args.k c.turn_at.result c.in_ok-turn.turn turn in
    let given = ap length c.deref.ensures in
    subst (λ n. HaveRows n c.loop-j.inner.items) (sym (given ∙ same)) c.loop-j.invariant.rows

pub loop-j-preserved : goal.loop-j-preserved
loop-j-preserved c =
    let lanes = c.args.lanes in
    let outer = lanes.outer.now in
    let now = c.loop-j.inner.items in
    let new = c.put_turn.new.groups.items in
    let at_j = simp (to_z-of_z, c.ranges.first) at c.turn_at.ensures in
    let so_far = simp (to_z-of_z, c.ranges.first, c.ranges.last) at c.loop-j.invariant.has in
    let fits : SFits w32 c.turn_at.result = search rules in
    let turn = simp (to_z-of_z, fits) at c.in_ok-turn.ensures in
    let same = turn_loops c.args.lanes.inner.now c.args.k c.turn_at.result c.in_ok-turn.turn turn in
    let given = ap length c.deref.ensures in
    let more =
    subst (λ (ts : List ℤ). IsMore outer now new (outer ++ ts)) c.deref.ensures
    (c.in_ok-put_turn.ensures.more outer) in
    record {
      has = simp (to_z-of_z, c.ranges.first, c.ranges.last) (
          has_more lanes c.args.first c.args.last c.args.k c.args.inner.now.items now new c.loop-j.j c.in_ok-turn.turn
          more
          (turn ∙ ap (λ z. column lanes.inner.now c.args.k ++ z ∷ []) at_j) so_far
          );
      rows = subst (λ n. HaveRows n new) (given ∙ same) c.in_ok-put_turn.ensures.rows;
    }
