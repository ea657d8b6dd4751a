use Rattle.std.proofs.Common.{length, refl, subst, sym}
use Rattle.elaboration_run.specs.Private.Groups.{HaveRows}
use Rattle.elaboration_run.proofs.HeldTurns.{one_turn_more}
use Rattle.elaboration_run.proofs.GroupRows.{one_more_row, turn_rows}
use Rattle.elaboration_run.proofs.groups.put_turn.Goals as goal

pub returns-clause-more : goal.returns-clause-more
returns-clause-more c =
    let last = c.in_ok-group.group in
    let before = rw c.deref.ensures at c.in_ok-rows.ensures.before in
    let same_loops = c.in_ok-group.ensures.same_loops (length c.args.turn.now) c.requires in
    one_turn_more c.args.groups.now.items c.take_open.new.groups.items c.push.new.self.items last _ c.args.turn.now
    c.in_ok-group.ensures.kept
    c.in_ok-push.ensures.items refl (λ k less. before (same_loops k less) k less) c.in_ok-rows.ensures.here

pub returns-clause-rows : goal.returns-clause-rows
returns-clause-rows c =
    let loops = length c.args.turn.now in
    subst (HaveRows loops) (sym c.in_ok-push.ensures.items)
    (one_more_row loops c.take_open.new.groups.items _ (c.in_ok-group.ensures.rows loops c.requires)
    (turn_rows c.in_ok-rows.rows c.in_ok-group.group.count c.args.turn.now c.in_ok-rows.ensures.here))
