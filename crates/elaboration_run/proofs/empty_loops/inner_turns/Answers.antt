use Rattle.std.proofs.Common.{◌∙◌, ◌<◌, ◌+◌, ◌++◌, ℕ, ℤ, List, rules, subst, sym, ap, take, length}
use Rattle.elaboration_run.specs.Private.Lanes.{column}
use Rattle.elaboration_run.specs.Private.Groups.{HaveRows}
use Rattle.elaboration_code.specs.Loops.{IsInside}
use Rattle.elaboration_run.specs.Private.EmptyLoops.{Reaches}
use Rattle.elaboration_run.proofs.GroupRows.{group_rows}
use Rattle.elaboration_run.proofs.IdleActions.{with_next}
use Rattle.elaboration_run.proofs.HeldTurns.{reached_more}
use Rattle.elaboration_run.proofs.empty_loops.inner_turns.Goals as goal

pub put_turns-requires-clause-rows : goal.put_turns-requires-clause-rows
put_turns-requires-clause-rows c =
    let rows =
    group_rows c.args.turns.groups.now c.loop-group.group-index c.group-item.result c.loop-group-test.true
    c.group-item.is c.args.turns.rows in
    subst (λ n. HaveRows (n + 1) c.loop-group.inner.items) (sym (ap length c.as_slice.ensures ∙ rows))
    c.loop-group.invariant.rows

pub put_turns-requires-clause-inside_lo : goal.put_turns-requires-clause-inside_lo
put_turns-requires-clause-inside_lo c =
    let rows =
    group_rows c.args.turns.groups.now c.loop-group.group-index c.group-item.result c.loop-group-test.true
    c.group-item.is c.args.turns.rows in
    subst (λ n. IsInside (length c.args.turns.outer.now + n) c.args.lo.now) (sym (ap length c.as_slice.ensures ∙ rows))
    c.requires.inside_lo

pub put_turns-requires-clause-inside_hi : goal.put_turns-requires-clause-inside_hi
put_turns-requires-clause-inside_hi c =
    let rows =
    group_rows c.args.turns.groups.now c.loop-group.group-index c.group-item.result c.loop-group-test.true
    c.group-item.is c.args.turns.rows in
    subst (λ n. IsInside (length c.args.turns.outer.now + n) c.args.hi.now) (sym (ap length c.as_slice.ensures ∙ rows))
    c.requires.inside_hi

pub loop-group-preserved : goal.loop-group-preserved
loop-group-preserved c =
    let outer = c.args.turns.outer.now in
    let groups = c.args.turns.groups.now in
    let i = c.loop-group.group-index in
    let group = c.group-item.result in
    let new = c.put_turns.new.inner.items in
    let rows = group_rows groups i group c.loop-group-test.true c.group-item.is c.args.turns.rows in
    let now =
    subst (λ (rows : List (List ℤ)).
    (k : ℕ) → k < group.count → Reaches outer new c.args.lo.now c.args.hi.now (outer ++ column rows k))
    c.as_slice.ensures (c.in_ok-put_turns.ensures.reached (search (rules, c.if-not-branch.false))) in
    record {
      reached =
          reached_more outer (take i groups) (take (i + 1) groups) group c.loop-group.inner.items new c.args.lo.now
          c.args.hi.now
          (with_next groups i group c.loop-group-test.true c.group-item.is) c.in_ok-put_turns.ensures.kept
          c.loop-group.invariant.reached now;
      rows = subst (λ n. HaveRows (n + 1) new) (ap length c.as_slice.ensures ∙ rows) c.in_ok-put_turns.ensures.rows;
    }
