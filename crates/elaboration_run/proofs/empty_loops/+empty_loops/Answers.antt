use Rattle.std.proofs.Common.{◌≡◌, ◌≢◌, ◌<◌, ◌∙◌, ◌+◌, List, Bor, length, map, take, refl, rules, sym, ap, subst, arith}
use Rattle.elaboration_code.specs.declared.actions.Bound.{Bound}
use Rattle.elaboration_code.specs.Actions.{Action, actions_of, view_action, view_actions}
use Rattle.elaboration_run.specs.Private.Parts.{seen}
use Rattle.elaboration_run.specs.Private.Groups.{loops_in}
use Rattle.elaboration_code.specs.Loops.{IsDoneInside, AreDoneInside}
use Rattle.elaboration_run.specs.Private.EmptyLoops.{InEach, DoSame, loops_around}
use Rattle.elaboration_run.proofs.IdleActions.{taken_more}
use Rattle.elaboration_run.proofs.ActionSizes.{size_of, size_in, smaller}
use Rattle.elaboration_code.proofs.ActionRows.{view_Repeat}
use Rattle.elaboration_run.proofs.PartRows.{view_Loop}
use Rattle.elaboration_run.proofs.LoopParts.{on_same, held_same, does_whole, does_no_turn, does_turns}
use Rattle.elaboration_run.proofs.GroupRows.{loops_more, same_rows}
use Rattle.elaboration_run.proofs.InsideParts.{each_inside, actions_inside, one_more_inside, all_inside, others_inside}
use Rattle.elaboration_run.proofs.empty_loops.+empty_loops.Goals as goal

pub busy-put_busy-requires : goal.busy-put_busy-requires
busy-put_busy-requires t c =
    let all = c.args.actions.now in
    let i = c.loop-action.action-index in
    let x = c.action-item.result in
    let whole : size_in (view_actions all) ≡ t = c.decreases in
    let lt : size_of (view_action x) < t = omega (arith, smaller all i x c.loop-action-test.true c.action-item.is) in (
      lt,
      each_inside (loops_around c.args.turns) view_action all i x c.loop-action-test.true c.action-item.is c.requires,
    )

pub put_busy-invariant_of-within : goal.put_busy-invariant_of-within
put_busy-invariant_of-within t c = record {
  rows =
      same_rows (loops_in c.args.turns.groups.now + 1) c.as_slice.result.now c.in-Some.inner.items
      c.as_slice.ensures.value (rw c.in-Some.is at c.in_ok-inner_turns.ensures.rows);
}

pub put_busy-busy-requires : goal.put_busy-busy-requires
put_busy-busy-requires t c =
    let loops = loops_around c.args.turns in
    let all = c.deref.result.now in
    let h =
    actions_inside loops c.args.action.now c.in-Repeat.lo c.in-Repeat.hi c.in-Repeat.actions c.in-Repeat.at
    c.in-Repeat.is all c.deref.ensures.value c.requires in
    let is =
    ap view_action c.in-Repeat.is ∙ view_Repeat c.in-Repeat.lo c.in-Repeat.hi c.in-Repeat.actions c.in-Repeat.at in
    let whole : size_of (view_action c.args.action.now) ≡ t = c.decreases in
    let less : size_in (view_actions all) < t =
    omega (arith, ap size_of is, ap (λ xs. size_in (view_actions xs)) c.deref.ensures.value) in
    let rows = rw c.in-Some.is at c.in_ok-inner_turns.ensures.rows in
    let some : length c.in-Some.inner.items ≢ 0 = search (rules, c.if-is_empty.ensures, c.if-is_empty.false) in
    let deeper =
    loops_more c.args.turns.outer.now (loops_in c.args.turns.groups.now) c.as_slice.result.now c.in-Some.inner.items
    c.as_slice.ensures.value rows some in (
      less,
      subst (λ n. AreDoneInside n (view_actions all)) (sym deeper)
          (all_inside loops c.in-Repeat.lo c.in-Repeat.hi c.in-Repeat.at (map view_action all) h),
    )

pub busy-loop-action-preserved : goal.busy-loop-action-preserved
busy-loop-action-preserved t c =
    let i = c.loop-action.action-index in
    let actions = c.args.actions.now in
    let taken = taken_more view_action actions i c.action-item.result c.loop-action-test.true c.action-item.is in
    record {
      same =
          subst (λ (all : List Action). InEach c.args.turns (λ ts. DoSame ts (seen c.put_busy.new.parts) all))
          (sym taken)
          (c.in_ok-put_busy.ensures.more (map view_action (take i actions)) c.loop-action.invariant.same);
      inside = c.in_ok-put_busy.ensures.inside c.loop-action.invariant.inside;
    }

pub put_busy-returns-in_default-clause-more : goal.put_busy-returns-in_default-clause-more
put_busy-returns-in_default-clause-more t c =
    on_same c.put_part.result (λ is.
    does_whole c.args.turns (seen c.args.parts.now) (view_action c.args.action.now) (seen c.put_part.new.parts) is)
    c.put_part.ensures

pub put_busy-returns-in_default-clause-inside : goal.put_busy-returns-in_default-clause-inside
put_busy-returns-in_default-clause-inside t c =
    on_same c.put_part.result
    (λ is.
    one_more_inside (loops_around c.args.turns) (seen c.args.parts.now) (seen c.put_part.new.parts)
    (view_action c.args.action.now) is c.requires) c.put_part.ensures

pub put_busy-returns-in-None-clause-more : goal.put_busy-returns-in-None-clause-more
put_busy-returns-in-None-clause-more t c =
    on_same c.put_part-in-None.result (λ is.
    does_whole c.args.turns (seen c.args.parts.now) (view_action c.args.action.now)
    (seen c.put_part-in-None.new.parts) is)
    c.put_part-in-None.ensures

pub put_busy-returns-in-None-clause-inside : goal.put_busy-returns-in-None-clause-inside
put_busy-returns-in-None-clause-inside t c =
    on_same c.put_part-in-None.result
    (λ is.
    one_more_inside (loops_around c.args.turns) (seen c.args.parts.now) (seen c.put_part-in-None.new.parts)
    (view_action c.args.action.now) is c.requires) c.put_part-in-None.ensures

pub put_busy-returns-then-is_empty-clause-more : goal.put_busy-returns-then-is_empty-clause-more
put_busy-returns-then-is_empty-clause-more t c =
    let reached = rw c.in-Some.is at c.in_ok-inner_turns.ensures.reached in
    let empty : length c.in-Some.inner.items ≡ 0 = search (rules, c.if-is_empty.ensures) in
    does_no_turn c.args.turns (seen c.args.parts.now) c.args.action.now c.in-Repeat.lo c.in-Repeat.hi
    c.in-Repeat.actions c.in-Repeat.at c.in-Repeat.is c.in-Some.inner.items reached empty

pub put_busy-returns-then-is_empty-clause-inside : goal.put_busy-returns-then-is_empty-clause-inside
put_busy-returns-then-is_empty-clause-inside t c = λ h. h

pub put_busy-returns-clause-more : goal.put_busy-returns-clause-more
put_busy-returns-clause-more t c =
    let reached = rw c.in-Some.is at c.in_ok-inner_turns.ensures.reached in
    let outer = c.args.turns.outer.now in
    let kept = seen c.in_ok-own.own in
    let all = map view_action c.in-Repeat.actions.items in
    let lo : Bor Bound = record { ref_ptr = c.args.action.ref_ptr; now = c.in-Repeat.lo } in
    let hi : Bor Bound = record { ref_ptr = c.args.action.ref_ptr; now = c.in-Repeat.hi } in
    let own =
    held_same outer c.as_slice.result.now c.in-Some.inner.items kept (map view_action c.deref.result.now) all
    c.as_slice.ensures.value (ap (map view_action) c.deref.ensures.value) c.in_ok-own.ensures.same in
    on_same c.put_part-2.result (λ is.
    does_turns c.args.turns (seen c.args.parts.now) c.args.action.now c.in-Repeat.lo c.in-Repeat.hi c.in-Repeat.actions
    c.in-Repeat.at c.in-Repeat.is
    c.in-Some.inner.items reached kept _ (seen c.put_part-2.new.parts) (view_Loop lo hi c.in_ok-own.own c.in-Repeat.at)
    is own)
    c.put_part-2.ensures

pub put_busy-returns-clause-inside : goal.put_busy-returns-clause-inside
put_busy-returns-clause-inside t c =
    let loops = loops_around c.args.turns in
    let outer = c.args.turns.outer.now in
    let lo : Bor Bound = record { ref_ptr = c.args.action.ref_ptr; now = c.in-Repeat.lo } in
    let hi : Bor Bound = record { ref_ptr = c.args.action.ref_ptr; now = c.in-Repeat.hi } in
    let kept = seen c.in_ok-own.own in
    let items = c.in-Repeat.actions.items in
    let h =
    actions_inside loops c.args.action.now c.in-Repeat.lo c.in-Repeat.hi c.in-Repeat.actions c.in-Repeat.at
    c.in-Repeat.is items refl c.requires in
    let rows = rw c.in-Some.is at c.in_ok-inner_turns.ensures.rows in
    let some : length c.in-Some.inner.items ≢ 0 = search (rules, c.if-is_empty.ensures, c.if-is_empty.false) in
    let deeper =
    loops_more outer (loops_in c.args.turns.groups.now) c.as_slice.result.now c.in-Some.inner.items
    c.as_slice.ensures.value rows some in
    let own = subst (λ n. AreDoneInside n (actions_of kept)) deeper c.in_ok-own.ensures.inside in
    let looped = others_inside loops c.in-Repeat.lo c.in-Repeat.hi c.in-Repeat.at (map view_action items) h kept own in
    let part = subst (IsDoneInside loops) (sym (view_Loop lo hi c.in_ok-own.own c.in-Repeat.at)) looped in
    on_same c.put_part-2.result
    (λ is. one_more_inside loops (seen c.args.parts.now) (seen c.put_part-2.new.parts) _ is part) c.put_part-2.ensures
