use Rattle.std.proofs.Common.{◌+◌, length, ◌∙◌, ◌+ℤ◌, ◌-◌, [], pos, arith, rules, w32, sym, ap, subst, map, List}
use Rattle.std.proofs.Common.{Result, ◌<◌}
use mir.Val.{SFits}
use Rattle.std.proofs.lemmas.Int.{to_z-of_z}
use Rattle.elaboration_run.specs.Private.Parts.{seen, view_part}
use Rattle.elaboration_run.specs.declared.parts.Part.{Part}
use Rattle.elaboration_run.proofs.IdleActions.{turn_same, block_after}
use Rattle.elaboration_code.specs.Actions.{Action, Gives, State, Walked, actions_of, view_action, run_actions, run_body}
use Rattle.elaboration_code.specs.Actions.{run_turn, run_instance, all_defined}
use Rattle.element_rules.specs.ElementRules.{count_up}
use Rattle.elaboration_run.specs.Private.Functions.{view_function, view_of_top}
use Rattle.elaboration_run.specs.Private.States.{definitions_of, walked_of, state_of, made_in}
use Rattle.element_rules.specs.declared.fault.PlacedFault.{PlacedFault}
use Rattle.elaboration_code.specs.Loops.{AreDoneInside}
use Rattle.elaboration_run.proofs.InsideParts.{each_inside, actions_inside, parts_inside}
use Rattle.elaboration_run.proofs.Each.{each_passes, each_gives, each_meant}
use Rattle.elaboration_code.proofs.ActionRows.{repeat_is}
use Rattle.elaboration_run.proofs.PartRows.{part_is}
use Rattle.elaboration_run.proofs.Entering.{body_err, body_meant, body_ok, enter_is}
use Rattle.elaboration_run.proofs.GrowingLoads.{next_load, part_done, part_load, part_meant}
use Rattle.elaboration_run.proofs.instances.+instances.Goals as goal

pub run_action-returns-in-Repeat : goal.run_action-returns-in-Repeat
run_action-returns-in-Repeat t c =
    subst (λ (r : Result State PlacedFault).
    Gives (state_of c.run_loop.new.definitions c.run_loop.new.walked) c.run_loop.result r)
    (sym (repeat_is (made_in c.args.inside) c.args.turns.now c.args.action.now c.in-Repeat.lo c.in-Repeat.hi
    c.in-Repeat.actions c.in-Repeat.at c.in-Repeat.is c.deref.result.now c.deref.ensures.value _))
    c.run_loop.ensures

pub run_turns-returns-in_err-run_turn : goal.run_turns-returns-in_err-run_turn
run_turns-returns-in_err-run_turn t c =
    let inside = made_in c.args.inside in
    let all = map view_action c.args.actions.now in
    let turn = run_turn inside c.args.outer.now (actions_of all) c.args.at in
    let end = simp (to_z-of_z, c.ranges.first, c.ranges.last) at c.turn_count-k-end.ensures in
    let so_far = simp (to_z-of_z, c.ranges.first, c.ranges.last) at c.loop-k.invariant.0 in
    let at_k = simp (to_z-of_z, c.ranges.first) at c.turn_at-turn.ensures in
    let fits : SFits w32 c.turn_at-turn.result = search rules in
    let block = simp (to_z-of_z, c.ranges.first, c.ranges.last) at c.in_ok-block.ensures.block in
    let count = count_up c.args.first c.args.last in
    let less : c.loop-k.k < count = omega (arith, end) in
    let s = state_of c.loop-k.definitions c.loop-k.walked in
    let same =
    turn_same inside c.args.outer.now c.args.at c.args.first c.args.last c.turn_at-turn.result c.loop-k.k
    c.in_ok-block.block.until (seen c.in_ok-block.block.parts) all at_k block c.in_ok-block.ensures.more less s
    ∙ ap (λ (xs : List Part).
    run_turn inside c.args.outer.now (actions_of (map view_part xs)) c.args.at c.turn_at-turn.result s)
    (sym c.deref.ensures.value) in
    let fails = simp (to_z-of_z, fits) at c.in_err-run_turn.ensures in
    each_gives (λ k. turn (c.args.first +ℤ pos k)) 0 c.loop-k.k count less s _ so_far
    (state_of c.run_turn.new.definitions c.run_turn.new.walked) c.loop-k.k (omega arith) _ _
    c.from_residual-in_err-run_turn.ensures.1
    (λ n. same ∙ fails n)

pub run_turns-loop-k-preserved : goal.run_turns-loop-k-preserved
run_turns-loop-k-preserved t c =
    let inside = made_in c.args.inside in
    let all = map view_action c.args.actions.now in
    let turn = run_turn inside c.args.outer.now (actions_of all) c.args.at in
    let end = simp (to_z-of_z, c.ranges.first, c.ranges.last) at c.turn_count-k-end.ensures in
    let so_far = simp (to_z-of_z, c.ranges.first, c.ranges.last) at c.loop-k.invariant.0 in
    let at_k = simp (to_z-of_z, c.ranges.first) at c.turn_at-turn.ensures in
    let fits : SFits w32 c.turn_at-turn.result = search rules in
    let block = simp (to_z-of_z, c.ranges.first, c.ranges.last) at c.in_ok-block.ensures.block in
    let count = count_up c.args.first c.args.last in
    let less : c.loop-k.k < count = omega (arith, end) in
    let s = state_of c.loop-k.definitions c.loop-k.walked in
    let same =
    turn_same inside c.args.outer.now c.args.at c.args.first c.args.last c.turn_at-turn.result c.loop-k.k
    c.in_ok-block.block.until (seen c.in_ok-block.block.parts) all at_k block c.in_ok-block.ensures.more less s
    ∙ ap (λ (xs : List Part).
    run_turn inside c.args.outer.now (actions_of (map view_part xs)) c.args.at c.turn_at-turn.result s)
    (sym c.deref.ensures.value) in
    let passes = simp (to_z-of_z, fits) at c.in_ok-run_turn.ensures in
    simp (to_z-of_z, c.ranges.first, c.ranges.last) (
      each_passes (λ k. turn (c.args.first +ℤ pos k)) 0 c.loop-k.k count less s _ so_far
          c.loop-k.k (omega arith) (state_of c.run_turn.new.definitions c.run_turn.new.walked) (same ∙ passes),
      c.in_ok-block.ensures.done,
      block_after c.args.outer.now c.args.first c.args.last c.loop-k.k c.in_ok-block.block.until
          (seen c.in_ok-block.block.parts) all block,
      next_load c.args.inside c.args.outer.now (actions_of all) c.args.at (c.args.first +ℤ pos c.loop-k.k)
          c.args.walked.now.load s (state_of c.run_turn.new.definitions c.run_turn.new.walked) c.loop-k.invariant.3
          (same ∙ passes),
    )

pub enter-returns : goal.enter-returns
enter-returns t c =
    let functions = c.args.inside.functions.now in
    let more =
    enter_is functions c.args.inside.calls c.args.inside.number c.args.func c.args.site c.args.turns.now
    (walked_of c.args.walked.now) c.in-Some.function.now (omega arith) (sym c.in-Some.ensures) in
    let same =
    ap (λ turns.
    run_body (run_instance (map view_of_top functions) (c.args.inside.calls - 1))
    (view_function c.in-Some.function.now) c.args.func c.args.inside.number c.args.site turns
    (walked_of c.args.walked.now))
    (sym c.in_ok-from_slice.ensures) in
    subst (λ (r : Result Walked PlacedFault). Gives (walked_of c.run_body.new.walked) c.run_body.result r)
    (sym (more ∙ same)) c.run_body.ensures

pub run_body-returns-in_err-run_parts : goal.run_body-returns-in_err-run_parts
run_body-returns-in_err-run_parts t c =
    let inside = run_instance (map view_of_top c.args.inside.functions.now) c.args.inside.calls in
    let all = ap (λ (xs : List Part). map view_part xs) c.deref.ensures.value in
    body_err inside (view_function c.args.function.now) c.args.instance.func c.args.instance.parent c.args.instance.site
    c.args.instance.turns (walked_of c.args.walked.now) (walked_of c.enter_instance.new.walked)
    (definitions_of c.at_first-definitions.result) c.in_ok-number.number
    c.in_ok-number.ensures.walked c.in_ok-number.ensures.number c.at_first-definitions.ensures _ _ _
    c.from_residual-in_err-run_parts.ensures.1
    (λ n.
    ap (λ (actions : List Action).
    run_actions (inside c.in_ok-number.number) [] (actions_of actions)
    (state_of c.at_first-definitions.result c.enter_instance.new.walked))
    (sym all) ∙ c.in_err-run_parts.ensures n)

pub run_body-returns : goal.run_body-returns
run_body-returns t c =
    let inside = run_instance (map view_of_top c.args.inside.functions.now) c.args.inside.calls in
    let all = ap (λ (xs : List Part). map view_part xs) c.deref.ensures.value in
    body_ok inside (view_function c.args.function.now) c.args.instance.func c.args.instance.parent c.args.instance.site
    c.args.instance.turns (walked_of c.args.walked.now) (walked_of c.enter_instance.new.walked)
    (definitions_of c.at_first-definitions.result) c.in_ok-number.number
    c.in_ok-number.ensures.walked c.in_ok-number.ensures.number c.at_first-definitions.ensures
    (state_of c.run_parts.new.definitions c.run_parts.new.walked) c.check_all_defined.result
    (ap (λ (actions : List Action).
    run_actions (inside c.in_ok-number.number) [] (actions_of actions)
    (state_of c.at_first-definitions.result c.enter_instance.new.walked))
    (sym all) ∙ c.in_ok-run_parts.ensures)
    (c.check_all_defined.ensures ∙ ap (all_defined (definitions_of c.run_parts.new.definitions)) c.deref-2.ensures)

pub run_part-returns-in-Loop : goal.run_part-returns-in-Loop
run_part-returns-in-Loop t c =
    subst (λ (r : Result State PlacedFault).
    Gives (state_of c.run_part_loop.new.definitions c.run_part_loop.new.walked) c.run_part_loop.result r)
    (sym (part_is (made_in c.args.inside) c.args.turns.now c.args.part.now c.in-Loop.lo c.in-Loop.hi c.in-Loop.parts
    c.in-Loop.at c.in-Loop.is c.deref.result.now c.deref.ensures.value _))
    c.run_part_loop.ensures

pub run_part_turns-returns-in_err-run_turn : goal.run_part_turns-returns-in_err-run_turn
run_part_turns-returns-in_err-run_turn t c =
    let turn =
    run_turn (made_in c.args.inside) c.args.outer.now (actions_of (map view_part c.args.parts.now)) c.args.at in
    let end = simp (to_z-of_z, c.ranges.first, c.ranges.last) at c.turn_count-k-end.ensures in
    let so_far = simp (to_z-of_z, c.ranges.first, c.ranges.last) at c.loop-k.invariant.0 in
    let at_k = simp (to_z-of_z, c.ranges.first) at c.turn_at-turn.ensures in
    let fits : SFits w32 c.turn_at-turn.result = search rules in
    let count = count_up c.args.first c.args.last in
    let less : c.loop-k.k < count = omega (arith, end) in
    let s = state_of c.loop-k.definitions c.loop-k.walked in
    let fails = simp (to_z-of_z, fits) at c.in_err-run_turn.ensures in
    each_gives (λ k. turn (c.args.first +ℤ pos k)) 0 c.loop-k.k count less s _ so_far
    (state_of c.run_turn.new.definitions c.run_turn.new.walked) c.loop-k.k (omega arith) _ _ c.from_residual.ensures.1
    (λ n. ap (λ z. turn z s) (sym at_k) ∙ fails n)

pub run_part_turns-loop-k-preserved : goal.run_part_turns-loop-k-preserved
run_part_turns-loop-k-preserved t c =
    let turn =
    run_turn (made_in c.args.inside) c.args.outer.now (actions_of (map view_part c.args.parts.now)) c.args.at in
    let end = simp (to_z-of_z, c.ranges.first, c.ranges.last) at c.turn_count-k-end.ensures in
    let so_far = simp (to_z-of_z, c.ranges.first, c.ranges.last) at c.loop-k.invariant.0 in
    let at_k = simp (to_z-of_z, c.ranges.first) at c.turn_at-turn.ensures in
    let fits : SFits w32 c.turn_at-turn.result = search rules in
    let count = count_up c.args.first c.args.last in
    let less : c.loop-k.k < count = omega (arith, end) in
    let s = state_of c.loop-k.definitions c.loop-k.walked in
    let passes = simp (to_z-of_z, fits) at c.in_ok-run_turn.ensures in
    simp (to_z-of_z, c.ranges.first, c.ranges.last) (
      each_passes (λ k. turn (c.args.first +ℤ pos k)) 0 c.loop-k.k count less s _ so_far
          c.loop-k.k (omega arith) (state_of c.run_turn.new.definitions c.run_turn.new.walked)
          (ap (λ z. turn z s) (sym at_k) ∙ passes),
      next_load c.args.inside c.args.outer.now (actions_of (map view_part c.args.parts.now)) c.args.at
          (c.args.first +ℤ pos c.loop-k.k) c.args.walked.now.load s
          (state_of c.run_turn.new.definitions c.run_turn.new.walked) c.loop-k.invariant.1
          (ap (λ z. turn z s) (sym at_k) ∙ passes),
    )

pub run_parts-loop-part-preserved : goal.run_parts-loop-part-preserved
run_parts-loop-part-preserved t c =
    let parts = c.args.parts.now in
    let i = c.loop-part.part-index in
    let s = state_of c.loop-part.definitions c.loop-part.walked in
    let ended = state_of c.run_part.new.definitions c.run_part.new.walked in (
      part_done c.args.inside c.args.turns.now parts i c.part-item.result c.loop-part-test.true c.part-item.is s ended
          c.in_ok-run_part.ensures _ c.loop-part.invariant.0,
      part_load c.args.inside c.args.turns.now parts i c.part-item.result c.loop-part-test.true c.part-item.is s ended
          c.in_ok-run_part.ensures c.args.walked.now.load c.loop-part.invariant.1,
    )

pub run_action-run_loop-requires : goal.run_action-run_loop-requires
run_action-run_loop-requires t c = (
  search rules,
  (
    λ e.
        c.requires.meaning
        (repeat_is (made_in c.args.inside) c.args.turns.now c.args.action.now c.in-Repeat.lo c.in-Repeat.hi
        c.in-Repeat.actions c.in-Repeat.at c.in-Repeat.is c.deref.result.now c.deref.ensures.value _ ∙ e),
    actions_inside (length c.args.turns.now) c.args.action.now c.in-Repeat.lo c.in-Repeat.hi c.in-Repeat.actions
        c.in-Repeat.at c.in-Repeat.is c.deref.result.now c.deref.ensures.value c.requires.inside,
  ),
)

pub run_part-run_part_loop-requires : goal.run_part-run_part_loop-requires
run_part-run_part_loop-requires t c = (
  search rules,
  (
    λ e.
        c.requires.meaning
        (part_is (made_in c.args.inside) c.args.turns.now c.args.part.now c.in-Loop.lo c.in-Loop.hi c.in-Loop.parts
        c.in-Loop.at c.in-Loop.is c.deref.result.now c.deref.ensures.value _ ∙ e),
    parts_inside (length c.args.turns.now) c.args.part.now c.in-Loop.lo c.in-Loop.hi c.in-Loop.parts c.in-Loop.at
        c.in-Loop.is c.deref.result.now c.deref.ensures.value c.requires.inside,
  ),
)

pub run_part_turns-run_turn-requires : goal.run_part_turns-run_turn-requires
run_part_turns-run_turn-requires t c =
    let turn =
    run_turn (made_in c.args.inside) c.args.outer.now (actions_of (map view_part c.args.parts.now)) c.args.at in
    let end = simp (to_z-of_z, c.ranges.first, c.ranges.last) at c.turn_count-k-end.ensures in
    let so_far = simp (to_z-of_z, c.ranges.first, c.ranges.last) at c.loop-k.invariant.0 in
    let at_k = simp (to_z-of_z, c.ranges.first) at c.turn_at-turn.ensures in
    let fits : SFits w32 c.turn_at-turn.result = search rules in
    let count = count_up c.args.first c.args.last in
    let less : c.loop-k.k < count = omega (arith, end) in
    let s = state_of c.loop-k.definitions c.loop-k.walked in
    let own =
    each_meant (λ k. turn (c.args.first +ℤ pos k)) 0 c.loop-k.k count less s _ so_far c.requires.meaning c.loop-k.k
    (omega arith) in
    (search rules, (simp (to_z-of_z, fits) (λ e. own (ap (λ z. turn z s) (sym at_k) ∙ e)), c.requires.inside))

pub run_turns-run_turn-requires : goal.run_turns-run_turn-requires
run_turns-run_turn-requires t c =
    let inside = made_in c.args.inside in
    let all = map view_action c.args.actions.now in
    let turn = run_turn inside c.args.outer.now (actions_of all) c.args.at in
    let end = simp (to_z-of_z, c.ranges.first, c.ranges.last) at c.turn_count-k-end.ensures in
    let so_far = simp (to_z-of_z, c.ranges.first, c.ranges.last) at c.loop-k.invariant.0 in
    let at_k = simp (to_z-of_z, c.ranges.first) at c.turn_at-turn.ensures in
    let fits : SFits w32 c.turn_at-turn.result = search rules in
    let block = simp (to_z-of_z, c.ranges.first, c.ranges.last) at c.in_ok-block.ensures.block in
    let count = count_up c.args.first c.args.last in
    let less : c.loop-k.k < count = omega (arith, end) in
    let s = state_of c.loop-k.definitions c.loop-k.walked in
    let same =
    turn_same inside c.args.outer.now c.args.at c.args.first c.args.last c.turn_at-turn.result c.loop-k.k
    c.in_ok-block.block.until (seen c.in_ok-block.block.parts) all at_k block c.in_ok-block.ensures.more less s
    ∙ ap (λ (xs : List Part).
    run_turn inside c.args.outer.now (actions_of (map view_part xs)) c.args.at c.turn_at-turn.result s)
    (sym c.deref.ensures.value) in
    let own =
    each_meant (λ k. turn (c.args.first +ℤ pos k)) 0 c.loop-k.k count less s _ so_far c.requires.meaning c.loop-k.k
    (omega arith) in (
      search rules,
      (
        simp (to_z-of_z, fits) (λ e. own (same ∙ e)),
        subst (λ (xs : List Part). AreDoneInside (length c.args.outer.now + 1) (actions_of (map view_part xs)))
            (sym c.deref.ensures.value) c.in_ok-block.ensures.done,
      ),
    )

pub enter-run_body-requires : goal.enter-run_body-requires
enter-run_body-requires t c =
    let functions = c.args.inside.functions.now in
    let more =
    enter_is functions c.args.inside.calls c.args.inside.number c.args.func c.args.site c.args.turns.now
    (walked_of c.args.walked.now) c.in-Some.function.now (omega arith) (sym c.in-Some.ensures) in
    let same =
    ap (λ turns.
    run_body (run_instance (map view_of_top functions) (c.args.inside.calls - 1))
    (view_function c.in-Some.function.now) c.args.func c.args.inside.number c.args.site turns
    (walked_of c.args.walked.now))
    (sym c.in_ok-from_slice.ensures) in
    (search rules, λ e. c.requires (more ∙ same ∙ e))

pub run_body-run_parts-requires : goal.run_body-run_parts-requires
run_body-run_parts-requires t c =
    let inside = run_instance (map view_of_top c.args.inside.functions.now) c.args.inside.calls in
    let all = ap (λ (xs : List Part). map view_part xs) c.deref.ensures.value in
    let meant =
    body_meant inside (view_function c.args.function.now) c.args.instance.func c.args.instance.parent
    c.args.instance.site c.args.instance.turns (walked_of c.args.walked.now) (walked_of c.enter_instance.new.walked)
    (definitions_of c.at_first-definitions.result) c.in_ok-number.number
    c.in_ok-number.ensures.walked c.in_ok-number.ensures.number c.at_first-definitions.ensures c.requires in (
      search rules,
      (
        λ e.
            meant (ap (λ (actions : List Action).
            run_actions (inside c.in_ok-number.number) [] (actions_of actions)
            (state_of c.at_first-definitions.result c.enter_instance.new.walked))
            (sym all) ∙ e),
        subst (λ (actions : List Action). AreDoneInside 0 (actions_of actions)) (sym all) c.args.function.now.inside,
      ),
    )

pub run_parts-run_part-requires : goal.run_parts-run_part-requires
run_parts-run_part-requires t c =
    let parts = c.args.parts.now in
    let i = c.loop-part.part-index in
    let part = c.part-item.result in (
      search rules,
      (
        part_meant c.args.inside c.args.turns.now parts i part c.loop-part-test.true c.part-item.is
            (state_of c.loop-part.definitions c.loop-part.walked) _ c.loop-part.invariant.0 c.requires.meaning,
        each_inside (length c.args.turns.now) view_part parts i part c.loop-part-test.true c.part-item.is
            c.requires.inside,
      ),
    )
