use Rattle.std.proofs.Common.{length, ◌≡◌, ◌≤◌, ◌+◌, ◌-◌, ◌*◌, ◌+ℤ◌, pos, map, drop}
use Rattle.std.specs.List.{range_with_len}
use Rattle.elaboration_code.specs.Actions.{actions_of, view_action, view_actions, run_actions, run_turn, run_turns}
use Rattle.elaboration_code.specs.Actions.{for_each}
use Rattle.element_rules.specs.Tables.{max_load}
use Rattle.element_rules.specs.ElementRules.{count_up}
use Rattle.elaboration_code.specs.Loops.{AreDoneInside}
use Rattle.elaboration_run.specs.Private.Parts.{seen, view_part}
use Rattle.elaboration_run.specs.Private.TurnBlocks.{IsBlock}
use Rattle.elaboration_run.specs.Private.States.{state_of, made_in}
use Rattle.elaboration_run.proofs.instances.+instances.Given as goal

abbrev pub decreases-run_turn : goal.decreases-run_turn
decreases-run_turn l = 10 * ((max_load - l.walked.now.load) + l.inside.calls) + 3

abbrev pub decreases-run_turns : goal.decreases-run_turns
decreases-run_turns l = 10 * ((max_load - l.walked.now.load) + l.inside.calls) + 4

abbrev pub decreases-run_part_turns : goal.decreases-run_part_turns
decreases-run_part_turns l = 10 * ((max_load - l.walked.now.load) + l.inside.calls) + 4

abbrev pub decreases-run_loop : goal.decreases-run_loop
decreases-run_loop l = 10 * ((max_load - l.walked.now.load) + l.inside.calls) + 5

abbrev pub decreases-run_part_loop : goal.decreases-run_part_loop
decreases-run_part_loop l = 10 * ((max_load - l.walked.now.load) + l.inside.calls) + 5

abbrev pub decreases-run_action : goal.decreases-run_action
decreases-run_action l = 10 * ((max_load - l.walked.now.load) + l.inside.calls) + 6

abbrev pub decreases-run_part : goal.decreases-run_part
decreases-run_part l = 10 * ((max_load - l.walked.now.load) + l.inside.calls) + 7

abbrev pub decreases-run_parts : goal.decreases-run_parts
decreases-run_parts l = 10 * ((max_load - l.walked.now.load) + l.inside.calls) + 8

abbrev pub decreases-run_body : goal.decreases-run_body
decreases-run_body l = 10 * ((max_load - l.walked.now.load) + l.inside.calls) + 9

abbrev pub decreases-enter : goal.decreases-enter
decreases-enter l = 10 * ((max_load - l.walked.now.load) + l.inside.calls) + 2

abbrev pub invariant-run_parts-loop-part : goal.invariant-run_parts-loop-part
invariant-run_parts-loop-part l =
    (run_actions (made_in l.inside) l.turns (actions_of (map view_part (drop l.part-index l.parts)))
    (state_of l.definitions l.walked)
    ≡ run_actions (made_in l.inside) l.turns (actions_of (map view_part l.parts))
    (state_of l.fn.definitions l.fn.walked))
    × (l.fn.walked.load ≤ l.walked.load)

abbrev pub invariant-run_part_turns-loop-k : goal.invariant-run_part_turns-loop-k
invariant-run_part_turns-loop-k l =
    (for_each (λ k. run_turn (made_in l.inside) l.outer (actions_of (map view_part l.parts)) l.at (l.first +ℤ pos k))
    (range_with_len (0 + l.k) (count_up l.first l.last - l.k)) (state_of l.definitions l.walked)
    ≡ run_turns (made_in l.inside) l.outer (actions_of (map view_part l.parts)) l.at l.first l.last
    (state_of l.fn.definitions l.fn.walked))
    × (l.fn.walked.load ≤ l.walked.load)

abbrev pub invariant-run_turns-loop-k : goal.invariant-run_turns-loop-k
invariant-run_turns-loop-k l =
    (for_each (λ k. run_turn (made_in l.inside) l.outer (view_actions l.actions) l.at (l.first +ℤ pos k))
    (range_with_len (0 + l.k) (count_up l.first l.last - l.k)) (state_of l.definitions l.walked)
    ≡ run_turns (made_in l.inside) l.outer (view_actions l.actions) l.at l.first l.last
    (state_of l.fn.definitions l.fn.walked))
    × AreDoneInside (length l.outer + 1) (actions_of (seen l.block.parts))
    × IsBlock l.outer l.first l.last l.k l.block.until (seen l.block.parts) (map view_action l.actions)
    × (l.fn.walked.load ≤ l.walked.load)
