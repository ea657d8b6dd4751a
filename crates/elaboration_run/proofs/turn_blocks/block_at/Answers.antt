use Rattle.std.proofs.Common.{◌≡◌, ◌+◌, ◌<◌, ◌+ℤ◌, ◌≤ℤ◌, ◌++◌, ◌∷◌, [], ℕ, ℤ, pos, map, List, Result, Ok, Err, IfOk}
use Rattle.std.proofs.Common.{w32, rules}
use mir.Val.{SFits}
use Rattle.std.proofs.lemmas.Int.{to_z-of_z}
use Rattle.elaboration_run.specs.declared.turn_blocks.Block.{Block}
use Rattle.elaboration_code.specs.Actions.{Action, view_action}
use Rattle.elaboration_run.specs.Private.Parts.{seen}
use Rattle.elaboration_run.specs.Private.EmptyLoops.{DoSame}
use Rattle.elaboration_run.specs.Private.TurnBlocks.{IsBlock}
use Rattle.elaboration_run.proofs.IdleActions.{later}
use Rattle.elaboration_run.proofs.turn_blocks.block_at.Goals as goal

later_ok : {E : Type 0} (outer : List ℤ) (first last turn : ℤ) (k : ℕ) (all : List Action)
    → turn ≡ first +ℤ pos k
    → (r : Result Block E)
    → IfOk r (λ b.
    (j : ℕ) → k + j < b.until → (turn +ℤ pos j) ≤ℤ last → DoSame (outer ++ (turn +ℤ pos j) ∷ []) (seen b.parts) all)
    → IfOk r (λ b. IsBlock outer first last k b.until (seen b.parts) all)
later_ok outer first last turn k all is (Ok b) h = later outer first last turn k b.until (seen b.parts) all is h
later_ok outer first last turn k all is (Err e) h = tt

pub returns-clause-block : goal.returns-clause-block
returns-clause-block c =
    let at_k = simp (to_z-of_z, c.ranges.first) at c.turn_at.ensures in
    let fits : SFits w32 c.turn_at.result = search rules in
    later_ok c.args.outer.now c.args.first c.args.last c.turn_at.result c.args.k (map view_action c.args.actions.now)
    (search (at_k)) c.block_from.result
    (let same = simp (to_z-of_z, c.ranges.last, fits) at c.block_from.ensures.same in same)
