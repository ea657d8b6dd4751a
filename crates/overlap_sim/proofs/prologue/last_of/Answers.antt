use Rattle.std.proofs.Common.{arith}
use Rattle.overlap_sim.proofs.Stages.{up_to_more, all_up_to}
use Rattle.overlap_sim.proofs.prologue.last_of.Goals as goal
use Rattle.overlap_sim.proofs.prologue.last_of.Goals.{then-last-staged, else-last-staged}

pub loop-staged-preserved : goal.loop-staged-preserved
loop-staged-preserved g c =
    elim c.if-last-staged.branch [
      | then-last-staged w ↦ (
        up_to_more c.deref-staged-items.result.now c.loop-staged.staged-index c.loop-staged.last c.if-last-staged.last
            c.staged-item.result (omega arith) c.staged-item.is c.loop-staged.invariant.0 (omega arith) (omega arith),
        omega arith,
      )
      | else-last-staged w ↦ (
        up_to_more c.deref-staged-items.result.now c.loop-staged.staged-index c.loop-staged.last c.if-last-staged.last
            c.staged-item.result (omega arith) c.staged-item.is c.loop-staged.invariant.0 (omega arith) (omega arith),
        omega arith,
      )
    ]

pub returns-clause-up_to : goal.returns-clause-up_to
returns-clause-up_to g c =
    all_up_to c.args.parts.now c.deref-staged-items.result.now c.loop-staged.staged-index c.loop-staged.last
    c.deref-staged-items.ensures (omega arith) c.loop-staged.invariant.0
