use Rattle.std.proofs.Common.{◌+ℤ◌, ◌++◌, ◌∷◌, [], inl, pos, arith}
use Rattle.std.proofs.lemmas.Int.{to_z-of_z}
use Rattle.elaboration_run.proofs.LoopParts.{one_row}
use Rattle.elaboration_run.proofs.turn_blocks.block_from.Goals as goal

pub returns-clause-same : goal.returns-clause-same
returns-clause-same c j before inside =
    let outer = c.args.outer.now in
    let turn = c.args.turn +ℤ pos j in
    let row = simp (to_z-of_z, c.ranges.turn) at c.index_row.ensures in
    c.in_ok-parts.ensures.same (outer ++ turn ∷ [])
    (inl (
      j,
      omega arith,
      one_row outer c.in_ok-rows.rows c.index_row.result j turn c.in_ok-rows.ensures (row j (omega arith)),
    ))
