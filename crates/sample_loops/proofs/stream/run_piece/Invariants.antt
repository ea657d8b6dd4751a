-- The rows that ran so far.
use Rattle.std.proofs.Common.{◌-◌, length, take}
use Rattle.sample_loops.specs.Private.Running.{RunsPiece, RunsSoFar}
use Rattle.sample_loops.proofs.stream.run_piece.Given as goal

abbrev pub invariant-rows : goal.invariant-rows
invariant-rows g l =
    RunsSoFar (g.E.Engine.same l.fn.engine l.engine) (g.E.Engine.ready l.engine) (g.E.Engine.accepts l.engine)
    (g.E.Engine.age l.engine) (g.E.Engine.age l.fn.engine) l.at l.fn.rows.channels l.piece
    (g.D.Desk.view l.fn.desk) (g.D.Desk.view l.desk)
    × RunsPiece (λ rows puts. g.E.Engine.ran l.fn.engine rows puts l.engine) l.fn.rows (take l.at l.piece) l.fn.output
    (g.D.Desk.view l.fn.desk) l.rows l.output (g.D.Desk.view l.desk)

abbrev pub decreases-rows : goal.decreases-rows
decreases-rows g l = length l.piece - l.at
