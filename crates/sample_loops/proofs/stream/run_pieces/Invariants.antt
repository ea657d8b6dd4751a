-- The pieces so far were read, and the rows that they end ran.
use Rattle.sample_loops.specs.Private.Streaming.{CanRun, IsRunning}
use Rattle.sample_loops.proofs.stream.run_pieces.Given as goal

abbrev pub invariant-pieces : goal.invariant-pieces
invariant-pieces g l =
    CanRun (g.E.Engine.same l.fn.engine l.engine) (g.E.Engine.ready l.engine) (g.E.Engine.accepts l.engine)
    l.fn.rows.channels
    (g.E.Engine.age l.engine) (g.E.Engine.age l.fn.engine) l.left l.limit
    × IsRunning l.fn.rows.channels (λ ran puts. g.E.Engine.ran l.fn.engine ran puts l.engine) l.left l.limit l.rows
    l.output (g.D.Desk.view l.fn.desk) (g.D.Desk.view l.desk)

abbrev pub decreases-pieces : goal.decreases-pieces
decreases-pieces g l = l.left
