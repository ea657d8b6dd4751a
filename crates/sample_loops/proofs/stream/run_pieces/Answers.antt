-- The pieces so far were read and their rows ran; the next is read, and its rows run.
use Rattle.std.proofs.Common.{arith, rules, ◌≤◌, ◌-◌, [], ◌++◌, take, drop, IfErr, refl, sym, subst}
use Rattle.std.proofs.lemmas.Result.{err_from_is_err_and}
use Rattle.lists.specs.Rows.{Rows}
use Rattle.micro_image.specs.declared.conflict.Conflict.{Conflict as ConflictValue}
use Rattle.sample_io.specs.Channels.{IsRow}
use Rattle.sample_loops.specs.Private.Running.{RunsPiece, EndsInPiece}
use Rattle.sample_loops.specs.Private.Streaming.{IsHeld, StopsInInput}
use Rattle.sample_loops.proofs.PieceRuns.{has_piece, piece_is, piece_ran, piece_stops}
use Rattle.sample_loops.proofs.Streaming.{at_end, held_cut, reading_cut, running_flushed, running_held, starts}
use Rattle.sample_loops.proofs.Streaming.{too_many}
use Rattle.sample_loops.proofs.stream.run_pieces.Goals as goal

pub pieces-init : goal.pieces-init
pieces-init g c = (
  record {
    is_same = g.met.E.Engine.same_self c.args.engine.now;
    is_ready = c.requires.ready;
    fits = c.requires.fits;
    young = omega arith;
  },
  starts c.args.rows.now.channels (λ ran puts. g.E.Engine.ran c.args.engine.now ran puts c.args.engine.now) c.args.limit
      c.args.rows.now c.args.output.now (g.D.Desk.view c.args.desk.now)
      refl c.requires.fresh c.requires.start c.requires.empty (g.met.E.Engine.none_ran c.args.engine.now),
)

pub returns-in_err-flush-clause-err : goal.returns-in_err-flush-clause-err
returns-in_err-flush-clause-err g c =
    let (can, run) = c.pieces.invariant in
    let start = g.D.Desk.view c.args.desk.now in
    let mid = g.D.Desk.view c.pieces.desk in
    let now = g.D.Desk.view c.flush.new.desk in
    let channels = c.args.rows.now.channels in
    let ran : Rows → Rows → Type 0 = λ rows puts. g.E.Engine.ran c.args.engine.now rows puts c.pieces.engine in
    let gives = g.E.Engine.gives c.args.engine.now in
    let meets : Rows → ConflictValue → Type 0 = λ some conflict.
    g.E.Engine.meets c.args.engine.now some conflict c.pieces.engine in
    let ends = StopsInInput c.args.limit channels gives meets start c.flush.new.self now in
    let p = err_from_is_err_and c.from_residual.result c.from_residual.ensures.1 in
    let given = g.met.E.Engine.ran_gives c.args.engine.now c.pieces.engine run.before run.puts run.ran_rows in
    subst (λ r. IfErr r ends) (sym p.1)
    (subst ends (sym p.2)
    (held_cut c.args.limit channels gives run.before run.puts c.pieces.output start mid now
    (running_held channels ran gives c.pieces.left c.args.limit c.pieces.rows c.pieces.output start mid run given)
    (c.in_err-flush.ensures.cause refl) c.in_err-flush.ensures.err))

pub returns-then-left-eq0-clause-err : goal.returns-then-left-eq0-clause-err
returns-then-left-eq0-clause-err g c =
    let (can, before) = c.pieces.invariant in
    let start = g.D.Desk.view c.args.desk.now in
    let now = g.D.Desk.view c.flush.new.desk in
    let channels = c.args.rows.now.channels in
    let ran : Rows → Rows → Type 0 = λ rows puts. g.E.Engine.ran c.args.engine.now rows puts c.pieces.engine in
    let gives = g.E.Engine.gives c.args.engine.now in
    let run =
    running_flushed channels ran c.pieces.left c.args.limit c.pieces.rows c.pieces.output start
    (g.D.Desk.view c.pieces.desk) now before
    c.in_ok-flush.ensures.never_fall c.in_ok-flush.ensures.ok in
    let given = g.met.E.Engine.ran_gives c.args.engine.now c.pieces.engine run.before run.puts run.ran_rows in
    record {
      rows = run.before;
      puts = run.puts;
      held =
          subst (λ w. IsHeld c.args.limit channels gives run.before run.puts w start now)
          (sym c.in_ok-flush.ensures.empty)
          (running_held channels ran gives c.pieces.left c.args.limit c.pieces.rows [] start now run given);
      shown = too_many channels ran c.pieces.left c.args.limit c.pieces.rows [] start now run c.if-left-eq0.true;
    }

pub returns-in_err-count-clause-err : goal.returns-in_err-count-clause-err
returns-in_err-count-clause-err g c =
    let (can, before) = c.pieces.invariant in
    let start = g.D.Desk.view c.args.desk.now in
    let mid = g.D.Desk.view c.flush.new.desk in
    let now = g.D.Desk.view c.read.new.self in
    let channels = c.args.rows.now.channels in
    let ran : Rows → Rows → Type 0 = λ rows puts. g.E.Engine.ran c.args.engine.now rows puts c.pieces.engine in
    let gives = g.E.Engine.gives c.args.engine.now in
    let run =
    running_flushed channels ran c.pieces.left c.args.limit c.pieces.rows c.pieces.output start
    (g.D.Desk.view c.pieces.desk) mid before
    c.in_ok-flush.ensures.never_fall c.in_ok-flush.ensures.ok in
    let given = g.met.E.Engine.ran_gives c.args.engine.now c.pieces.engine run.before run.puts run.ran_rows in
    let meets : Rows → ConflictValue → Type 0 = λ some conflict.
    g.E.Engine.meets c.args.engine.now some conflict c.pieces.engine in
    let ends = StopsInInput c.args.limit channels gives meets start c.flush.new.self now in
    let p = err_from_is_err_and c.from_residual-in_err-count.result c.from_residual-in_err-count.ensures.1 in
    subst (λ r. IfErr r ends) (sym p.1)
    (subst ends (sym p.2)
    (reading_cut channels ran gives c.pieces.left c.args.limit c.pieces.rows start mid now run given
    (omega (arith, c.room_for-room.ensures.some, c.room_for-room.ensures.left)) (c.in_err-count.ensures.cause refl)
    c.in_err-count.ensures.err))

pub returns-then-count-eq0-clause-ok : goal.returns-then-count-eq0-clause-ok
returns-then-count-eq0-clause-ok g c =
    let (can, before) = c.pieces.invariant in
    let start = g.D.Desk.view c.args.desk.now in
    let mid = g.D.Desk.view c.flush.new.desk in
    let now = g.D.Desk.view c.read.new.self in
    let channels = c.args.rows.now.channels in
    let ran : Rows → Rows → Type 0 = λ rows puts. g.E.Engine.ran c.args.engine.now rows puts c.pieces.engine in
    let run =
    running_flushed channels ran c.pieces.left c.args.limit c.pieces.rows c.pieces.output start
    (g.D.Desk.view c.pieces.desk) mid before
    c.in_ok-flush.ensures.never_fall c.in_ok-flush.ensures.ok in
    at_end channels ran c.pieces.left c.args.limit c.in_ok-count.count c.pieces.rows c.flush.new.self _ c.read.new.buf
    start mid now run c.in_ok-flush.ensures.empty
    (omega (arith, c.room_for-room.ensures.some, c.room_for-room.ensures.left)) c.in_ok-count.ensures.never_fall
    c.in_ok-count.ensures.ok c.if-count-eq0.true (search rules)

pub returns-in_err-run_piece-clause-err : goal.returns-in_err-run_piece-clause-err
returns-in_err-run_piece-clause-err g c =
    let (can, before) = c.pieces.invariant in
    let start = g.D.Desk.view c.args.desk.now in
    let mid = g.D.Desk.view c.flush.new.desk in
    let then = g.D.Desk.view c.read.new.self in
    let now = g.D.Desk.view c.run_piece.new.desk in
    let channels = c.args.rows.now.channels in
    let ran : Rows → Rows → Type 0 = λ rows puts. g.E.Engine.ran c.args.engine.now rows puts c.pieces.engine in
    let gives = g.E.Engine.gives c.args.engine.now in
    let meets : Rows → ConflictValue → Type 0 = λ some conflict.
    g.E.Engine.meets c.args.engine.now some conflict c.run_piece.new.engine in
    let meets_some : Rows → ConflictValue → Type 0 = λ some conflict.
    g.E.Engine.meets c.pieces.engine some conflict c.run_piece.new.engine in
    let some : Rows → Rows → Type 0 = λ rows puts. (at : g.row.E.Denot) × g.E.Engine.ran c.pieces.engine rows puts at in
    let run =
    running_flushed channels ran c.pieces.left c.args.limit c.pieces.rows c.pieces.output start
    (g.D.Desk.view c.pieces.desk) mid before
    c.in_ok-flush.ensures.never_fall c.in_ok-flush.ensures.ok in
    let n = c.in_ok-count.count in
    let step = c.in_ok-count.ensures.ok in
    let behind = drop c.room_for-room.result c.pieces.piece in
    let piece = take n (c.read.new.buf ++ behind) in
    let is = piece_is c.read.new.buf behind n _ step.room c.read.auto.buf in
    let few : n ≤ 4096 = search rules in
    let within : n ≤ c.pieces.left = search rules in
    let h =
    has_piece channels ran c.pieces.left c.args.limit n c.pieces.rows _ c.read.new.buf piece start mid then run
    c.in_ok-count.ensures.never_fall step is.0 is.1 few within in
    let ends = StopsInInput c.args.limit channels gives meets start c.run_piece.new.output now in
    let p = err_from_is_err_and c.from_residual-in_err-run_piece.result c.from_residual-in_err-run_piece.ensures.1 in
    let found =
    subst (λ w.
    EndsInPiece some meets_some c.pieces.rows piece w then c.run_piece.new.output now
    c.in_err-run_piece.field-0.0)
    c.in_ok-flush.ensures.empty c.in_err-run_piece.ensures.err in
    subst (λ r. IfErr r ends) (sym p.1)
    (subst ends (sym p.2)
    (piece_stops c.args.limit channels gives some meets meets_some c.pieces.rows run.bytes piece run.before run.puts
    start then now c.run_piece.new.output h c.in_err-run_piece.ensures.never_fall
    (λ others next it.
    g.met.E.Engine.ran_gives c.args.engine.now it.0 (run.before ++ others) (run.puts ++ next)
    (g.met.E.Engine.ran_on c.args.engine.now c.pieces.engine it.0 run.before run.puts others next run.ran_rows it.1))
    (λ others conflict met.
    g.met.E.Engine.meets_later c.args.engine.now c.pieces.engine c.run_piece.new.engine run.before run.puts others
    conflict run.ran_rows met)
    c.in_err-run_piece.field-0.0 found))

pub pieces-preserved : goal.pieces-preserved
pieces-preserved g c =
    let (can, before) = c.pieces.invariant in
    let start = g.D.Desk.view c.args.desk.now in
    let mid = g.D.Desk.view c.flush.new.desk in
    let then = g.D.Desk.view c.read.new.self in
    let now = g.D.Desk.view c.run_piece.new.desk in
    let channels = c.args.rows.now.channels in
    let ran : Rows → Rows → Type 0 = λ rows puts. g.E.Engine.ran c.args.engine.now rows puts c.pieces.engine in
    let more : Rows → Rows → Type 0 = λ rows puts. g.E.Engine.ran c.pieces.engine rows puts c.run_piece.new.engine in
    let next : Rows → Rows → Type 0 = λ rows puts. g.E.Engine.ran c.args.engine.now rows puts c.run_piece.new.engine in
    let run =
    running_flushed channels ran c.pieces.left c.args.limit c.pieces.rows c.pieces.output start
    (g.D.Desk.view c.pieces.desk) mid before
    c.in_ok-flush.ensures.never_fall c.in_ok-flush.ensures.ok in
    let n = c.in_ok-count.count in
    let step = c.in_ok-count.ensures.ok in
    let behind = drop c.room_for-room.result c.pieces.piece in
    let piece = take n (c.read.new.buf ++ behind) in
    let is = piece_is c.read.new.buf behind n _ step.room c.read.auto.buf in
    let few : n ≤ 4096 = search rules in
    let within : n ≤ c.pieces.left = search rules in
    let ended = c.in_ok-run_piece.ensures in
    let p : RunsPiece more c.pieces.rows piece [] then c.run_piece.new.rows c.run_piece.new.output now =
    subst (λ w. RunsPiece more c.pieces.rows piece w then c.run_piece.new.rows c.run_piece.new.output now)
    c.in_ok-flush.ensures.empty ended.ok in (
      record {
        is_same =
            g.met.E.Engine.same_on c.args.engine.now c.pieces.engine c.run_piece.new.engine can.is_same ended.same;
        is_ready = ended.ready;
        fits = λ row it. ended.fits row (subst (λ l. IsRow l row) (sym run.channels_are) it);
        young = omega (arith, ended.age, is.1, within, can.young);
      },
      piece_ran channels ran more next c.pieces.left c.args.limit n (c.pieces.left - n) c.pieces.rows
          c.run_piece.new.rows _ c.read.new.buf piece c.run_piece.new.output start mid then now run
          c.in_ok-count.ensures.never_fall step is.0 is.1 few (omega (arith, within)) ended.never_fall p
          (g.met.E.Engine.ran_on c.args.engine.now c.pieces.engine c.run_piece.new.engine run.before run.puts p.rows
          p.puts run.ran_rows p.ran_rows),
    )
