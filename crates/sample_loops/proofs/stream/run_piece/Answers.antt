-- A row that ends in the piece runs, and what it puts is passed on.
use Rattle.std.proofs.Common.{[], ◌∷◌, ◌++◌, length, drop, IfErr, refl, sym, subst, arith, length-drop}
use Rattle.std.proofs.lemmas.List.{append-nil}
use Rattle.std.proofs.lemmas.Result.{err_from_is_err_and}
use Rattle.lists.specs.Rows.{Rows}
use Rattle.micro_image.specs.declared.conflict.Conflict.{Conflict as ConflictValue}
use Rattle.desk_core.proofs.DeskLemmas.{never_fall_trans}
use Rattle.sample_io.specs.declared.pieces.Step.TheVariants.{Row}
use Rattle.sample_io.specs.Pieces.{CanTake, TakesPiece, MeetsFault}
use Rattle.sample_io.specs.Samples.{printed, printed_row}
use Rattle.sample_loops.specs.Private.Buffers.{PassesOn}
use Rattle.sample_loops.specs.Private.Running.{EndsInPiece}
use Rattle.sample_loops.proofs.Appending.{appended_none}
use Rattle.sample_loops.proofs.Growing.{never_fall_same}
use Rattle.sample_loops.proofs.Passing.{passes_more, printed-push, as_many_more}
use Rattle.sample_loops.proofs.Piecing.{takes_none, rest_of, room_for_rest, row_shown, takes_more, takes_end}
use Rattle.sample_loops.proofs.Piecing.{fault_after, lines_ended}
use Rattle.sample_loops.proofs.Stops.{ends_at_row}
use Rattle.sample_loops.proofs.stream.run_piece.Goals as goal

pub rows-init : goal.rows-init
rows-init g c =
    let now = g.D.Desk.view c.args.desk.now in (
      record {
        never_fall = never_fall_same now;
        within = omega arith;
        is_same = g.met.E.Engine.same_self c.args.engine.now;
        is_ready = c.requires.ready;
        fits = c.requires.fits;
        young = omega arith;
      },
      record {
        rows = [];
        puts = [];
        takes = takes_none c.args.rows.now c.args.piece.now;
        as_many = refl;
        ran_rows = g.met.E.Engine.none_ran c.args.engine.now;
        passes = ([], sym (append-nil c.args.output.now), appended_none now);
      },
    )

pub feed-requires : goal.feed-requires
feed-requires g c =
    let (sofar, run) = c.rows.invariant in
    let piece = c.args.piece.now in
    subst (λ p. CanTake c.rows.rows (length p)) (sym (rest_of piece c.rows.at sofar.within))
    (room_for_rest c.args.rows.now c.rows.rows piece c.rows.at run.rows c.requires.room c.requires.running sofar.within
    run.takes)

pub run_row-requires-clause-row : goal.run_row-requires-clause-row
run_row-requires-clause-row g c =
    let (sofar, run) = c.rows.invariant in
    let piece = c.args.piece.now in
    let found : TakesPiece c.rows.rows (drop c.rows.at piece) c.feed.new.self (Row c.in-Row.count) =
    subst (TakesPiece c.rows.rows (drop c.rows.at piece) c.feed.new.self) c.in-Row.is
    (subst (λ p. TakesPiece c.rows.rows p c.feed.new.self c.in_ok-count.field-0) (rest_of piece c.rows.at sofar.within)
    c.in_ok-count.ensures.takes) in
    subst (g.E.Engine.accepts c.rows.engine) (sym c.row.ensures.row)
    (sofar.fits c.feed.new.self.row
    (row_shown c.args.rows.now c.rows.rows c.feed.new.self piece c.rows.at c.in-Row.count run.rows c.requires.room
    c.requires.running run.takes found))

pub rows-preserved : goal.rows-preserved
rows-preserved g c =
    let (sofar, run) = c.rows.invariant in
    let piece = c.args.piece.now in
    let found : TakesPiece c.rows.rows (drop c.rows.at piece) c.feed.new.self (Row c.in-Row.count) =
    subst (TakesPiece c.rows.rows (drop c.rows.at piece) c.feed.new.self) c.in-Row.is
    (subst (λ p. TakesPiece c.rows.rows p c.feed.new.self c.in_ok-count.field-0) (rest_of piece c.rows.at sofar.within)
    c.in_ok-count.ensures.takes) in
    let ran = c.in_ok-run_row.ensures in
    let put = ran.ok.0 in
    let row = c.feed.new.self.row in
    let step =
    subst (λ r. g.E.Engine.ran c.rows.engine (r ∷ []) (put ∷ []) c.run_row.new.engine) c.row.ensures.row ran.ok.1 in
    let start = g.D.Desk.view c.args.desk.now in
    let before = g.D.Desk.view c.rows.desk in
    let now = g.D.Desk.view c.run_row.new.desk in (
      record {
        never_fall = never_fall_trans _ _ _ sofar.never_fall ran.never_fall;
        within = omega (arith, length-drop c.rows.at piece, found.1, sofar.within);
        is_same = g.met.E.Engine.same_on c.args.engine.now c.rows.engine c.run_row.new.engine sofar.is_same ran.same;
        is_ready = ran.ready;
        fits = λ other is. ran.accepts other (sofar.fits other is);
        young = omega (arith, ran.age, sofar.young, found.0);
      },
      record {
        rows = run.rows ++ row ∷ [];
        puts = run.puts ++ put ∷ [];
        as_many = as_many_more run.rows run.puts row put run.as_many;
        takes =
            takes_more c.args.rows.now c.rows.rows c.feed.new.self piece c.rows.at c.in-Row.count run.rows run.takes
            c.in_ok-count.ensures.channels found;
        ran_rows =
            g.met.E.Engine.ran_on c.args.engine.now c.rows.engine c.run_row.new.engine run.rows run.puts (row ∷ [])
            (put ∷ []) run.ran_rows step;
        passes =
            subst (λ text. PassesOn c.args.output.now text c.run_row.new.output start now)
            (sym (printed-push run.puts put))
            (passes_more c.args.output.now (printed run.puts) c.rows.output (printed_row put) c.run_row.new.output start
            before now run.passes ran.ok.2);
      },
    )

pub returns-clause-ok : goal.returns-clause-ok
returns-clause-ok g c =
    let (sofar, run) = c.rows.invariant in
    let piece = c.args.piece.now in
    let ended =
    subst (λ p. TakesPiece c.rows.rows p c.feed.new.self c.in_ok-count.field-0)
    (rest_of piece c.rows.at sofar.within) c.in_ok-count.ensures.takes in
    record {
      rows = run.rows;
      puts = run.puts;
      as_many = run.as_many;
      takes =
          takes_end c.args.rows.now c.rows.rows c.feed.new.self piece c.rows.at run.rows c.in_ok-count.field-0 run.takes
          c.in_ok-count.ensures.channels ended c.in_default.not-Row;
      ran_rows = run.ran_rows;
      passes = run.passes;
    }

pub returns-in_err-count-clause-err : goal.returns-in_err-count-clause-err
returns-in_err-count-clause-err g c =
    let (sofar, run) = c.rows.invariant in
    let piece = c.args.piece.now in
    let ends =
    EndsInPiece (λ ran puts. (mid : g.row.E.Denot) × g.E.Engine.ran c.args.engine.now ran puts mid)
    (λ ran conflict. g.E.Engine.meets c.args.engine.now ran conflict c.rows.engine) c.args.rows.now piece
    c.args.output.now (g.D.Desk.view c.args.desk.now)
    c.rows.output (g.D.Desk.view c.rows.desk) in
    let p = err_from_is_err_and c.from_residual.result c.from_residual.ensures.1 in
    let meets =
    subst (λ b. MeetsFault c.rows.rows b c.in_err-count.field-0.0) (rest_of piece c.rows.at sofar.within)
    c.in_err-count.ensures.fault in
    subst (λ r. IfErr r ends) (sym p.1)
    (subst ends (sym p.2) (
      run.rows,
      run.puts,
      (c.rows.engine, run.ran_rows),
      run.passes,
      fault_after c.args.rows.now c.rows.rows piece c.rows.at run.rows c.in_err-count.field-0.0 run.takes meets,
    ))

pub returns-in_err-run_row-clause-err : goal.returns-in_err-run_row-clause-err
returns-in_err-run_row-clause-err g c =
    let (sofar, run) = c.rows.invariant in
    let piece = c.args.piece.now in
    let start = g.D.Desk.view c.args.desk.now in
    let before = g.D.Desk.view c.rows.desk in
    let now = g.D.Desk.view c.run_row.new.desk in
    let gives : Rows → Rows → Type 0 = λ ran puts.
    (mid : g.row.E.Denot) × g.E.Engine.ran c.args.engine.now ran puts mid in
    let meets : Rows → ConflictValue → Type 0 = λ ran conflict.
    g.E.Engine.meets c.args.engine.now ran conflict c.run_row.new.engine in
    let ends = EndsInPiece gives meets c.args.rows.now piece c.args.output.now start c.run_row.new.output now in
    let found : TakesPiece c.rows.rows (drop c.rows.at piece) c.feed.new.self (Row c.in-Row.count) =
    subst (TakesPiece c.rows.rows (drop c.rows.at piece) c.feed.new.self) c.in-Row.is
    (subst (λ b. TakesPiece c.rows.rows b c.feed.new.self c.in_ok-count.field-0) (rest_of piece c.rows.at sofar.within)
    c.in_ok-count.ensures.takes) in
    let row = c.feed.new.self.row in
    let given : gives run.rows run.puts = (c.rows.engine, run.ran_rows) in
    let lines =
    lines_ended c.args.rows.now c.rows.rows c.feed.new.self piece c.rows.at c.in-Row.count run.rows sofar.within
    run.takes found in
    let p = err_from_is_err_and c.from_residual-in_err-run_row.result c.from_residual-in_err-run_row.ensures.1 in
    subst (λ r. IfErr r ends) (sym p.1)
    (subst ends (sym p.2)
    (ends_at_row gives meets
    (λ conflict. g.E.Engine.meets c.rows.engine (c.row.result.now ∷ []) conflict c.run_row.new.engine) c.args.rows.now
    piece c.args.output.now start c.rows.output before c.run_row.new.output now
    run.rows run.puts row given
    (λ conflict one.
    g.met.E.Engine.meets_later c.args.engine.now c.rows.engine c.run_row.new.engine run.rows run.puts (row ∷ [])
    conflict run.ran_rows
    (subst (λ r. g.E.Engine.meets c.rows.engine (r ∷ []) conflict c.run_row.new.engine) c.row.ensures.row one))
    lines sofar.never_fall run.passes c.in_err-run_row.field-0.0 c.in_err-run_row.ensures.err))
