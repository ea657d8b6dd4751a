-- The row that the end of input ends runs, where there is one.
use Rattle.std.proofs.Common.{[], ◌∷◌, IfErr, sym, subst}
use Rattle.std.proofs.lemmas.List.{append-nil}
use Rattle.std.proofs.lemmas.Result.{err_from_is_err_and}
use Rattle.lists.specs.Rows.{Rows}
use Rattle.micro_image.specs.declared.conflict.Conflict.{Conflict as ConflictValue}
use Rattle.sample_io.specs.Pieces.{EndsInput}
use Rattle.sample_loops.specs.Private.Running.{StopsAtEnd, EndsAtRow}
use Rattle.sample_loops.proofs.Appending.{appended_none}
use Rattle.sample_loops.proofs.Piecing.{last_shown, last_ends, none_ends}
use Rattle.sample_loops.proofs.Stops.{stops_at_end}
use Rattle.sample_loops.proofs.stream.run_end.Goals as goal

pub run_row-requires-clause-row : goal.run_row-requires-clause-row
run_row-requires-clause-row g c =
    let ends = subst (EndsInput c.args.rows.now c.finish.new.self) c.in-Row.is c.in_ok-finish.ensures.ends in
    subst (g.E.Engine.accepts c.args.engine.now) (sym c.row.ensures.row)
    (c.requires.fits c.finish.new.self.row
    (last_shown c.args.rows.now c.finish.new.self c.in-Row.field-0 c.requires.room c.requires.running ends))

pub returns-in_err-run_row-clause-err : goal.returns-in_err-run_row-clause-err
returns-in_err-run_row-clause-err g c =
    let start = g.D.Desk.view c.args.desk.now in
    let now = g.D.Desk.view c.run_row.new.desk in
    let meets : Rows → ConflictValue → Type 0 = λ ran conflict.
    g.E.Engine.meets c.args.engine.now ran conflict c.run_row.new.engine in
    let row = c.finish.new.self.row in
    let ends = subst (EndsInput c.args.rows.now c.finish.new.self) c.in-Row.is c.in_ok-finish.ensures.ends in
    let stops = StopsAtEnd meets c.args.rows.now c.args.output.now start c.run_row.new.output now in
    let p = err_from_is_err_and c.from_residual-in_err-run_row.result c.from_residual-in_err-run_row.ensures.1 in
    let at_row =
    subst
    (λ r. EndsAtRow (meets (r ∷ [])) c.args.output.now c.run_row.new.output start now c.in_err-run_row.field-0.0)
    c.row.ensures.row c.in_err-run_row.ensures.err in
    subst (λ r. IfErr r stops) (sym p.1)
    (subst stops (sym p.2)
    (stops_at_end meets c.args.rows.now c.args.output.now start c.run_row.new.output now row
    (last_ends c.args.rows.now c.finish.new.self c.in-Row.field-0 ends)
    c.in_err-run_row.field-0.0 at_row))

pub returns-in_default-clause-ok : goal.returns-in_default-clause-ok
returns-in_default-clause-ok g c = record {
  rows = [];
  puts = [];
  ends =
      none_ends c.args.rows.now c.finish.new.self c.in_ok-finish.field-0 c.in_ok-finish.ensures.ends
      c.in_default.not-Row;
  given = g.met.E.Engine.none_ran c.args.engine.now;
  passes = ([], sym (append-nil c.args.output.now), appended_none (g.D.Desk.view c.args.desk.now));
}
