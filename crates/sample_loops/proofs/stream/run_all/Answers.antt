-- What waits is written and the output closed, after all rows of the input and after a fault of them.
use Rattle.std.proofs.Common.{is_err, ap, IfErr, refl, sym, subst}
use Rattle.std.proofs.lemmas.Result.{IfOk-from_err, err_from_is_err_and}
use Rattle.lists.specs.Rows.{Rows}
use Rattle.desk_core.proofs.DeskLemmas.{never_fall_trans}
use Rattle.micro_image.specs.declared.conflict.Conflict.{Conflict as ConflictValue}
use Rattle.sample_loops.specs.Streams.{IsStopped, IsKept}
use Rattle.sample_loops.proofs.Endings.{input_cut, input_close_cut, run_through, stop_alone, stop_closed, stop_cut}
use Rattle.sample_loops.proofs.Growing.{perhaps_closed, close_tried}
use Rattle.sample_loops.proofs.stream.run_all.Goals as goal

pub returns-in_err-flush-in-Ok-clause-only : goal.returns-in_err-flush-in-Ok-clause-only
returns-in_err-flush-in-Ok-clause-only g c =
    let ran : Rows → Rows → Type 0 = λ some puts. g.E.Engine.ran c.args.engine.now some puts c.run_input.new.engine in
    let cut =
    input_cut c.args.limit c.args.rows.now.channels ran (g.E.Engine.gives c.args.engine.now) c.run_input.new.output
    (g.D.Desk.view c.args.desk.now) (g.D.Desk.view c.run_input.new.desk) (g.D.Desk.view c.flush.new.desk)
    c.in-Ok.ensures.ok
    (λ some puts it. g.met.E.Engine.ran_gives c.args.engine.now c.run_input.new.engine some puts it)
    (c.in_err-flush-in-Ok.ensures.cause refl) c.in_err-flush-in-Ok.ensures.err in
    cut.alone

pub returns-in_err-flush-in-Ok-clause-err : goal.returns-in_err-flush-in-Ok-clause-err
returns-in_err-flush-in-Ok-clause-err g c =
    let start = g.D.Desk.view c.args.desk.now in
    let now = g.D.Desk.view c.flush.new.desk in
    let gives = g.E.Engine.gives c.args.engine.now in
    let meets : Rows → ConflictValue → Type 0 = λ some conflict.
    g.E.Engine.meets c.args.engine.now some conflict c.run_input.new.engine in
    let ran : Rows → Rows → Type 0 = λ some puts. g.E.Engine.ran c.args.engine.now some puts c.run_input.new.engine in
    let ends = IsStopped c.args.limit c.args.rows.now.channels gives meets start now in
    let cut =
    input_cut c.args.limit c.args.rows.now.channels ran gives c.run_input.new.output start
    (g.D.Desk.view c.run_input.new.desk) now c.in-Ok.ensures.ok
    (λ some puts it. g.met.E.Engine.ran_gives c.args.engine.now c.run_input.new.engine some puts it)
    (c.in_err-flush-in-Ok.ensures.cause refl) c.in_err-flush-in-Ok.ensures.err in
    let p = err_from_is_err_and c.from_residual.result c.from_residual.ensures.1 in
    subst (λ r. IfErr r ends) (sym p.1) (subst ends (sym p.2) cut.cut)

pub returns-in_err-close-in-Ok-clause-only : goal.returns-in_err-close-in-Ok-clause-only
returns-in_err-close-in-Ok-clause-only g c =
    let ran : Rows → Rows → Type 0 = λ some puts. g.E.Engine.ran c.args.engine.now some puts c.run_input.new.engine in
    let cut =
    input_close_cut c.args.limit c.args.rows.now.channels ran (g.E.Engine.gives c.args.engine.now)
    c.run_input.new.output
    (g.D.Desk.view c.args.desk.now) (g.D.Desk.view c.run_input.new.desk) (g.D.Desk.view c.flush.new.desk)
    (g.D.Desk.view c.close.new.self) c.in-Ok.ensures.ok
    (λ some puts it. g.met.E.Engine.ran_gives c.args.engine.now c.run_input.new.engine some puts it)
    c.in_ok-flush-in-Ok.ensures.never_fall c.in_ok-flush-in-Ok.ensures.ok
    (c.in_err-close-in-Ok.ensures.cause refl) c.in_err-close-in-Ok.ensures.err in
    cut.alone

pub returns-in_err-close-in-Ok-clause-err : goal.returns-in_err-close-in-Ok-clause-err
returns-in_err-close-in-Ok-clause-err g c =
    let start = g.D.Desk.view c.args.desk.now in
    let later = g.D.Desk.view c.close.new.self in
    let gives = g.E.Engine.gives c.args.engine.now in
    let meets : Rows → ConflictValue → Type 0 = λ some conflict.
    g.E.Engine.meets c.args.engine.now some conflict c.run_input.new.engine in
    let ran : Rows → Rows → Type 0 = λ some puts. g.E.Engine.ran c.args.engine.now some puts c.run_input.new.engine in
    let ends = IsStopped c.args.limit c.args.rows.now.channels gives meets start later in
    let cut = input_close_cut c.args.limit c.args.rows.now.channels ran gives c.run_input.new.output
    start (g.D.Desk.view c.run_input.new.desk) (g.D.Desk.view c.flush.new.desk) later c.in-Ok.ensures.ok
    (λ some puts it. g.met.E.Engine.ran_gives c.args.engine.now c.run_input.new.engine some puts it)
    c.in_ok-flush-in-Ok.ensures.never_fall c.in_ok-flush-in-Ok.ensures.ok
    (c.in_err-close-in-Ok.ensures.cause refl) c.in_err-close-in-Ok.ensures.err in
    let p =
    err_from_is_err_and c.from_residual-in_err-close-in-Ok.result c.from_residual-in_err-close-in-Ok.ensures.1 in
    subst (λ r. IfErr r ends) (sym p.1) (subst ends (sym p.2) cut.cut)

pub returns-in_ok-close-in-Ok-clause-only : goal.returns-in_ok-close-in-Ok-clause-only
returns-in_ok-close-in-Ok-clause-only g c =
    let ran : Rows → Rows → Type 0 = λ some puts. g.E.Engine.ran c.args.engine.now some puts c.run_input.new.engine in
    let through = run_through c.args.limit c.args.rows.now.channels ran c.run_input.new.output
    (g.D.Desk.view c.args.desk.now) (g.D.Desk.view c.run_input.new.desk) (g.D.Desk.view c.flush.new.desk)
    (g.D.Desk.view c.close.new.self)
    c.in-Ok.ensures.ok c.in_ok-flush-in-Ok.ensures.ok c.in_ok-close-in-Ok.ensures.ok in
    through.1

pub returns-in_ok-close-in-Ok-clause-ok : goal.returns-in_ok-close-in-Ok-clause-ok
returns-in_ok-close-in-Ok-clause-ok g c =
    let ran : Rows → Rows → Type 0 = λ some puts. g.E.Engine.ran c.args.engine.now some puts c.run_input.new.engine in
    let through = run_through c.args.limit c.args.rows.now.channels ran c.run_input.new.output
    (g.D.Desk.view c.args.desk.now) (g.D.Desk.view c.run_input.new.desk) (g.D.Desk.view c.flush.new.desk)
    (g.D.Desk.view c.close.new.self)
    c.in-Ok.ensures.ok c.in_ok-flush-in-Ok.ensures.ok c.in_ok-close-in-Ok.ensures.ok in
    through.0

pub returns-in_err-flush-in_default : goal.returns-in_err-flush-in_default
returns-in_err-flush-in_default g c =
    let start = g.D.Desk.view c.args.desk.now in
    let mid = g.D.Desk.view c.run_input.new.desk in
    let now = g.D.Desk.view c.flush-in_default.new.desk in
    let channels = c.args.rows.now.channels in
    let gives = g.E.Engine.gives c.args.engine.now in
    let meets : Rows → ConflictValue → Type 0 = λ some conflict.
    g.E.Engine.meets c.args.engine.now some conflict c.run_input.new.engine in
    let ends = IsStopped c.args.limit channels gives meets start now in
    let result = c.from_residual-in_err-flush-in_default.result in
    let p = err_from_is_err_and result c.from_residual-in_err-flush-in_default.ensures.1 in
    let cut =
    stop_cut c.args.limit channels gives meets start mid c.run_input.new.output c.in-Err.fault now
    c.in_default.not-Desk c.in-Err.ensures.err
    (c.in_err-flush-in_default.ensures.cause refl) c.in_err-flush-in_default.ensures.err in
    record {
      never_fall =
          never_fall_trans start mid now c.in-Err.ensures.never_fall c.in_err-flush-in_default.ensures.never_fall;
      only = cut.alone;
      same = c.in-Err.ensures.same;
      channels = c.in-Err.ensures.channels;
      kept =
          subst (λ r. IfErr r (IsKept c.run_input.new.rows)) (sym p.1)
          (subst (IsKept c.run_input.new.rows) (sym p.2) tt);
      ok = IfOk-from_err result _ (ap is_err p.1);
      err = subst (λ r. IfErr r ends) (sym p.1) (subst ends (sym p.2) cut.cut);
    }

pub returns-in_ok-flush-in_default : goal.returns-in_ok-flush-in_default
returns-in_ok-flush-in_default g c =
    let start = g.D.Desk.view c.args.desk.now in
    let mid = g.D.Desk.view c.run_input.new.desk in
    let now = g.D.Desk.view c.flush-in_default.new.desk in
    let later = g.D.Desk.view c.close-in_default.new.self in
    let channels = c.args.rows.now.channels in
    let gives = g.E.Engine.gives c.args.engine.now in
    let meets : Rows → ConflictValue → Type 0 = λ some conflict.
    g.E.Engine.meets c.args.engine.now some conflict c.run_input.new.engine in
    let waits = c.run_input.new.output in
    let flushed = c.in_ok-flush-in_default.ensures in
    let close = c.close-in_default in
    let closed = perhaps_closed close.result now later close.ensures.ok close.ensures.err in
    let tried = close_tried close.result now later close.ensures.ok close.ensures.cause in
    record {
      never_fall =
          never_fall_trans start now later
          (never_fall_trans start mid now c.in-Err.ensures.never_fall flushed.never_fall)
          c.close-in_default.ensures.never_fall;
      only =
          stop_alone c.args.limit channels gives meets start mid waits c.in-Err.fault now later c.in_default.not-Desk
          c.in-Err.ensures.err flushed.ok closed;
      same = c.in-Err.ensures.same;
      channels = c.in-Err.ensures.channels;
      kept = c.in-Err.ensures.kept;
      ok = tt;
      err =
          stop_closed c.args.limit channels gives meets start mid waits c.in-Err.fault now later c.in_default.not-Desk
          c.in-Err.ensures.err flushed.never_fall flushed.ok closed tried;
    }
