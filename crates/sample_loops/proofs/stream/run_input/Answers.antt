-- The pieces ran, and then the last row.
use Rattle.std.proofs.Common.{[], subst}
use Rattle.std.proofs.lemmas.Result.{IfErr-weaker, on_ok_weaker}
use Rattle.lists.specs.Rows.{Rows}
use Rattle.micro_image.specs.declared.conflict.Conflict.{Conflict as ConflictValue}
use Rattle.sample_loops.specs.Private.Running.{RunsEnd, StopsAtEnd}
use Rattle.sample_loops.specs.Private.Streaming.{StopsInInput}
use Rattle.sample_loops.proofs.Endings.{end_ran, end_stops}
use Rattle.sample_loops.proofs.stream.run_input.Goals as goal

pub returns-clause-ok : goal.returns-clause-ok
returns-clause-ok g c =
    let start = g.D.Desk.view c.args.desk.now in
    let mid = g.D.Desk.view c.run_pieces.new.desk in
    let now = g.D.Desk.view c.run_end.new.desk in
    let rows = c.run_pieces.new.rows in
    let waited = c.run_pieces.new.output in
    let waits = c.run_end.new.output in
    let ran : Rows → Rows → Type 0 = λ some puts. g.E.Engine.ran c.args.engine.now some puts c.run_pieces.new.engine in
    let more : Rows → Rows → Type 0 = λ some puts.
    g.E.Engine.ran c.run_pieces.new.engine some puts c.run_end.new.engine in
    let next : Rows → Rows → Type 0 = λ some puts. g.E.Engine.ran c.args.engine.now some puts c.run_end.new.engine in
    let end = c.in_ok-run_pieces.ensures.ok in
    on_ok_weaker c.run_end.result (λ (q : RunsEnd more rows waited mid waits now).
    let p : RunsEnd more rows [] mid waits now = subst (λ w. RunsEnd more rows w mid waits now) end.none_waits q in
    end_ran c.args.rows.now.channels ran more next c.args.limit rows waited waits start mid now end
    c.run_end.ensures.never_fall p
    (g.met.E.Engine.ran_on c.args.engine.now c.run_pieces.new.engine c.run_end.new.engine end.running.before
    end.running.puts p.rows p.puts end.running.ran_rows p.given))
    c.run_end.ensures.ok

pub returns-clause-err : goal.returns-clause-err
returns-clause-err g c =
    let start = g.D.Desk.view c.args.desk.now in
    let mid = g.D.Desk.view c.run_pieces.new.desk in
    let now = g.D.Desk.view c.run_end.new.desk in
    let channels = c.args.rows.now.channels in
    let rows = c.run_pieces.new.rows in
    let waited = c.run_pieces.new.output in
    let waits = c.run_end.new.output in
    let ran : Rows → Rows → Type 0 = λ some puts. g.E.Engine.ran c.args.engine.now some puts c.run_pieces.new.engine in
    let gives = g.E.Engine.gives c.args.engine.now in
    let meets : Rows → ConflictValue → Type 0 = λ some conflict.
    g.E.Engine.meets c.args.engine.now some conflict c.run_end.new.engine in
    let meets_some : Rows → ConflictValue → Type 0 = λ some conflict.
    g.E.Engine.meets c.run_pieces.new.engine some conflict c.run_end.new.engine in
    let end = c.in_ok-run_pieces.ensures.ok in
    let run = end.running in
    IfErr-weaker c.run_end.result (StopsAtEnd meets_some rows waited mid waits now)
    (StopsInInput c.args.limit channels gives meets start waits now)
    (λ fault q.
    end_stops channels ran gives meets meets_some c.args.limit rows waited waits start mid now end
    (g.met.E.Engine.ran_gives c.args.engine.now c.run_pieces.new.engine run.before run.puts run.ran_rows)
    (λ others conflict met.
    g.met.E.Engine.meets_later c.args.engine.now c.run_pieces.new.engine c.run_end.new.engine run.before run.puts
    others conflict run.ran_rows met)
    c.run_end.ensures.never_fall fault (subst (λ w. StopsAtEnd meets_some rows w mid waits now fault) end.none_waits q))
    c.run_end.ensures.err
