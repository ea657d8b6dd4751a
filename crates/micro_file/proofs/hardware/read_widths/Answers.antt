use Rattle.std.proofs.Common.{[]}
use Rattle.std.proofs.lemmas.Result.{err_from_is_err_and}
use Rattle.micro_file.specs.Private.Fields.{many_at}
use Rattle.micro_file.proofs.Many.{goes_on, ends, is_done}
use Rattle.micro_file.proofs.hardware.read_widths.Goals as goal

pub returns-in_err-width : goal.returns-in_err-width
returns-in_err-width g c =
    let form = g.R.Fields.form in
    let rest = g.R.Fields.rest in
    let p = err_from_is_err_and c.from_residual-in_err-width.result c.from_residual-in_err-width.ensures.1 in
    rw (p.1, p.2)
    (ends (λ _. form.width) c.loop.widths c.args.count c.loop.counter (rest c.loop.reader)
    (many_at (λ _. form.width) [] c.args.count (rest c.args.reader.now)) c.loop.invariant c.in_err-width.field-0.0
    c.loop-test.true c.in_err-width.ensures)

pub loop-preserved : goal.loop-preserved
loop-preserved g c =
    let form = g.R.Fields.form in
    let rest = g.R.Fields.rest in
    rw c.in_ok-push.ensures.ok
    (goes_on (λ _. form.width) c.loop.widths c.args.count c.loop.counter (rest c.loop.reader)
    (many_at (λ _. form.width) [] c.args.count (rest c.args.reader.now)) c.loop.invariant c.in_ok-width.width
    (rest c.width.new.self) c.loop-test.true c.in_ok-width.ensures)

pub returns : goal.returns
returns g c =
    let form = g.R.Fields.form in
    let rest = g.R.Fields.rest in
    is_done (λ _. form.width) c.loop.widths c.args.count c.loop.counter (rest c.loop.reader)
    (many_at (λ _. form.width) [] c.args.count (rest c.args.reader.now)) c.loop.invariant c.loop-test.false
