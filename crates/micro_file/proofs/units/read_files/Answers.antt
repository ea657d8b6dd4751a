use Rattle.std.proofs.Common.{[]}
use Rattle.std.proofs.lemmas.Result.{err_from_is_err_and}
use Rattle.micro_file.specs.Private.Fields.{many_at}
use Rattle.micro_file.specs.Private.Units.{file_at}
use Rattle.micro_file.proofs.Many.{goes_on, ends, is_done}
use Rattle.micro_file.proofs.units.read_files.Goals as goal

pub returns-in_err-file : goal.returns-in_err-file
returns-in_err-file g c =
    let form = g.R.Fields.form in
    let rest = g.R.Fields.rest in
    let p = err_from_is_err_and c.from_residual-in_err-file.result c.from_residual-in_err-file.ensures.1 in
    rw (p.1, p.2)
    (ends (λ _. file_at form) c.loop.files c.args.count c.loop.counter (rest c.loop.reader)
    (many_at (λ _. file_at form) [] c.args.count (rest c.args.reader.now)) c.loop.invariant c.in_err-file.field-0.0
    c.loop-test.true c.in_err-file.ensures)

pub loop-preserved : goal.loop-preserved
loop-preserved g c =
    let form = g.R.Fields.form in
    let rest = g.R.Fields.rest in
    rw c.in_ok-push.ensures.ok
    (goes_on (λ _. file_at form) c.loop.files c.args.count c.loop.counter (rest c.loop.reader)
    (many_at (λ _. file_at form) [] c.args.count (rest c.args.reader.now)) c.loop.invariant c.in_ok-file.file
    (rest c.read_file.new.reader) c.loop-test.true c.in_ok-file.ensures)

pub returns : goal.returns
returns g c =
    let form = g.R.Fields.form in
    let rest = g.R.Fields.rest in
    is_done (λ _. file_at form) c.loop.files c.args.count c.loop.counter (rest c.loop.reader)
    (many_at (λ _. file_at form) [] c.args.count (rest c.args.reader.now)) c.loop.invariant c.loop-test.false
