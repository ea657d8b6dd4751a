use Rattle.std.proofs.Common.{[]}
use Rattle.std.proofs.lemmas.Result.{err_from_is_err_and}
use Rattle.micro_file.specs.Private.Fields.{many_at}
use Rattle.micro_file.specs.Private.Words.{issue_at}
use Rattle.micro_file.proofs.Many.{goes_on, ends, is_done}
use Rattle.micro_file.proofs.byte_words.read_several.Goals as goal

pub returns-in_err-issue : goal.returns-in_err-issue
returns-in_err-issue c =
    let p = err_from_is_err_and c.from_residual-in_err-issue.result c.from_residual-in_err-issue.ensures.1 in
    rw (p.1, p.2)
    (ends (issue_at c.args.image.now) c.loop.issues c.args.count c.loop.counter c.loop.reader
    (many_at (issue_at c.args.image.now) [] c.args.count c.args.reader.now) c.loop.invariant c.in_err-issue.field-0.0
    c.loop-test.true c.in_err-issue.ensures)

pub loop-preserved : goal.loop-preserved
loop-preserved c =
    rw c.in_ok-push.ensures.ok
    (goes_on (issue_at c.args.image.now) c.loop.issues c.args.count c.loop.counter c.loop.reader
    (many_at (issue_at c.args.image.now) [] c.args.count c.args.reader.now) c.loop.invariant c.in_ok-issue.issue
    c.read_issue.new.reader c.loop-test.true c.in_ok-issue.ensures)

pub returns : goal.returns
returns c =
    is_done (issue_at c.args.image.now) c.loop.issues c.args.count c.loop.counter c.loop.reader
    (many_at (issue_at c.args.image.now) [] c.args.count c.args.reader.now) c.loop.invariant c.loop-test.false
