use Rattle.lists.proofs.Results.{on_ok}
use Rattle.silage_syntax.specs.Tree.{view}
use Rattle.silc_files.proofs.Results.{at_error}
use Rattle.same_source.specs.Same.{IsRefusal}
use Rattle.same_source.proofs.Shown.{runs_source}
use Rattle.same_source.proofs.comparison.runs_source.Goals as goal

pub returns-in_err-accepted-clause-refused : goal.returns-in_err-accepted-clause-refused
returns-in_err-accepted-clause-refused c =
    at_error c.from_residual.result c.in_err-accepted.field-0.0 c.from_residual.ensures.1
    (IsRefusal c.args.source.now c.args.microcode.now) (c.in_err-accepted.ensures.err c.args.microcode.now)

pub returns-in_err-image-clause-refused : goal.returns-in_err-image-clause-refused
returns-in_err-image-clause-refused c =
    at_error c.from_residual-in_err-image.result c.in_err-image.field-0.0 c.from_residual-in_err-image.ensures.1
    (IsRefusal c.args.source.now c.args.microcode.now)
    (c.in_err-image.ensures.err c.args.source.now
    (view c.in_ok-accepted.accepted.program, c.in_ok-accepted.ensures.ok))

pub returns-clause-runs : goal.returns-clause-runs
returns-clause-runs c =
    on_ok c.check_image.result _ _
    (runs_source c.args.source.now c.args.microcode.now (view c.in_ok-accepted.accepted.program)
    c.in_ok-accepted.accepted.graph c.in_ok-image.image c.in_ok-accepted.ensures.ok c.in_ok-accepted.ensures.graph
    c.in_ok-image.ensures.only)
    c.check_image.ensures.runs
