use Rattle.std.proofs.Common.{map}
use Rattle.elaboration_run.specs.Private.Functions.{view_of_top}
use Rattle.elaboration_run.specs.Private.States.{walked_of}
use Rattle.elaboration_run.proofs.BodyWalks.{walk_ok, walk_err, walk_meant}
use Rattle.elaboration_run.proofs.walk_functions.Goals as goal

pub enter-requires : goal.enter-requires
enter-requires c =
    walk_meant (map view_of_top c.args.functions.now) c.args.main (walked_of c.new-walked.result) c.new-walked.ensures
    c.requires

pub returns-in_err-enter : goal.returns-in_err-enter
returns-in_err-enter c =
    walk_err (map view_of_top c.args.functions.now) c.args.main (walked_of c.new-walked.result) c.new-walked.ensures _ _
    c.from_residual.ensures.1 c.in_err-enter.ensures

pub returns : goal.returns
returns c =
    walk_ok (map view_of_top c.args.functions.now) c.args.main (walked_of c.new-walked.result) c.new-walked.ensures
    (walked_of c.enter.new.walked) c.in_ok-enter.ensures
