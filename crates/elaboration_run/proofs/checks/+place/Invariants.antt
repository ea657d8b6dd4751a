use Rattle.std.proofs.Common.{length}
use Rattle.elaboration_run.proofs.checks.+place.Given as goal

abbrev pub decreases-place : goal.decreases-place
decreases-place l = length l.subs.now
