use Rattle.std.proofs.Common.{length}
use Rattle.elaboration_compile.proofs.checks.+put_subscripts.Given as goal

abbrev pub decreases-put_subscripts : goal.decreases-put_subscripts
decreases-put_subscripts l = length l.dims.now
