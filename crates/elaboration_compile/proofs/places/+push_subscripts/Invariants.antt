use Rattle.std.proofs.Common.{length}
use Rattle.elaboration_compile.proofs.places.+push_subscripts.Given as goal

abbrev pub decreases-push_subscripts : goal.decreases-push_subscripts
decreases-push_subscripts l = length l.dims.now
