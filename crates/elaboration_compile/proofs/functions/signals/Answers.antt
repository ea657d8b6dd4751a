use Rattle.std.proofs.Common.{arith}
use Rattle.std.proofs.lemmas.Grind.{common_steps}
use Rattle.elaboration_compile.proofs.Callees.{signals_from-append}
use Rattle.elaboration_compile.proofs.functions.signals.Goals as goal

pub returns : goal.returns
returns c = grind (arith, common_steps, signals_from-append)
