-- The LL(1) machine goes over the tokens to the program.
use Rattle.std.proofs.Common.{refl}
use Rattle.worked_values.specs.Programs.{kinds, tokens_from}
use Rattle.worked_values.proofs.Parsing.{run, only_by_run}
use Rattle.worked_values.proofs.programs.Goals as goal

pub returns-clause-program : goal.returns-clause-program
unfolding run
returns-clause-program _ = only_by_run (tokens_from 0 kinds) 6000 _ refl

pub returns-clause-weights : goal.returns-clause-weights
returns-clause-weights _ = (refl, refl)
