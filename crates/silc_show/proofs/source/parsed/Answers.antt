use Rattle.type_rules.proofs.ShortNumbers.{short_numbers}
use Rattle.silage_syntax.specs.Tree.{view}
use Rattle.loop_expand.proofs.SomeSignals.{parameters_and_results}
use Rattle.silc_show.proofs.source.parsed.Goals as goal

pub returns-in-Ok-clause-numbers : goal.returns-in-Ok-clause-numbers
returns-in-Ok-clause-numbers c =
    short_numbers c.args.source.now c.args.tokens.now (view c.in-Ok.program) c.requires
    c.in-Ok.ensures.program.is.derives

pub returns-in-Ok-clause-results : goal.returns-in-Ok-clause-results
returns-in-Ok-clause-results c = λ k f e.
    (parameters_and_results c.args.tokens.now (view c.in-Ok.program) c.in-Ok.ensures.program.is.derives k f e).1
