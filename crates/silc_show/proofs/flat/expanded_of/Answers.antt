use Rattle.silage_syntax.specs.Tree.{view}
use Rattle.front_end.proofs.Counts.{short_numbers, results}
use Rattle.silc_show.proofs.NodeOrigins.{of_one}
use Rattle.silc_show.proofs.flat.expanded_of.Goals as goal

pub expanded-requires-clause-results : goal.expanded-requires-clause-results
expanded-requires-clause-results c = results c.args.source.now (view c.args.program.now) c.requires.read

pub typed-requires-clause-numbers : goal.typed-requires-clause-numbers
typed-requires-clause-numbers c = short_numbers c.args.source.now (view c.args.program.now) c.requires.read

pub expand-requires : goal.expand-requires
expand-requires c =
    of_one c.args.source.now (view c.args.program.now) c.in_ok-typed.typed c.in_ok-elements.elements c.requires
    c.in_ok-typed.ensures c.in_ok-elements.ensures
