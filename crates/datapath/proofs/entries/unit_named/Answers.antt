use Rattle.datapath.proofs.Named.{named_from}
use Rattle.datapath.proofs.entries.unit_named.Goals as goal

pub returns-in-Some-clause-value : goal.returns-in-Some-clause-value
returns-in-Some-clause-value c =
    named_from c.args.units.now c.args.name.now c.requires.distinct c.min-near.result c.in-Some.steps
    c.in-Some.ensures.value
