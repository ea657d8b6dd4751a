use Rattle.placed_stages.proofs.Fitting.{decided}
use Rattle.placed_stages.proofs.placing.fits_at.Goals as goal

pub returns : goal.returns
returns c =
    decided c.args.table.now c.args.unit c.args.cycle c.args.end c.args.ports.now c.requires.end c.first_fit.result
    c.is_some.result c.first_fit.ensures c.is_some.ensures
