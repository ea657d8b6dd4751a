use Rattle.silc_files.proofs.Results.{at_error}
use Rattle.same_source.specs.OnPath.{IsPathRefusal}
use Rattle.same_source.proofs.on_path.fits_datapath.Goals as goal

pub returns-in_err-datapath-clause-refused : goal.returns-in_err-datapath-clause-refused
returns-in_err-datapath-clause-refused c =
    at_error c.from_residual.result c.in_err-datapath.field-0.0 c.from_residual.ensures.1
    (IsPathRefusal c.args.microcode.now c.args.path.now) (c.in_err-datapath.ensures.err c.args.microcode.now)

pub returns-in_err-image-clause-refused : goal.returns-in_err-image-clause-refused
returns-in_err-image-clause-refused c =
    at_error c.from_residual-in_err-image.result c.in_err-image.field-0.0 c.from_residual-in_err-image.ensures.1
    (IsPathRefusal c.args.microcode.now c.args.path.now)
    (c.in_err-image.ensures.err c.args.path.now (c.in_ok-datapath.datapath, c.in_ok-datapath.ensures.described))
