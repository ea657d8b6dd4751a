use Rattle.std.proofs.Common.{ap, ◌∙◌, Some, None}
use Rattle.std.specs.Option.{option_copied}
use Rattle.name_check.specs.Private.Views.{context_of}
use Rattle.name_rules.proofs.FoundNames.{signal_is}
use Rattle.name_check.proofs.lookups.signal.Goals as goal

pub returns-in_err-position : goal.returns-in_err-position
returns-in_err-position c =
    ap option_copied c.from_residual.ensures
    ∙ signal_is (context_of c.args.context.now).func c.args.context.now.signals.now c.args.name.now
    c.args.context.now.declared None c.in_err-position.ensures

pub returns : goal.returns
returns c =
    c.signal_at.ensures
    ∙ signal_is (context_of c.args.context.now).func c.args.context.now.signals.now c.args.name.now
    c.args.context.now.declared (Some c.in_ok-position.position) c.in_ok-position.ensures
