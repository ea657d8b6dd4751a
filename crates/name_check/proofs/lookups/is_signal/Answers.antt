use Rattle.std.proofs.Common.{ap, sym, ◌∙◌, is_some}
use Rattle.silage_syntax.specs.Names.{declared}
use Rattle.name_check.specs.Private.Views.{context_of}
use Rattle.name_rules.proofs.FoundNames.{is_some-map, is_some-copied}
use Rattle.name_check.proofs.lookups.is_signal.Goals as goal

pub returns : goal.returns
returns c =
    let f = (context_of c.args.context.now).func in
    c.is_some.ensures ∙ sym (is_some-copied c.signal.result) ∙ ap is_some c.signal.ensures
    ∙ is_some-map (λ d. d.1) (declared f c.args.name.now)
