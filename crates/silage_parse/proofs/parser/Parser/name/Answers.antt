use Rattle.silage_parse.specs.Private.ParseTable.{AName}
use Rattle.silage_parse.specs.Private.Parsed.{next}
use Rattle.silage_parse.proofs.Steps.{sym, [], ◌∷◌, unlike, fault_is}
use Rattle.silage_parse.proofs.Tokens.{is_a_name, no_name, name_known}
use Rattle.silage_parse.proofs.parser.Parser.name.Goals as goal

pub returns-in_default : goal.returns-in_default
returns-in_default c =
    rw c.syntax.ensures (unlike c.args.self.now (no_name (next c.args.self.now) (sym c.in_default.ensures.value)))

pub returns-in_err-advance : goal.returns-in_err-advance
returns-in_err-advance c =
    rw (fault_is c.from_residual-in_err-advance.result c.from_residual-in_err-advance.ensures.1)
    (c.in_err-advance.ensures (AName ∷ []) (is_a_name (next c.args.self.now) (sym c.in-Some.ensures.value)))

pub returns : goal.returns
returns c =
    let known = name_known (next c.args.self.now) (sym c.in-Some.ensures.value) in (
      c.in_ok-advance.ensures.as_one_of (AName ∷ []) (is_a_name (next c.args.self.now) (sym c.in-Some.ensures.value)),
      cc (known, c.in_ok-name.ensures.cases),
    )
