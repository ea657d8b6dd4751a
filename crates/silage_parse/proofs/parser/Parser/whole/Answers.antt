use Rattle.silage_parse.specs.Private.ParseTable.{AWhole}
use Rattle.silage_parse.specs.Private.Parsed.{next}
use Rattle.silage_parse.proofs.Steps.{sym, [], ◌∷◌, unlike, fault_is}
use Rattle.silage_parse.proofs.Tokens.{is_a_whole, no_whole, whole_known}
use Rattle.silage_parse.proofs.parser.Parser.whole.Goals as goal

pub returns-in_default : goal.returns-in_default
returns-in_default c =
    rw c.syntax.ensures (unlike c.args.self.now (no_whole (next c.args.self.now) (sym c.in_default.ensures.value)))

pub returns-in_err-advance : goal.returns-in_err-advance
returns-in_err-advance c =
    rw (fault_is c.from_residual.result c.from_residual.ensures.1)
    (c.in_err-advance.ensures (AWhole ∷ []) (is_a_whole (next c.args.self.now) (sym c.in-Some.ensures.value)))

pub returns : goal.returns
returns c = (
  c.in_ok-advance.ensures.as_one_of (AWhole ∷ []) (is_a_whole (next c.args.self.now) (sym c.in-Some.ensures.value)),
  whole_known (next c.args.self.now) (sym c.in-Some.ensures.value),
)
