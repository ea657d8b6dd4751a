use Rattle.silage_parse.specs.Private.ParseTable.{Expand}
use Rattle.silage_parse.specs.Private.CommaLists.{list_in_parentheses}
use Rattle.silage_parse.proofs.Steps.{sym, [], ◌∷◌, start, parses, does, first, other, stops_at, between, fault_is}
use Rattle.silage_parse.proofs.parser.Parser.one_or_list.Goals as goal

pub returns-then-is_symbol : goal.returns-then-is_symbol
returns-then-is_symbol g c = λ p close is.
    between (list_in_parentheses g.T.Element.listed) g.T.Element.listed.values close _ c.list_in_parentheses.result
    is.closes (first (start (Expand p ∷ []) c.args.self.now []) is.stands (sym c.if-is_symbol.ensures.value))
    c.list_in_parentheses.ensures

pub returns-in_err-read : goal.returns-in_err-read
returns-in_err-read g c = λ p close is.
    rw (fault_is c.from_residual.result c.from_residual.ensures.1)
    (stops_at _ (other (start (Expand p ∷ []) c.args.self.now []) is.stands (sym c.if-is_symbol.ensures.value))
    c.in_err-read.ensures)

pub returns : goal.returns
returns g c = λ p close is.
    does (parses (other (start (Expand p ∷ []) c.args.self.now []) is.stands (sym c.if-is_symbol.ensures.value))
    c.in_ok-read.ensures)
    (λ under. rw (c.in_ok-push.ensures.ok, c.new-list.ensures) (g.T.Element.listed.begins _ under))
