use Rattle.std.proofs.Common.{◌-◌, length, [], ◌∷◌}
use Rattle.silage_parse.specs.Private.ParseTable.{Expand}
use Rattle.silage_parse.specs.Private.Parsed.{Leads}
use Rattle.silage_parse.specs.Private.CommaLists.{list_of}
use Rattle.silage_parse.proofs.parser.Parser.list.Given as goal

abbrev pub invariant-more : goal.invariant-more
invariant-more g l =
    let e = g.T.Element.listed in
    Leads (list_of e) l.fn.self [] (Expand e.more ∷ []) l.self (e.values l.list ∷ [])

abbrev pub decreases-more : goal.decreases-more
decreases-more g l = length l.self.tokens.now - l.self.at
