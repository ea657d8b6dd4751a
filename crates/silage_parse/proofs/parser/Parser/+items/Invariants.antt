use Rattle.std.proofs.Common.{◌+◌, ◌-◌, ◌*◌, length, [], ◌∷◌}
use Rattle.silage_parse.specs.Private.ParseTable.{Expand, Items_}
use Rattle.silage_parse.specs.Private.Parsed.{Leads, item_list, item_values}
use Rattle.silage_parse.proofs.parser.Parser.+items.Given as goal

abbrev pub decreases-items : goal.decreases-items
decreases-items l = 4 * (length l.self.now.tokens.now - l.self.now.at) + 2

abbrev pub decreases-item : goal.decreases-item
decreases-item l = 4 * (length l.self.now.tokens.now - l.self.now.at) + 1

abbrev pub decreases-counted_loop : goal.decreases-counted_loop
decreases-counted_loop l = 4 * (length l.self.now.tokens.now - l.self.now.at) + 0

abbrev pub decreases-loop_body : goal.decreases-loop_body
decreases-loop_body l = 4 * (length l.self.now.tokens.now - l.self.now.at) + 3

abbrev pub invariant-items-more : goal.invariant-items-more
invariant-items-more l = Leads item_list l.fn.self [] (Expand Items_ ∷ []) l.self (item_values l.list ∷ [])

abbrev pub decreases-items-more : goal.decreases-items-more
decreases-items-more l = length l.self.tokens.now - l.self.at
