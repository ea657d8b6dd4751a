use Rattle.std.proofs.Common.{◌-◌, length, [], ◌∷◌}
use Rattle.silage_parse.specs.Private.ParseTable.{Expand, Locals}
use Rattle.silage_parse.specs.Private.ParseTable as the
use Rattle.silage_parse.specs.Private.Parsed.{Leads, local_lines}
use Rattle.silage_parse.proofs.parser.Parser.locals.Given as goal

abbrev pub invariant-lines : goal.invariant-lines
invariant-lines l = Leads local_lines l.fn.self [] (Expand Locals ∷ []) l.self (the.decls l.list ∷ [])

abbrev pub decreases-lines : goal.decreases-lines
decreases-lines l = length l.self.tokens.now - l.self.at
