use Rattle.std.proofs.Common.{◌-◌, map, length}
use Rattle.silage_syntax.specs.Tree.{view_top}
use Rattle.silage_parse.proofs.Sources.{SoFar}
use Rattle.silage_parse.proofs.program.program.Given as goal

abbrev pub invariant-tops : goal.invariant-tops
invariant-tops l = SoFar l.tokens (map view_top l.tops) l.parser

abbrev pub decreases-tops : goal.decreases-tops
decreases-tops l = length l.tokens - l.parser.at
