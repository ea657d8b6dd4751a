use Rattle.std.proofs.Common.{◌+◌, ◌-◌, ◌*◌, length, [], ◌∷◌}
use Rattle.silage_parse.specs.Private.ParseTable.{Expand, Manifest_, Terms, Term, Factors}
use Rattle.silage_parse.specs.Private.Parsed.{Leads, manifest_value}
use Rattle.silage_parse.proofs.parser.Parser.+manifests.Given as goal

abbrev pub decreases-manifest : goal.decreases-manifest
decreases-manifest l = 4 * (length l.self.now.tokens.now - l.self.now.at) + 3

abbrev pub decreases-term : goal.decreases-term
decreases-term l = 4 * (length l.self.now.tokens.now - l.self.now.at) + 2

abbrev pub decreases-factor : goal.decreases-factor
decreases-factor l = 4 * (length l.self.now.tokens.now - l.self.now.at) + 1

abbrev pub decreases-manifest_primary : goal.decreases-manifest_primary
decreases-manifest_primary l = 4 * (length l.self.now.tokens.now - l.self.now.at) + 0

abbrev pub invariant-manifest-terms : goal.invariant-manifest-terms
invariant-manifest-terms l =
    Leads (Expand Manifest_ ∷ []) l.fn.self [] (Expand Terms ∷ []) l.self (manifest_value l.left ∷ [])

abbrev pub decreases-manifest-terms : goal.decreases-manifest-terms
decreases-manifest-terms l = length l.self.tokens.now - l.self.at

abbrev pub invariant-term-factors : goal.invariant-term-factors
invariant-term-factors l =
    Leads (Expand Term ∷ []) l.fn.self [] (Expand Factors ∷ []) l.self (manifest_value l.left ∷ [])

abbrev pub decreases-term-factors : goal.decreases-term-factors
decreases-term-factors l = length l.self.tokens.now - l.self.at
