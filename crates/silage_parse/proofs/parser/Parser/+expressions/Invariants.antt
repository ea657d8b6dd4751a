use Rattle.std.proofs.Common.{ℕ, ◌+◌, ◌-◌, ◌*◌, length, [], ◌∷◌, ◌++◌}
use Rattle.silage_parse.specs.Private.ParseTable.{Expand, Shift, Shifts, Arms}
use Rattle.silage_parse.specs.Private.Parsed.{Leads, expr_value, branches_value}
use Rattle.silage_parse.specs.Private.Precedence.{rank, operation}
use Rattle.silage_parse.proofs.PrecedenceClimbing.{rests}
use Rattle.silage_parse.proofs.parser.Parser.+expressions.Given as goal

abbrev pub decreases-expression : goal.decreases-expression
decreases-expression l = 8 * (length l.self.now.tokens.now - l.self.now.at) + 7

abbrev pub decreases-right_operand : goal.decreases-right_operand
decreases-right_operand l = 8 * (length l.self.now.tokens.now - l.self.now.at) + 6

abbrev pub decreases-operation : goal.decreases-operation
decreases-operation l = 8 * (length l.self.now.tokens.now - l.self.now.at) + 5

abbrev pub decreases-shift : goal.decreases-shift
decreases-shift l = 8 * (length l.self.now.tokens.now - l.self.now.at) + 4

abbrev pub decreases-unary : goal.decreases-unary
decreases-unary l = 8 * (length l.self.now.tokens.now - l.self.now.at) + 3

abbrev pub decreases-primary : goal.decreases-primary
decreases-primary l = 8 * (length l.self.now.tokens.now - l.self.now.at) + 2

abbrev pub decreases-negated : goal.decreases-negated
decreases-negated l = 8 * (length l.self.now.tokens.now - l.self.now.at) + 1

abbrev pub decreases-inverted : goal.decreases-inverted
decreases-inverted l = 8 * (length l.self.now.tokens.now - l.self.now.at) + 1

abbrev pub decreases-operated : goal.decreases-operated
decreases-operated l = 8 * (length l.self.now.tokens.now - l.self.now.at) + 1

abbrev pub decreases-after_operator : goal.decreases-after_operator
decreases-after_operator l = 8 * (length l.self.now.tokens.now - l.self.now.at) + 0

abbrev pub decreases-parenthesised : goal.decreases-parenthesised
decreases-parenthesised l = 8 * (length l.self.now.tokens.now - l.self.now.at) + 0

abbrev pub decreases-cast : goal.decreases-cast
decreases-cast l = 8 * (length l.self.now.tokens.now - l.self.now.at) + 1

abbrev pub decreases-choice : goal.decreases-choice
decreases-choice l = 8 * (length l.self.now.tokens.now - l.self.now.at) + 0

abbrev pub decreases-branch : goal.decreases-branch
decreases-branch l = 8 * (length l.self.now.tokens.now - l.self.now.at) + 0

abbrev pub decreases-more_branches : goal.decreases-more_branches
decreases-more_branches l = 8 * (length l.self.now.tokens.now - l.self.now.at) + 0

abbrev pub invariant-operation-operators : goal.invariant-operation-operators
invariant-operation-operators l =
    Leads (Expand (operation l.loosest) ∷ []) l.fn.self [] (rests (rank l.tightest + 1) (rank l.loosest) ++ []) l.self
    (expr_value l.left ∷ [])

abbrev pub decreases-operation-operators : goal.decreases-operation-operators
decreases-operation-operators l = length l.self.tokens.now - l.self.at

abbrev pub invariant-shift-shifts : goal.invariant-shift-shifts
invariant-shift-shifts l =
    Leads (Expand Shift ∷ []) l.fn.self [] (Expand Shifts ∷ []) l.self (expr_value l.operand ∷ [])

abbrev pub decreases-shift-shifts : goal.decreases-shift-shifts
decreases-shift-shifts l = length l.self.tokens.now - l.self.at

abbrev pub invariant-more_branches-arms : goal.invariant-more_branches-arms
invariant-more_branches-arms l = (at : ℕ)
    → Leads (Expand Arms ∷ []) l.fn.self (branches_value at l.fn.branches.items ∷ [])
    (Expand Arms ∷ []) l.self (branches_value at l.branches.items ∷ [])

abbrev pub decreases-more_branches-arms : goal.decreases-more_branches-arms
decreases-more_branches-arms l = length l.self.tokens.now - l.self.at
