-- Precedence climbing, said of the nonterminals of the table.
use Rattle.std.specs.Prelude.{◌≡◌, ℕ, ◌≤◌, false, List, [], ◌∷◌, Option, Some}
use Rattle.silage_lex.specs.declared.TokenKind.{TokenKind}
use Rattle.silage_lex.specs.declared.punctuation.TheConstants as punctuation
use Rattle.silage_syntax.specs.declared.tree.BinOp.{BinOp}
use Rattle.silage_syntax.specs.declared.tree.BinOp.TheVariants as op
use Rattle.silage_syntax.specs.Grammar.{marked, Or, And, Sum, Product}
use Rattle.silage_parse.specs.declared.expressions.Precedence.{Precedence}
use Rattle.silage_parse.specs.declared.expressions.Precedence.TheVariants as r
use Rattle.silage_parse.specs.Private.ParseTable.{Terminal, is_one, operators, comparisons, Inside, Symbol, Match}
use Rattle.silage_parse.specs.Private.ParseTable.{Expand, Act, Action, Nonterminal, Chain, Comparison, Shift, add_part}
use Rattle.silage_parse.specs.Private.ParseTable.{compare}

-- how many precedences are lower
abbrev pub rank : Precedence → ℕ
rank r.Or = 0
rank r.And = 1
rank r.Comparison = 2
rank r.Sum = 3
rank r.Product = 4

abbrev pub precedence_of : BinOp → Precedence
precedence_of op.Or = r.Or
precedence_of op.And = r.And
precedence_of op.Lt = r.Comparison
precedence_of op.Le = r.Comparison
precedence_of op.Eq = r.Comparison
precedence_of op.Ne = r.Comparison
precedence_of op.Gt = r.Comparison
precedence_of op.Ge = r.Comparison
precedence_of op.Add = r.Sum
precedence_of op.Sub = r.Sum
precedence_of op.Mul = r.Product

-- comparisons do not chain
abbrev pub tightest_after : Precedence → Precedence
tightest_after r.Comparison = r.And
tightest_after p = p

-- the operators of all precedences
abbrev pub binary_operators : List (ℕ × BinOp)
binary_operators =
    (punctuation.PIPE, op.Or) ∷ (punctuation.AMPERSAND, op.And) ∷ (punctuation.LESS, op.Lt)
    ∷ (punctuation.LESS_EQUAL, op.Le) ∷ (punctuation.EQUAL_EQUAL, op.Eq) ∷ (punctuation.BANG_EQUAL, op.Ne)
    ∷ (punctuation.GREATER, op.Gt) ∷ (punctuation.GREATER_EQUAL, op.Ge) ∷ (punctuation.PLUS, op.Add)
    ∷ (punctuation.MINUS, op.Sub) ∷ (punctuation.STAR, op.Mul) ∷ []

abbrev pub binary_operator : Option TokenKind → Option BinOp
binary_operator k = marked binary_operators k

-- the tokens that are operators of a precedence
abbrev pub infixes : Precedence → List Terminal
infixes r.Or = operators Or
infixes r.And = operators And
infixes r.Comparison = comparisons
infixes r.Sum = operators Sum
infixes r.Product = operators Product

-- what an operation of at least this precedence is in the grammar
abbrev pub operation : Precedence → Nonterminal
operation r.Or = Chain Or
operation r.And = Chain And
operation r.Comparison = Comparison
operation r.Sum = Chain Sum
operation r.Product = Chain Product

-- the right operand of an operator
abbrev pub right_operand : Precedence → Nonterminal
right_operand r.Or = Chain And
right_operand r.And = Comparison
right_operand r.Comparison = Chain Sum
right_operand r.Sum = Chain Product
right_operand r.Product = Shift

-- what is made of two operands
abbrev pub joins : Precedence → Action
joins r.Or = add_part Or
joins r.And = add_part And
joins r.Comparison = compare
joins r.Sum = add_part Sum
joins r.Product = add_part Product

-- an operator with its right operand
abbrev pub operated : Precedence → List Symbol
operated p = Match (infixes p) Inside ∷ Expand (right_operand p) ∷ Act (joins p) ∷ []

-- the token is an operator whose precedence is between these two; it is none
pub record IsBetween (loosest tightest : Precedence) (k : Option TokenKind) (operator : BinOp) : Type 0 where
  pub is : binary_operator k ≡ Some operator
  pub low : rank loosest ≤ rank (precedence_of operator)
  pub high : rank (precedence_of operator) ≤ rank tightest

abbrev pub NoneBetween : Precedence → Precedence → Option TokenKind → Type 0
NoneBetween loosest tightest k =
    (p : Precedence) → rank loosest ≤ rank p → rank p ≤ rank tightest → is_one (infixes p) k ≡ false
