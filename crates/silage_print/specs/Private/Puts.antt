-- What the parts of the printer add to a text.
use Rattle.std.specs.Prelude.{◌≡◌, ℕ, List, [], ◌∷◌, ◌++◌}
use Rattle.silage_lex.specs.declared.TokenKind.{TokenKind}
use Rattle.silage_lex.specs.declared.punctuation.TheConstants.{ARROW, PIPE_PIPE}
use Rattle.silage_syntax.specs.declared.tree.Expr.{Expr as RustExpr}
use Rattle.silage_syntax.specs.Tree.{view_expr}
use Rattle.silage_print.specs.Text.{spelled, symbol, expr_text}

-- the text of these tokens was added to what was there
pub record Puts (old : List ℕ) (ks : List TokenKind) (new : List ℕ) : Type 0 where
  pub added : new ≡ old ++ spelled ks

-- a condition with its value
abbrev pub arm_text : RustExpr × RustExpr → List TokenKind
arm_text arm = expr_text (view_expr arm.0) ++ symbol ARROW ∷ expr_text (view_expr arm.1) ++ symbol PIPE_PIPE ∷ []
