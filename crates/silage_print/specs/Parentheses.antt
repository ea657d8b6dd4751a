-- Parentheses of the canonical text: without any one pair the text gives another tree, or none. Only the pair around
-- the one word of a table, which is written where the table has dims, can be left out.
use Rattle.std.specs.Prelude.{◌≡◌, List, ◌∷◌, ◌++◌, map, length}
use Rattle.silage_lex.specs.declared.Token.{Token}
use Rattle.silage_lex.specs.declared.TokenKind.{TokenKind}
use Rattle.silage_lex.specs.declared.punctuation.TheConstants.{LEFT_PAREN, RIGHT_PAREN}
use Rattle.silage_syntax.specs.Tree.{Top, table, function, Program}
use Rattle.silage_syntax.specs.Grammar.{Derives}
use Rattle.silage_syntax.specs.Positions.{unpositioned}
use Rattle.silage_print.specs.Text.{symbol, top_text, tops_text}

-- a `(` and a later `)` in the text of a program, which need not match: the definition that they are in, the
-- definitions around it, and the tokens of the definition before, between and after the two
pub record Pair (program : Program) : Type 0 where
  pub earlier : List Top
  pub top : Top
  pub later : List Top
  pub tops : program.tops ≡ earlier ++ top ∷ later
  pub before : List TokenKind
  pub between : List TokenKind
  pub after : List TokenKind
  pub text : top_text top ≡ before ++ symbol LEFT_PAREN ∷ between ++ symbol RIGHT_PAREN ∷ after

-- the text of the program without the pair
abbrev pub text_without : (program : Program) → Pair program → List TokenKind
text_without program pair =
    tops_text pair.earlier ++ (pair.before ++ pair.between ++ pair.after) ++ tops_text pair.later

-- a table of one word
abbrev pub HasOneWord : Top → Type 0
HasOneWord (table c) = length c.words ≡ 1
HasOneWord (function f) = ⊥

-- tokens of these kinds derive the program up to positions
pub record Gives (kinds : List TokenKind) (program : Program) : Type 0 where
  pub tokens : List Token
  pub are : map (λ (t : Token). t.kind) tokens ≡ kinds
  pub read : Program
  pub derives : Derives tokens read
  pub same : unpositioned read ≡ unpositioned program

-- each pair is needed, but that around the one word of a table
abbrev pub EachPairIsNeeded : Type 0
EachPairIsNeeded =
    (program : Program) (pair : Pair program) → ¬ HasOneWord pair.top → ¬ Gives (text_without program pair) program
