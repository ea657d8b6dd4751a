-- The numbers of symbols and reserved words: a token holds the position of its text in the list of texts.
use Rattle.std.specs.Prelude.{◌≡◌, ℕ, List, [], ◌∷◌, codes}
use Rattle.std.specs.List.{enumerate_from}
use Rattle.silage_lex.specs.declared.punctuation.TheConstants as punctuation
use Rattle.silage_lex.specs.declared.keywords.TheConstants as keyword

-- the constants for the symbols, each with its text, in the order of the list
abbrev pub symbol_constants : List (ℕ × List ℕ)
symbol_constants =
    (punctuation.COLON_COLON, codes "::") ∷ (punctuation.DOT_DOT, codes "..") ∷
    (punctuation.EQUAL_EQUAL, codes "==") ∷ (punctuation.BANG_EQUAL, codes "!=") ∷
    (punctuation.LESS_EQUAL, codes "<=") ∷ (punctuation.GREATER_EQUAL, codes ">=") ∷
    (punctuation.LESS_LESS, codes "<<") ∷ (punctuation.GREATER_GREATER, codes ">>") ∷
    (punctuation.ARROW, codes "->") ∷ (punctuation.PIPE_PIPE, codes "||") ∷ (punctuation.AT_AT, codes "@@") ∷
    (punctuation.LEFT_PAREN, codes "(") ∷ (punctuation.RIGHT_PAREN, codes ")") ∷
    (punctuation.LEFT_BRACKET, codes "[") ∷ (punctuation.RIGHT_BRACKET, codes "]") ∷ (punctuation.COMMA, codes ",") ∷
    (punctuation.SEMICOLON, codes ";") ∷ (punctuation.COLON, codes ":") ∷ (punctuation.EQUAL, codes "=") ∷
    (punctuation.LESS, codes "<") ∷ (punctuation.GREATER, codes ">") ∷ (punctuation.PLUS, codes "+") ∷
    (punctuation.MINUS, codes "-") ∷ (punctuation.STAR, codes "*") ∷ (punctuation.AMPERSAND, codes "&") ∷
    (punctuation.PIPE, codes "|") ∷ (punctuation.BANG, codes "!") ∷ (punctuation.AT, codes "@") ∷ []

-- the constants for the reserved words
abbrev pub keyword_constants : List (ℕ × List ℕ)
keyword_constants =
    (keyword.FUNC, codes "func") ∷ (keyword.CONST, codes "const") ∷ (keyword.VAR, codes "var") ∷
    (keyword.BEGIN, codes "begin") ∷ (keyword.END, codes "end") ∷ (keyword.FIX, codes "fix") ∷
    (keyword.BOOL, codes "bool") ∷ (keyword.TRUNC, codes "trunc") ∷ (keyword.ROUND, codes "round") ∷
    (keyword.IF, codes "if") ∷ (keyword.FI, codes "fi") ∷ (keyword.TRUE, codes "true") ∷
    (keyword.FALSE, codes "false") ∷ (keyword.SAT, codes "sat") ∷ (keyword.DOWN, codes "down") ∷
    (keyword.UP, codes "up") ∷ []

-- each constant is the position of its text in the list, and each text of the list has a constant
abbrev pub ArePositions : List (ℕ × List ℕ) → List (List ℕ) → Type 0
ArePositions constants texts = constants ≡ enumerate_from 0 texts
