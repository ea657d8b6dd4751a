-- A text with each kind of token, and texts that are not read as one might.
use Rattle.std.specs.Prelude.{ℕ, codes, List, [], ◌∷◌, ◌++◌}
use Rattle.silage_lex.specs.Tokens.{HasTokens}
use Rattle.silage_lex.specs.declared.Token.{Token}
use Rattle.silage_lex.specs.declared.TokenKind.{TokenKind}
use Rattle.silage_lex.specs.declared.TokenKind.TheVariants as kind
use Rattle.silage_lex.specs.declared.keywords.TheConstants.{FUNC, FI}
use Rattle.silage_lex.specs.declared.punctuation.TheConstants.{AT_AT, LESS_EQUAL, PIPE_PIPE, LESS, EQUAL}

abbrev pub token : TokenKind → (from to line : ℕ) → Token
token k from to line = record { kind = k; from = from; to = to; line = line }

-- a comment, a symbol of two bytes, a number behind it, a line feed, and a name that begins as a reserved word
abbrev pub each_kind : List ℕ
each_kind = codes "func f1 /* < */ @@0.25<=7" ++ 10 ∷ codes "|| fi_"

abbrev pub TextHasTokens : Type 0
TextHasTokens =
    HasTokens each_kind
    (token (kind.Reserved FUNC) 0 4 1
    ∷ token (kind.Name (codes "f1")) 5 7 1
    ∷ token (kind.Symbol AT_AT) 16 18 1
    ∷ token (kind.Point 25 2) 18 22 1
    ∷ token (kind.Symbol LESS_EQUAL) 22 24 1
    ∷ token (kind.Whole 7) 24 25 1
    ∷ token (kind.Symbol PIPE_PIPE) 26 28 2
    ∷ token (kind.Name (codes "fi_")) 29 32 2
    ∷ [])

-- `<=` is not `<` and `=`, `fi_` not `fi` and `_`, `fi` no name, and `1a` not 1 and `a`
abbrev pub TextsHaveOtherTokens : Type 0
TextsHaveOtherTokens =
    (HasTokens (codes "<=") (token (kind.Symbol LESS) 0 1 1 ∷ token (kind.Symbol EQUAL) 1 2 1 ∷ []) → ⊥)
    × (HasTokens (codes "fi_") (token (kind.Reserved FI) 0 2 1 ∷ token (kind.Name (codes "_")) 2 3 1 ∷ []) → ⊥)
    × (HasTokens (codes "fi") (token (kind.Name (codes "fi")) 0 2 1 ∷ []) → ⊥)
    × (HasTokens (codes "1a") (token (kind.Whole 1) 0 1 1 ∷ token (kind.Name (codes "a")) 1 2 1 ∷ []) → ⊥)
