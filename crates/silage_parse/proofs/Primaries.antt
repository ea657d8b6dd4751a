-- What a primary that is no place goes on with.
use Rattle.std.proofs.Common.{◌≡◌, List, [], ◌∷◌, ◌++◌, Option, Some, refl, true, false, Bool}
use Rattle.silage_lex.specs.declared.TokenKind.{TokenKind}
use Rattle.silage_lex.specs.declared.TokenKind.TheVariants as kind
use Rattle.silage_lex.specs.declared.punctuation.TheConstants as punctuation
use Rattle.silage_lex.specs.declared.keywords.TheConstants as keyword
use Rattle.silage_syntax.specs.Grammar.{Or, truth_of}
use Rattle.silage_parse.specs.Private.ParseTable.{Punctuation, Keyword, Inside, Symbol, Expand, Act, Chain}
use Rattle.silage_parse.specs.Private.ParseTable.{OtherPrimary, FixIn, Arms, cast_expr, close_expr, first_arm, number}
use Rattle.silage_parse.specs.Private.ParseTable.{truths, productions, keyword_of, is_one}
use Rattle.silage_parse.specs.Private.Machine.{predict}
use Rattle.silage_parse.specs.Private.Parsed.{in_parentheses, branch_value}
use Rattle.silage_parse.proofs.Tables.{keyword_known, punctuation_known}

abbrev pub paren_row : List Symbol
paren_row = in_parentheses ++ Act close_expr ∷ []

abbrev pub cast_row : List Symbol
cast_row = Expand (FixIn Inside) ∷ in_parentheses ++ Act cast_expr ∷ []

abbrev pub choice_row : List Symbol
choice_row = keyword_of keyword.IF Inside ∷ Expand (Chain Or) ∷ branch_value ++ Act first_arm ∷ Expand Arms ∷ []

pub to_paren : (k : Option TokenKind)
    → is_one number k ≡ false
    → is_one truths k ≡ false
    → is_one (Keyword keyword.FIX ∷ []) k ≡ false
    → is_one (Keyword keyword.IF ∷ []) k ≡ false
    → predict (productions OtherPrimary) k ≡ paren_row
to_paren k a b d e = rw (a, b, d, e) refl

pub to_cast : (k : Option TokenKind)
    → is_one (Keyword keyword.FIX ∷ []) k ≡ true
    → predict (productions OtherPrimary) k ≡ cast_row
to_cast k h = rw (keyword_known keyword.FIX k h) refl

pub to_choice : (k : Option TokenKind)
    → is_one (Keyword keyword.IF ∷ []) k ≡ true
    → predict (productions OtherPrimary) k ≡ choice_row
to_choice k h = rw (keyword_known keyword.IF k h) refl

-- a truth value is no number, and a `!` is no `-`
pub truth_no_number : (k : Option TokenKind) {b : Bool} → truth_of k ≡ Some b → is_one number k ≡ false
truth_no_number (Some (kind.Reserved n)) h = refl
truth_no_number _ h = absurd (cc)

pub bang_no_minus : (k : Option TokenKind)
    → is_one (Punctuation punctuation.BANG ∷ []) k ≡ true
    → is_one (Punctuation punctuation.MINUS ∷ []) k ≡ false
bang_no_minus k h = rw (punctuation_known punctuation.BANG k h) refl
