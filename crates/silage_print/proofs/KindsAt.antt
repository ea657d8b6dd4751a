-- The kinds of the tokens in a list, and kinds that are written as texts of their own.
use Rattle.std.proofs.Common.{◌≡◌, ℕ, ◌+◌, Bool, true, false, List, [], ◌∷◌, ◌++◌, Option, Some, refl, subst}
use Rattle.silage_lex.specs.declared.Token.{Token}
use Rattle.silage_lex.specs.declared.TokenKind.{TokenKind}
use Rattle.silage_lex.specs.Texts.{IsText}
use Rattle.silage_syntax.specs.Grammar.{kind_at}
use Rattle.silage_print.specs.Text.{token_text, enclosed}

-- the tokens from i to j have these kinds
abbrev pub AreAt : List Token → ℕ → List TokenKind → ℕ → Type 0
AreAt us i [] j = i ≡ j
AreAt us i (k ∷ ks) j = (kind_at us i ≡ Some k) × AreAt us (i + 1) ks j

pub split : (us : List Token) (xs ys : List TokenKind) (i j : ℕ)
    → AreAt us i (xs ++ ys) j
    → (m : ℕ) × AreAt us i xs m × AreAt us m ys j
split us [] ys i j s = (i, refl, s)
split us (x ∷ xs) ys i j s = let r = split us xs ys (i + 1) j s.1 in (r.0, (s.0, r.1), r.2)

-- a kind at an index, with the index said in another way
pub moved : (us : List Token) (i j : ℕ) (x : Option TokenKind) → i ≡ j → kind_at us i ≡ x → kind_at us j ≡ x
moved us i j x e h = let P : ℕ → Type 0 = λ k. kind_at us k ≡ x in subst P e h

-- the kind's text is one of this kind
abbrev pub IsWritten : TokenKind → Type 0
IsWritten k = IsText k (token_text k)

-- each of the kinds passes
pub data Each (P : TokenKind → Type 0) : List TokenKind → Type 0 where
  no_kind : Each P []
  one_kind : {k : TokenKind} {ks : List TokenKind} → P k → Each P ks → Each P (k ∷ ks)

pub joined : {P : TokenKind → Type 0} {xs ys : List TokenKind} → Each P xs → Each P ys → Each P (xs ++ ys)
joined no_kind k = k
joined (one_kind h hs) k = one_kind h (joined hs k)

abbrev pub AreWritten : List TokenKind → Type 0
AreWritten ks = Each IsWritten ks

pub enclosed_written : (b : Bool) {xs : List TokenKind} → Each IsWritten xs → Each IsWritten (enclosed b xs)
enclosed_written true h = one_kind refl (joined h (one_kind refl no_kind))
enclosed_written false h = joined h no_kind

-- each token of the list is written so
abbrev pub TokensWritten : List Token → Type 0
TokensWritten ts = (i : ℕ) (k : TokenKind) → kind_at ts i ≡ Some k → IsWritten k
