-- Which list of tokens a source has, said of spans and texts.
use Rattle.std.specs.Prelude.{◌≡◌, ℕ, ◌+◌, ◌≤◌, ◌<◌, true, false, ⊤, List, [], ◌∷◌, length, take, count_by, nat_eq}
use Rattle.std.specs.Prelude.{slice_index, slice_range}
use Rattle.silage_lex.specs.Bytes.{is_blank, is_name_byte, opens_comment, closes_comment, begins_fraction}
use Rattle.silage_lex.specs.Texts.{IsText, IsTokenText}
use Rattle.silage_lex.specs.declared.TokenKind.{TokenKind}
use Rattle.silage_lex.specs.declared.TokenKind.TheVariants.{Name, Whole, Point, Reserved, Symbol}
use Rattle.silage_lex.specs.declared.Token.{Token}

-- no longer token text begins at the same byte
abbrev pub IsLongest : List ℕ → ℕ → ℕ → Type 0
IsLongest bytes from to = (end : ℕ) → to < end → end ≤ length bytes → ¬ IsTokenText (slice_range bytes from end)

-- what a number lets stand directly behind it: no digit, no letter, no `_`, and where it has no point no fraction
abbrev pub CanEndAt : List ℕ → TokenKind → ℕ → Type 0
CanEndAt bytes (Whole _) to = (is_name_byte (slice_index bytes to) ≡ false) × (begins_fraction bytes to ≡ false)
CanEndAt bytes (Point _ _) to = is_name_byte (slice_index bytes to) ≡ false
CanEndAt bytes (Name _) to = ⊤
CanEndAt bytes (Reserved _) to = ⊤
CanEndAt bytes (Symbol _) to = ⊤

-- from `from` up to `to` stands a token of this kind
pub record IsSpan (bytes : List ℕ) (kind : TokenKind) (from to : ℕ) : Type 0 where
  pub rises : from < to
  pub within : to ≤ length bytes
  pub text : IsText kind (slice_range bytes from to)
  pub longest : IsLongest bytes from to
  pub ends : CanEndAt bytes kind to

-- the line of a place: one more than the number of LF before it
abbrev pub line_at : List ℕ → ℕ → ℕ
line_at bytes at = 1 + count_by (λ b. nat_eq b 10) (take at bytes)

-- a token of the source, with its line
pub record IsToken (bytes : List ℕ) (token : Token) : Type 0 where
  pub span : IsSpan bytes token.kind token.from token.to
  pub line : token.line ≡ line_at bytes token.from

-- no `*/` begins from the first place up to the second
abbrev pub NoCloseBetween : List ℕ → ℕ → ℕ → Type 0
NoCloseBetween bytes from to = (at : ℕ) → from ≤ at → at < to → closes_comment bytes at ≡ false

-- a comment is `/*` up to the next `*/`, which begins behind it
pub record IsComment (bytes : List ℕ) (from to : ℕ) : Type 0 where
  pub opened : opens_comment bytes from ≡ true
  pub close : ℕ
  pub behind : from + 2 ≤ close
  pub closed : closes_comment bytes close ≡ true
  pub next : NoCloseBetween bytes (from + 2) close
  pub ends : to ≡ close + 2

-- from the first place up to the second stand blanks and comments alone
pub data Gap (bytes : List ℕ) : ℕ → ℕ → Type 0 where
  none : {i : ℕ} → Gap bytes i i
  blank : {i j : ℕ} → is_blank (slice_index bytes i) ≡ true → Gap bytes (i + 1) j → Gap bytes i j
  comment : {i j k : ℕ} → IsComment bytes i j → Gap bytes j k → Gap bytes i k

-- from the first place up to the second stand these tokens, with blanks and comments around them
abbrev pub Spaced : List ℕ → ℕ → List Token → ℕ → Type 0
Spaced bytes from [] to = Gap bytes from to
Spaced bytes from (t ∷ ts) to = Gap bytes from t.from × IsToken bytes t × Spaced bytes t.to ts to

-- a list of tokens, which Rust calls `Tokens`
abbrev pub TokenList : Type 0
TokenList = List Token

-- the source has these tokens: their spans rise and do not overlap, and everything outside them is blanks and comments
abbrev pub HasTokens : List ℕ → List Token → Type 0
HasTokens bytes tokens = Spaced bytes 0 tokens (length bytes)
