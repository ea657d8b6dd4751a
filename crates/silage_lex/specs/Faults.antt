-- Which fault a source has, and the words for what `lex` answers.
use Rattle.std.specs.Prelude.{◌≡◌, ℕ, ◌+◌, ◌≤◌, ◌<◌, true, false, ◌⊎◌, List, length, slice_index, slice_range, Result}
use Rattle.std.specs.Prelude.{Err}
use Rattle.silage_lex.specs.Bytes.{is_blank, is_letter, opens_comment, closes_comment}
use Rattle.silage_lex.specs.Texts.{IsNumber, IsTokenText, digit_count}
use Rattle.silage_lex.specs.Tokens.{IsLongest, Spaced}
use Rattle.silage_lex.specs.declared.Token.{Token}
use Rattle.silage_lex.specs.declared.LexFault.{LexFault}
use Rattle.silage_lex.specs.declared.LexFault.TheVariants.{BadByte, BadNumber, OpenComment, Memory}

-- a byte that begins no token, no blank and no comment
pub record IsBadByte (bytes : List ℕ) (at : ℕ) : Type 0 where
  pub within : at < length bytes
  pub no_blank : is_blank (slice_index bytes at) ≡ false
  pub no_comment : opens_comment bytes at ≡ false
  pub no_token : (end : ℕ) → end ≤ length bytes → ¬ IsTokenText (slice_range bytes at end)

-- a number, with all digits and the point that belong to it
pub record IsNumberSpan (bytes : List ℕ) (from to : ℕ) : Type 0 where
  pub rises : from < to
  pub within : to ≤ length bytes
  pub number : IsNumber (slice_range bytes from to)
  pub longest : IsLongest bytes from to

-- a number of more than 18 digits, or one with a letter or `_` directly behind it
pub record IsBadNumber (bytes : List ℕ) (at : ℕ) : Type 0 where
  pub end : ℕ
  pub number : IsNumberSpan bytes at end
  pub forbidden : (18 < digit_count (slice_range bytes at end)) ⊎ (is_letter (slice_index bytes end) ≡ true)

-- no `*/` begins at the place or behind it
abbrev pub NoCloseFrom : List ℕ → ℕ → Type 0
NoCloseFrom bytes from = (at : ℕ) → from ≤ at → closes_comment bytes at ≡ false

-- a `/*` without a later `*/`
pub record IsOpenComment (bytes : List ℕ) (at : ℕ) : Type 0 where
  pub opened : opens_comment bytes at ≡ true
  pub open_ended : NoCloseFrom bytes (at + 2)

-- this fault stands at the place; want of memory has no place
abbrev pub StandsAt : List ℕ → ℕ → LexFault → Type 0
StandsAt bytes at (BadByte place) = (place ≡ at) × IsBadByte bytes at
StandsAt bytes at (BadNumber place) = (place ≡ at) × IsBadNumber bytes at
StandsAt bytes at (OpenComment place) = (place ≡ at) × IsOpenComment bytes at
StandsAt bytes at Memory = ⊥

-- the source has this fault: the bytes before its place are tokens, blanks and comments
pub record HasFault (bytes : List ℕ) (fault : LexFault) : Type 0 where
  pub place : ℕ
  pub before : List Token
  pub read : Spaced bytes 0 before place
  pub stands : StandsAt bytes place fault

-- the call gives this answer, or it wants memory
abbrev pub Answers : {T : Type 0} → Result T LexFault → Result T LexFault → Type 0
Answers result answer = (result ≡ answer) ⊎ (result ≡ Err Memory)
