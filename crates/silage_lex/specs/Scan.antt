-- Words for the parts of the scanner.
use Rattle.std.specs.Prelude.{◌≡◌, ℕ, ◌+◌, ◌≤◌, ◌<◌, true, false, List, [], length, drop, nat_eq, Bool, slice_index}
use Rattle.std.specs.Prelude.{slice_index_or, slice_range, Option}
use Rattle.std.specs.Cmp.Lexicographic.{pointwise}
use Rattle.std.specs.List.{starts_with, position_from}
use Rattle.silage_lex.specs.Bytes.{is_blank, is_digit, opens_comment, closes_comment}
use Rattle.silage_lex.specs.Texts.{symbols, is_digits}
use Rattle.silage_lex.specs.Tokens.{Gap, NoCloseBetween}

-- the position of a text in a table, if it is there
abbrev pub position_of : List (List ℕ) → List ℕ → Option ℕ
position_of table text = position_from (λ row. pointwise nat_eq row text) 0 table

-- the text stands at the place
abbrev pub stands_at : List ℕ → ℕ → List ℕ → Bool
stands_at bytes at text = starts_with nat_eq (drop at bytes) text

-- none of the first n symbols of the table stands at the place
abbrev pub NoneBefore : List ℕ → ℕ → ℕ → Type 0
NoneBefore bytes at n = (m : ℕ) → m < n → stands_at bytes at (slice_index_or symbols m []) ≡ false

-- symbol n stands at the place, and none before it in the table does
pub record IsFirstAt (bytes : List ℕ) (at n : ℕ) : Type 0 where
  pub listed : n < length symbols
  pub stands : stands_at bytes at (slice_index_or symbols n []) ≡ true
  pub first : NoneBefore bytes at n

-- and it ends at `end`
abbrev pub IsSymbolSpan : List ℕ → (at n end : ℕ) → Type 0
IsSymbolSpan bytes at n end = IsFirstAt bytes at n × (end ≡ at + length (slice_index_or symbols n []))

-- the first `*/` behind the place
pub record IsFirstClose (bytes : List ℕ) (from close : ℕ) : Type 0 where
  pub behind : from ≤ close
  pub within : close + 2 ≤ length bytes
  pub closed : closes_comment bytes close ≡ true
  pub next : NoCloseBetween bytes from close

-- blanks and comments alone, within the source
pub record IsGap (bytes : List ℕ) (from to : ℕ) : Type 0 where
  pub order : from ≤ to
  pub within : to ≤ length bytes
  pub gap : Gap bytes from to

-- no blank and no comment begins at the place
pub record StartsToken (bytes : List ℕ) (at : ℕ) : Type 0 where
  pub no_blank : is_blank (slice_index bytes at) ≡ false
  pub no_comment : opens_comment bytes at ≡ false

-- digits, up to the last
pub record IsDigitSpan (bytes : List ℕ) (from to : ℕ) : Type 0 where
  pub rises : from < to
  pub within : to ≤ length bytes
  pub digits : is_digits (slice_range bytes from to) ≡ true
  pub stop : is_digit (slice_index bytes to) ≡ false
