-- Tokens with blanks and comments around them, read on to a later place.
use Rattle.std.proofs.Common.{◌≡◌, ℕ, ◌+◌, ◌-◌, ◌≤◌, List, [], ◌∷◌, ◌++◌, take, count_by, nat_eq, cond, sym, ap, ◌∙◌}
use Rattle.std.proofs.Common.{subst, arith}
use Rattle.std.specs.Prelude.{slice_range}
use Rattle.std.proofs.Math.Seq.{take-add}
use Rattle.std.proofs.lemmas.List.Sums.{sum_by-append}
use Rattle.silage_lex.specs.Tokens.{Gap, none, blank, comment, Spaced, IsSpan, IsToken, line_at}
use Rattle.silage_lex.specs.declared.Token.{Token}

pub gap_then : {bytes : List ℕ} {i j k : ℕ} → Gap bytes i j → Gap bytes j k → Gap bytes i k
gap_then none rest = rest
gap_then (blank b gap) rest = blank b (gap_then gap rest)
gap_then (comment c gap) rest = comment c (gap_then gap rest)

pub spaced_gap : (bytes : List ℕ) (i j k : ℕ) (tokens : List Token)
    → Spaced bytes i tokens j
    → Gap bytes j k
    → Spaced bytes i tokens k
spaced_gap bytes i j k [] read gap = gap_then read gap
spaced_gap bytes i j k (t ∷ ts) read gap = (read.0, read.1, spaced_gap bytes t.to j k ts read.2 gap)

spaced_token : (bytes : List ℕ) (i : ℕ) (tokens : List Token) (token : Token)
    → Spaced bytes i tokens token.from
    → IsToken bytes token
    → Spaced bytes i (tokens ++ token ∷ []) token.to
spaced_token bytes i [] token read h = (read, h, none)
spaced_token bytes i (t ∷ ts) token read h = (read.0, read.1, spaced_token bytes t.to ts token read.2 h)

-- the line of a later place is more by the LF between
pub line_more : (bytes : List ℕ) (at end : ℕ)
    → at ≤ end
    → line_at bytes at + count_by (λ b. nat_eq b 10) (slice_range bytes at end) ≡ line_at bytes end
line_more bytes at end order =
    let place : at + (end - at) ≡ end = omega arith in
    let longer = ap (λ (n : ℕ). take n bytes) place in
    let split = ap (count_by (λ b. nat_eq b 10)) (sym longer ∙ take-add at (end - at) bytes) in
    let counts : count_by (λ b. nat_eq b 10) (take at bytes ++ slice_range bytes at end)
    ≡ count_by (λ b. nat_eq b 10) (take at bytes) + count_by (λ b. nat_eq b 10) (slice_range bytes at end) =
    sum_by-append (λ b. cond (nat_eq b 10) 1 0) (take at bytes) (slice_range bytes at end) in
    omega arith

-- one token more is read
pub token_read : (bytes : List ℕ) (tokens longer : List Token) (token : Token)
    → longer ≡ tokens ++ token ∷ []
    → Spaced bytes 0 tokens token.from
    → IsSpan bytes token.kind token.from token.to
    → token.line ≡ line_at bytes token.from
    → Spaced bytes 0 longer token.to
token_read bytes tokens longer token items read span line =
    let P : List Token → Type 0 = λ ts. Spaced bytes 0 ts token.to in
    subst P (sym items) (spaced_token bytes 0 tokens token read (record { span = span; line = line }))
