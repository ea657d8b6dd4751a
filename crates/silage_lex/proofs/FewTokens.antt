-- A source has no more tokens than bytes.
use Rattle.std.proofs.Common.{arith, ℕ, ◌+◌, ◌≤◌, List, [], ◌∷◌, length}
use Rattle.silage_lex.specs.Tokens.{Gap, none, blank, comment, Spaced, HasTokens}
use Rattle.silage_lex.specs.declared.Token.{Token}

gap_order : {bytes : List ℕ} {i j : ℕ} → Gap bytes i j → i ≤ j
gap_order none = omega arith
gap_order (blank b g) = let h = gap_order g in omega (arith, h)
gap_order (comment c g) = let h = gap_order g in omega (arith, h, c.behind, c.ends)

spaced_order : (bytes : List ℕ) (i k : ℕ) (ts : List Token) → Spaced bytes i ts k → i + length ts ≤ k
spaced_order bytes i k [] g = let h = gap_order g in omega (arith, h)
spaced_order bytes i k (t ∷ ts) (g, is, rest) =
    let h = gap_order g in
    let r = spaced_order bytes t.to k ts rest in
    omega (arith, h, r, is.span.rises)

pub few_tokens : (bytes : List ℕ) (ts : List Token) → HasTokens bytes ts → length ts ≤ length bytes
few_tokens bytes ts h = let r = spaced_order bytes 0 (length bytes) ts h in omega (arith, r)
