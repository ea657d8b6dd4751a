-- The line of a token is that of the byte at which it begins.
use Rattle.std.proofs.Common.{◌≡◌, ◌∙◌, ℕ, zero, suc, List, [], ◌∷◌, length, slice_get, Some, refl, sym, subst, ap}
use Rattle.std.specs.Option.{option_map_or}
use Rattle.lists.proofs.Places.{some_once}
use Rattle.silage_lex.specs.Tokens.{Spaced, HasTokens, line_at}
use Rattle.silage_lex.specs.declared.Token.{Token}
use Rattle.front_end.specs.Places.{token_start}

own_line : (source : List ℕ) (tokens : List Token) (from to : ℕ)
    → Spaced source from tokens to
    → (k : ℕ) (t : Token)
    → slice_get tokens k ≡ Some t
    → t.line ≡ line_at source t.from
own_line source [] from to h k t e = absurd (cc e)
own_line source (u ∷ us) from to h zero t e =
    subst (λ (x : Token). x.line ≡ line_at source x.from) (some_once refl e) h.1.line
own_line source (u ∷ us) from to h (suc k) t e = own_line source us u.to to h.2 k t e

pub line_of_token : (source : List ℕ) (tokens : List Token)
    → HasTokens source tokens
    → (k : ℕ) (t : Token)
    → slice_get tokens k ≡ Some t
    → t.line ≡ line_at source (token_start source tokens k)
line_of_token source tokens h k t e =
    own_line source tokens 0 (length source) h k t e
    ∙ ap (line_at source) (sym (ap (λ o. option_map_or (λ (t : Token). t.from) o (length source)) e))
