-- The right side of an equation, which the table reads in one with a call: where no call begins, it is an expression.
use Rattle.std.proofs.Common.{◌≡◌, ℕ, ◌+◌, List, [], ◌∷◌, ◌++◌, Option, Some, refl, true, false, Bool, ◌⊎◌, inl, inr}
use Rattle.silage_lex.specs.declared.Token.{Token}
use Rattle.silage_lex.specs.declared.TokenKind.{TokenKind}
use Rattle.silage_lex.specs.declared.TokenKind.TheVariants as kind
use Rattle.silage_lex.specs.declared.punctuation.TheConstants as punctuation
use Rattle.silage_syntax.specs.Grammar.{kind_at, Or}
use Rattle.silage_parse.specs.Private.ParseTable.{Terminal, Punctuation, AName, Effect, Outside, Value, Symbol, Match}
use Rattle.silage_parse.specs.Private.ParseTable.{Expand, Act, Nonterminal, Chain, Unary, OtherUnary, RightSide}
use Rattle.silage_parse.specs.Private.ParseTable.{is_equation, rests, productions, punctuation_of, is_one}
use Rattle.silage_parse.specs.Private.Machine.{Count, Outcome, Runs, expands, matches, wrong, limit, predict}

pub gone : {ts : List Token} {p : Nonterminal} {ss : List Symbol} {i : ℕ} {c : Count} {vs : List Value} {o : Outcome}
    → Runs ts (Expand p ∷ ss) i c vs o
    → Runs ts (predict (productions p) (kind_at ts i) ++ ss) i c vs o
gone (expands r) = r

-- after a token another run may go on
pub taken_then :
    {ts : List Token} {ks : List Terminal} {e : Effect} {ss qs : List Symbol} {i : ℕ} {c : Count} {vs : List Value}
    {o : Outcome}
    → ((d : Count) (ws : List Value) → Runs ts ss (i + 1) d ws o → Runs ts qs (i + 1) d ws o)
    → Runs ts (Match ks e ∷ ss) i c vs o
    → Runs ts (Match ks e ∷ qs) i c vs o
taken_then f (matches a b r) = matches a b (f _ _ r)
taken_then f (wrong a) = wrong a
taken_then f (limit a b) = limit a b

-- an expression begins with a unary
pub first_unary : {ts : List Token} {ss : List Symbol} {i : ℕ} {c : Count} {vs : List Value} {o : Outcome}
    → Runs ts (Expand (Chain Or) ∷ ss) i c vs o
    → Runs ts (Expand Unary ∷ (rests ++ ss)) i c vs o
first_unary r = gone (gone (gone (gone (gone (gone r)))))

not_both : (n : ℕ) (k : Option TokenKind) → is_one (AName ∷ []) k ≡ true → is_one (Punctuation n ∷ []) k ≡ false
not_both n (Some (kind.Name name)) h = refl
not_both n _ h = cc

bool_cases : (b : Bool) → (b ≡ true) ⊎ (b ≡ false)
bool_cases true = inl refl
bool_cases false = inr refl

-- a name, and no call after it
pub equation_at_name : {ts : List Token} {ss : List Symbol} {i : ℕ} {c : Count} {vs : List Value} {o : Outcome}
    → is_one (AName ∷ []) (kind_at ts i) ≡ true
    → is_one (Punctuation punctuation.LEFT_PAREN ∷ []) (kind_at ts (i + 1)) ≡ false
    → Runs ts (Expand (Chain Or) ∷ punctuation_of punctuation.SEMICOLON Outside ∷ Act is_equation ∷ ss) i c vs o
    → Runs ts (Expand RightSide ∷ ss) i c vs o
equation_at_name {ts} {i = i} name open_ r =
    let primary =
    rw (not_both punctuation.MINUS (kind_at ts i) name, not_both punctuation.BANG (kind_at ts i) name) at
    (gone (first_unary r)) in
    let place = rw name at (gone primary) in
    expands (rw name (taken_then (λ d ws s. expands (rw open_ s)) place))

unary_other : {ts : List Token} {ss : List Symbol} {i : ℕ} {c : Count} {vs : List Value} {o : Outcome}
    → is_one (AName ∷ []) (kind_at ts i) ≡ false
    → Runs ts (Expand Unary ∷ ss) i c vs o
    → Runs ts (Expand OtherUnary ∷ ss) i c vs o
unary_other {ts} {i = i} other r =
    elim (bool_cases (is_one (Punctuation punctuation.MINUS ∷ []) (kind_at ts i))) [
      | inl h ↦ expands (rw h (rw h at (gone r)))
      | inr h ↦ elim (bool_cases (is_one (Punctuation punctuation.BANG ∷ []) (kind_at ts i))) [
        | inl g ↦ expands (rw (h, g) (rw (h, g) at (gone r)))
        | inr g ↦ expands (rw (h, g) (rw other at (gone (rw (h, g) at (gone r)))))
      ]
    ]

-- no name
pub equation_at_other : {ts : List Token} {ss : List Symbol} {i : ℕ} {c : Count} {vs : List Value} {o : Outcome}
    → is_one (AName ∷ []) (kind_at ts i) ≡ false
    → Runs ts (Expand (Chain Or) ∷ punctuation_of punctuation.SEMICOLON Outside ∷ Act is_equation ∷ ss) i c vs o
    → Runs ts (Expand RightSide ∷ ss) i c vs o
equation_at_other other r = expands (rw other (unary_other other (first_unary r)))
