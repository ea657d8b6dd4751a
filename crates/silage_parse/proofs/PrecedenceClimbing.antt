-- Precedence climbing: the machine goes past each level of operators at which the next token is none.
use Rattle.std.proofs.Common.{◌≡◌, ◌≢◌, subst, not, ℕ, zero, suc, ◌+◌, ◌≤◌, ◌<◌, Bool, true, false, List, [], ◌∷◌, ◌++◌}
use Rattle.std.proofs.Common.{Option, Some, refl, ap, arith, nat_eq, nat_le, inl, inr}
use Rattle.std.specs.Prelude.{if◌then◌else◌, ◌||◌}
use Rattle.std.proofs.lemmas.Bool.{cases_lt, le-leb, lt-leb}
use Rattle.std.proofs.lemmas.Bool.Decides.{eqb_tells}
use Rattle.std.proofs.lemmas.Option.{same_Some}
use Rattle.silage_lex.specs.declared.Token.{Token}
use Rattle.silage_lex.specs.declared.TokenKind.{TokenKind}
use Rattle.silage_lex.specs.declared.TokenKind.TheVariants as kind
use Rattle.silage_syntax.specs.declared.tree.BinOp.{BinOp}
use Rattle.silage_syntax.specs.declared.tree.BinOp.TheVariants as op
use Rattle.silage_syntax.specs.Tree.{Expr, binary}
use Rattle.silage_syntax.specs.Grammar.{Or, And, Sum, Product, operator, comparison, row}
use Rattle.silage_parse.specs.declared.expressions.Precedence.{Precedence}
use Rattle.silage_parse.specs.declared.expressions.Precedence.TheVariants as r
use Rattle.silage_parse.specs.declared.parser.Parser.{Parser}
use Rattle.silage_parse.specs.Private.ParseTable.{Terminal, Inside, Value, Symbol, Match, Expand, Act, Nonterminal}
use Rattle.silage_parse.specs.Private.ParseTable.{Chain, Rest, Comparison, CompareRest, Shift, is_one, productions}
use Rattle.silage_parse.specs.Private.ParseTable as the
use Rattle.silage_parse.specs.Private.Machine.{made, or_else}
use Rattle.silage_parse.specs.Private.Parsed.{next, Leads}
use Rattle.silage_parse.specs.Private.Precedence.{rank, precedence_of, tightest_after, binary_operators}
use Rattle.silage_parse.specs.Private.Precedence.{binary_operator, infixes, operation, operated, joins, IsBetween}
use Rattle.silage_parse.specs.Private.Precedence.{NoneBetween}
use Rattle.silage_parse.proofs.Steps.{only, first, other}

-- THE LEVELS

-- the precedence of a rank, the tightest from rank 4 on
abbrev pub of_rank : ℕ → Precedence
of_rank zero = r.Or
of_rank (suc zero) = r.And
of_rank (suc (suc zero)) = r.Comparison
of_rank (suc (suc (suc zero))) = r.Sum
of_rank _ = r.Product

-- what may follow the operands of a precedence
abbrev pub rest_of : Precedence → Nonterminal
rest_of r.Or = Rest Or
rest_of r.And = Rest And
rest_of r.Comparison = CompareRest
rest_of r.Sum = Rest Sum
rest_of r.Product = Rest Product

-- what may follow an operand: operators of the ranks below `bound`, the tightest first, down to the loosest
abbrev pub rests : ℕ → ℕ → List Symbol
rests zero loosest = []
rests (suc bound) loosest = if nat_le loosest bound then Expand (rest_of (of_rank bound)) ∷ rests bound loosest else []

-- an operation begins with its first operand
pub begins : {ss rest : List Symbol} {from to : Parser} {vs us : List Value} (p : Precedence)
    → Leads ss from vs (Expand (operation p) ∷ rest) to us
    → Leads ss from vs (Expand Shift ∷ (rests 5 (rank p) ++ rest)) to us
begins r.Product l = only l refl
begins r.Sum l = only (only l refl) refl
begins r.Comparison l = only (only (only l refl) refl) refl
begins r.And l = only (only (only (only l refl) refl) refl) refl
begins r.Or l = only (only (only (only (only l refl) refl) refl) refl) refl

-- what an operator of a level leads to
pub rest_goes : (p : Precedence) {ss rest : List Symbol} {from to : Parser} {vs us : List Value}
    → Leads ss from vs (Expand (rest_of p) ∷ rest) to us
    → is_one (infixes p) (next to) ≡ false
    → Leads ss from vs rest to us
rest_goes r.Or l differs = other l refl differs
rest_goes r.And l differs = other l refl differs
rest_goes r.Comparison l differs = other l refl differs
rest_goes r.Sum l differs = other l refl differs
rest_goes r.Product l differs = other l refl differs

-- WHICH OPERATOR A TOKEN IS

-- what each row of a table says
abbrev AllRows : (ℕ → BinOp → Type 0) → List (ℕ × BinOp) → Type 0
AllRows P [] = Unit {0}
AllRows P (x ∷ xs) = P x.0 x.1 × AllRows P xs

row_holds : (P : ℕ → BinOp → Type 0) (xs : List (ℕ × BinOp))
    → AllRows P xs
    → (n : ℕ) (o : BinOp)
    → row xs n ≡ Some o
    → P n o
row_holds P [] all n o h = absurd (cc)
row_holds P (x ∷ xs) all n o h =
    elim (eqb_tells x.0 n) [
      | inl same ↦
          let found : Some x.1 ≡ Some o = rw same.0 at h in
          let here : P n x.1 = subst (λ m. P m x.1) same.1 all.0 in
          subst (P n) (same_Some x.1 o found) here
      | inr differs ↦ row_holds P xs all.1 n o (rw differs.0 at h)
    ]

-- the operator of a precedence that a token is
abbrev pub operator_of : Precedence → Option TokenKind → Option BinOp
operator_of r.Or k = operator Or k
operator_of r.And k = operator And k
operator_of r.Comparison k = comparison k
operator_of r.Sum k = operator Sum k
operator_of r.Product k = operator Product k

pub operator_is : (k : Option TokenKind) (o : BinOp)
    → binary_operator k ≡ Some o
    → operator_of (precedence_of o) k ≡ Some o
operator_is (Some (kind.Symbol n)) o h =
    let P : ℕ → BinOp → Type 0 = λ n o. operator_of (precedence_of o) (Some (kind.Symbol n)) ≡ Some o in
    row_holds P binary_operators
    (refl, (refl, (refl, (refl, (refl, (refl, (refl, (refl, (refl, (refl, (refl, tt))))))))))) n o h
operator_is _ o h = absurd (cc)

pub is_infix : (k : Option TokenKind) (o : BinOp)
    → binary_operator k ≡ Some o
    → is_one (infixes (precedence_of o)) k ≡ true
is_infix (Some (kind.Symbol n)) o h =
    let P : ℕ → BinOp → Type 0 = λ n o. is_one (infixes (precedence_of o)) (Some (kind.Symbol n)) ≡ true in
    row_holds P binary_operators
    (refl, (refl, (refl, (refl, (refl, (refl, (refl, (refl, (refl, (refl, (refl, tt))))))))))) n o h
is_infix _ o h = absurd (cc)

-- an operator of one precedence is none of another
abbrev apart : Precedence → ℕ → BinOp → Bool
apart p n o = nat_eq (rank p) (rank (precedence_of o)) || not (is_one (infixes p) (Some (kind.Symbol n)))

rows_apart : (p : Precedence) (n : ℕ) (o : BinOp) → row binary_operators n ≡ Some o → apart p n o ≡ true
rows_apart r.Or n o h =
    row_holds (λ n o. apart r.Or n o ≡ true) binary_operators
    (refl, (refl, (refl, (refl, (refl, (refl, (refl, (refl, (refl, (refl, (refl, tt))))))))))) n o h
rows_apart r.And n o h =
    row_holds (λ n o. apart r.And n o ≡ true) binary_operators
    (refl, (refl, (refl, (refl, (refl, (refl, (refl, (refl, (refl, (refl, (refl, tt))))))))))) n o h
rows_apart r.Comparison n o h =
    row_holds (λ n o. apart r.Comparison n o ≡ true) binary_operators
    (refl, (refl, (refl, (refl, (refl, (refl, (refl, (refl, (refl, (refl, (refl, tt))))))))))) n o h
rows_apart r.Sum n o h =
    row_holds (λ n o. apart r.Sum n o ≡ true) binary_operators
    (refl, (refl, (refl, (refl, (refl, (refl, (refl, (refl, (refl, (refl, (refl, tt))))))))))) n o h
rows_apart r.Product n o h =
    row_holds (λ n o. apart r.Product n o ≡ true) binary_operators
    (refl, (refl, (refl, (refl, (refl, (refl, (refl, (refl, (refl, (refl, (refl, tt))))))))))) n o h

not_or : (a b : Bool) → a ≡ false → (a || not b) ≡ true → b ≡ false
not_or a true none h = let e : (a || false) ≡ false = rw none refl in cc
not_or a false none h = refl

pub not_infix : (p : Precedence) (k : Option TokenKind) (o : BinOp)
    → binary_operator k ≡ Some o
    → rank p ≢ rank (precedence_of o)
    → is_one (infixes p) k ≡ false
not_infix p (Some (kind.Symbol n)) o h apart_ =
    elim (eqb_tells (rank p) (rank (precedence_of o))) [
      | inl same ↦ absurd (apart_ same.1)
      | inr differs ↦
          not_or (nat_eq (rank p) (rank (precedence_of o))) (is_one (infixes p) (Some (kind.Symbol n))) differs.0
          (rows_apart p n o h)
    ]
not_infix p _ o h apart_ = absurd (cc)

-- CLIMBING

-- an operator whose precedence is out of bounds is none within them
pub none_between : (loosest tightest : Precedence) (k : Option TokenKind) (o : BinOp)
    → binary_operator k ≡ Some o
    → (rank loosest ≤ rank (precedence_of o) → rank (precedence_of o) ≤ rank tightest → ⊥)
    → NoneBetween loosest tightest k
none_between loosest tightest k o h out = λ p low high. not_infix p k o h (λ same. out (omega arith) (omega arith))

rank_of_rank : (n : ℕ) → n ≤ 4 → rank (of_rank n) ≡ n
rank_of_rank zero h = refl
rank_of_rank (suc zero) h = refl
rank_of_rank (suc (suc zero)) h = refl
rank_of_rank (suc (suc (suc zero))) h = refl
rank_of_rank (suc (suc (suc (suc zero)))) h = refl
rank_of_rank (suc (suc (suc (suc (suc n))))) h = absurd (omega arith)

-- the machine goes past the levels from `bound` down to another at which the next token is no operator
pub declines : {ss : List Symbol} (rest : List Symbol) {from to : Parser} {vs us : List Value} (bound lower loosest : ℕ)
    → bound ≤ 5
    → lower ≤ bound
    → loosest ≤ lower
    → ((p : Precedence) → lower ≤ rank p → rank p < bound → is_one (infixes p) (next to) ≡ false)
    → Leads ss from vs (rests bound loosest ++ rest) to us
    → Leads ss from vs (rests lower loosest ++ rest) to us
declines {ss} rest {from} {to} {vs} {us} zero lower loosest few order low none l =
    let same : zero ≡ lower = omega arith in
    subst (λ n. Leads ss from vs (rests n loosest ++ rest) to us) same l
declines {ss} rest {from} {to} {vs} {us} (suc bound) lower loosest few order low none l =
    elim (cases_lt bound lower) [
      | inl above ↦
          let same : suc bound ≡ lower = omega arith in
          subst (λ n. Leads ss from vs (rests n loosest ++ rest) to us) same l
      | inr below ↦
          let open_ : nat_le loosest bound ≡ true = le-leb loosest bound (omega arith) in
          let rank_is = rank_of_rank bound (omega arith) in
          let here : Leads ss from vs (Expand (rest_of (of_rank bound)) ∷ (rests bound loosest ++ rest)) to
          us = rw open_ at l in
          let next_level = rest_goes (of_rank bound) here (none (of_rank bound) (omega arith) (omega arith)) in
          declines rest bound lower loosest (omega arith) below low (λ p a b. none p a (omega arith)) next_level
    ]

-- no level is left
no_rests : (bound loosest : ℕ) → bound ≤ loosest → rests bound loosest ≡ []
no_rests zero loosest h = refl
no_rests (suc n) loosest h = rw (lt-leb loosest n (omega arith)) refl

-- where the next token is an operator, the machine reads it and its right operand, and goes on with the levels that
-- may follow
operator_next :
    {ss : List Symbol} (rest : List Symbol) {from to : Parser} {vs us : List Value} (p : Precedence) (loosest : ℕ)
    → nat_le loosest (rank p) ≡ true
    → Leads ss from vs (rests (rank p + 1) loosest ++ rest) to us
    → is_one (infixes p) (next to) ≡ true
    → Leads ss from vs (operated p ++ (rests (rank (tightest_after p) + 1) loosest ++ rest)) to us
operator_next rest r.Or loosest open_ l this = rw open_ (first (rw open_ at l) refl this)
operator_next rest r.And loosest open_ l this = rw open_ (first (rw open_ at l) refl this)
operator_next rest r.Comparison loosest open_ l this = first (rw open_ at l) refl this
operator_next rest r.Sum loosest open_ l this = rw open_ (first (rw open_ at l) refl this)
operator_next rest r.Product loosest open_ l this = rw open_ (first (rw open_ at l) refl this)

rank_few : (p : Precedence) → rank p ≤ 4
rank_few r.Or = omega arith
rank_few r.And = omega arith
rank_few r.Comparison = omega arith
rank_few r.Sum = omega arith
rank_few r.Product = omega arith

pub climbs :
    {ss : List Symbol} (rest : List Symbol) {from to : Parser} {vs us : List Value} (loosest tightest : Precedence)
    (o : BinOp)
    → IsBetween loosest tightest (next to) o
    → Leads ss from vs (rests (rank tightest + 1) (rank loosest) ++ rest) to us
    → Leads ss from vs
    (operated (precedence_of o) ++ (rests (rank (tightest_after (precedence_of o)) + 1) (rank loosest) ++ rest)) to
    us
climbs rest {to = to} loosest tightest o h l =
    let few = rank_few tightest in
    let low = h.low in
    let high = h.high in
    let below =
    declines rest (rank tightest + 1) (rank (precedence_of o) + 1) (rank loosest) (omega arith) (omega arith)
    (omega arith)
    (λ p above under. not_infix p (next to) o h.is (λ same. absurd (omega arith))) l in
    operator_next rest (precedence_of o) (rank loosest) (le-leb _ _ low) below (is_infix (next to) o h.is)

-- where it is no operator that may follow, the operation is over
pub climbed : {ss rest : List Symbol} {from to : Parser} {vs us : List Value} (loosest tightest : Precedence)
    → NoneBetween loosest tightest (next to)
    → Leads ss from vs (rests (rank tightest + 1) (rank loosest) ++ rest) to us
    → Leads ss from vs rest to us
climbed {ss} {rest} {from} {to} {vs} {us} loosest tightest none l =
    let few = rank_few tightest in
    elim (cases_lt (rank loosest) (rank tightest + 1)) [
      | inl more ↦
          let over =
          declines rest (rank tightest + 1) (rank loosest) (rank loosest) (omega arith) (omega arith) (omega arith)
          (λ p above under. none p above (omega arith)) l in
          subst (λ ps. Leads ss from vs (ps ++ rest) to us) (no_rests (rank loosest) (rank loosest) (omega arith)) over
      | inr past ↦
          subst (λ ps. Leads ss from vs (ps ++ rest) to us) (no_rests (rank tightest + 1) (rank loosest) past) l
    ]

-- the tree of an operator with its operands
pub joined : (p : Precedence) (o : BinOp) (a b : Expr) (t : Token)
    → operator_of p (Some t.kind) ≡ Some o
    → (under : List Value)
    → made (joins p) (the.expr b ∷ the.token t ∷ the.expr a ∷ under) ≡ the.expr (binary t.from o a b) ∷ under
joined r.Or o a b t h under = ap (λ x. the.expr (binary t.from (or_else op.Add x) a b) ∷ under) h
joined r.And o a b t h under = ap (λ x. the.expr (binary t.from (or_else op.Add x) a b) ∷ under) h
joined r.Comparison o a b t h under = ap (λ x. the.expr (binary t.from (or_else op.Eq x) a b) ∷ under) h
joined r.Sum o a b t h under = ap (λ x. the.expr (binary t.from (or_else op.Add x) a b) ∷ under) h
joined r.Product o a b t h under = ap (λ x. the.expr (binary t.from (or_else op.Add x) a b) ∷ under) h
