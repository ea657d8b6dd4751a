-- A run and a reading of lists that agree as far as the run looks go the same way.
use Rattle.std.proofs.Common.{◌≡◌, ℕ, ◌+◌, ◌≤◌, List, ◌∷◌, ◌++◌, Option, slice_get, refl, sym, ap, subst, ◌∙◌, arith}
use Rattle.std.proofs.lemmas.Bool.{both_ways}
use Rattle.silage_lex.specs.declared.Token.{Token}
use Rattle.silage_lex.specs.declared.TokenKind.{TokenKind}
use Rattle.silage_syntax.specs.Grammar.{kind_of, kind_at, Role}
use Rattle.silage_syntax.specs.Limits.{AgreeBelow}
use Rattle.silage_parse.specs.declared.ParseFault.TheVariants.{Syntax, Deep, Memory}
use Rattle.silage_parse.specs.Private.ParseTable.{is_one, Nonterminal, Value, Symbol, Expand, productions}
use Rattle.silage_parse.specs.Private.Machine.{pushed, predict, Count, Outcome, done, fault, Runs, ends, matches, wrong}
use Rattle.silage_parse.specs.Private.Machine.{limit, expands, acts, Reads, r_end, r_match, r_expand, r_act}
use Rattle.silage_parse.proofs.Readings.{append, Valid, valid_way, predict_among, ll1}

-- a run stops no earlier than it begins, and never for want of memory
abbrev pub StopsFrom : ℕ → Outcome → Type 0
StopsFrom i (done vs) = Unit {0}
StopsFrom i (fault (Syntax k)) = i ≤ k
StopsFrom i (fault (Deep k)) = i ≤ k
StopsFrom i (fault Memory) = ⊥

stops_later : (i : ℕ) (o : Outcome) → StopsFrom (i + 1) o → StopsFrom i o
stops_later i (done vs) h = tt
stops_later i (fault (Syntax k)) h = omega (arith, h)
stops_later i (fault (Deep k)) h = omega (arith, h)
stops_later i (fault Memory) h = h

pub stops_from : {ts : List Token} {ss : List Symbol} {i : ℕ} {c : Count} {vs : List Value} {o : Outcome}
    → Runs ts ss i c vs o
    → StopsFrom i o
stops_from ends = tt
stops_from (matches {i = i} {o = o} h l r) = stops_later i o (stops_from r)
stops_from (wrong h) = omega arith
stops_from (limit h l) = omega arith
stops_from (expands r) = stops_from r
stops_from (acts r) = stops_from r

-- a reading goes on with the production that is predicted
pub go_on : (ts us : List Token) {p : Nonterminal} {ss : List Symbol} {i j : ℕ} {vs ws : List Value} {rs : List Role}
    → slice_get ts i ≡ slice_get us i
    → Valid (Expand p ∷ ss)
    → Reads us (Expand p ∷ ss) i vs rs j ws
    → Reads us (predict (productions p) (kind_at ts i) ++ ss) i vs rs j ws
go_on ts us {p} {ss} {i} {j} {vs} {ws} s v (r_expand {ps = ps} {rs = rs} {qs = qs} way a b) =
    let r = append a b in
    let e = ap (λ x. predict (productions p) (kind_of x)) s ∙ ll1 us p ps ss v way r in
    subst (λ x. Reads us (x ++ ss) i vs (rs ++ qs) j ws) (sym e) r

pub valid_on : (p : Nonterminal) (ss : List Symbol) (k : Option TokenKind)
    → Valid (Expand p ∷ ss)
    → Valid (predict (productions p) k ++ ss)
valid_on p ss k v = valid_way p (predict (productions p) k) ss v (predict_among (productions p) k)

pub same_values : {ts : List Token} {ss : List Symbol} {i j : ℕ} {c : Count} {vs xs ws : List Value} {rs : List Role}
    → Runs ts ss i c vs (done xs)
    → Valid ss
    → Reads ts ss i vs rs j ws
    → xs ≡ ws
same_values ends v r_end = refl
same_values (matches h l r) v (r_match g a) = same_values r v.1 a
same_values {ts} (expands {p = p} {ss = ss} {i = i} r) v a =
    same_values r (valid_on p ss (kind_at ts i) v) (go_on ts ts refl v a)
same_values (acts r) v (r_act a) = same_values r v a

pub no_syntax : (ts us : List Token) (k : ℕ)
    → AgreeBelow ts us (k + 1)
    → {ss : List Symbol} {i j : ℕ} {c : Count} {vs ws : List Value} {rs : List Role}
    → Runs ts ss i c vs (fault (Syntax k))
    → Valid ss
    → Reads us ss i vs rs j ws
    → ⊥
no_syntax ts us k agree (matches {ss = ss} {i = i} {vs = vs} h l r) v (r_match {j = j} {ws = ws} {rs = rs} g a) =
    let low = stops_from r in
    let s : slice_get ts i ≡ slice_get us i = agree i (omega (arith, low)) in
    no_syntax ts us k agree r v.1 (subst (λ x. Reads us ss (i + 1) (pushed x vs) rs j ws) (sym s) a)
no_syntax ts us k agree (wrong {ks = ks} h) v (r_match g a) =
    both_ways (is_one ks (kind_at us k)) (ap (λ x. is_one ks (kind_of x)) (sym (agree k (omega arith))) ∙ h) g
no_syntax ts us k agree (expands {p = p} {ss = ss} {i = i} r) v a =
    let low = stops_from r in
    no_syntax ts us k agree r (valid_on p ss (kind_at ts i) v) (go_on ts us (agree i (omega (arith, low))) v a)
no_syntax ts us k agree (acts r) v (r_act a) = no_syntax ts us k agree r v a
