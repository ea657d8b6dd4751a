-- Viable prefixes: where a run stops, the tokens before begin a list that is read to its end.
use Rattle.std.proofs.Common.{◌≡◌, ℕ, zero, suc, ◌+◌, ◌≤◌, ◌<◌, true, false, nat_eq, List, [], ◌∷◌, ◌++◌, map, length}
use Rattle.std.proofs.Common.{take, Some, None, slice_get, inl, inr, ◌⊎◌, refl, sym, ap, subst, ◌∙◌, append_assoc}
use Rattle.std.proofs.Common.{append-nil, arith, length-append, length-take}
use Rattle.std.proofs.lemmas.Bool.{cases_lt, both_ways, not-true, or_left, eq-eqb, ltb-true}
use Rattle.std.proofs.lemmas.Option.{slice_get_past}
use Rattle.silage_lex.specs.declared.Token.{Token}
use Rattle.silage_lex.specs.declared.TokenKind.{TokenKind}
use Rattle.silage_lex.specs.declared.TokenKind.TheVariants as kind
use Rattle.silage_syntax.specs.Grammar.{kind_of, kind_at, Role}
use Rattle.silage_syntax.specs.Limits.{AgreeBelow}
use Rattle.silage_parse.specs.declared.ParseFault.{ParseFault}
use Rattle.silage_parse.specs.declared.ParseFault.TheVariants.{Syntax, Deep, Memory}
use Rattle.silage_parse.specs.Private.ParseTable.{Terminal, Punctuation, Keyword, AName, AWhole, APoint, End, is_one}
use Rattle.silage_parse.specs.Private.ParseTable.{Effect, Outside, Begins, Inside, Enters, Leaves, Nonterminal}
use Rattle.silage_parse.specs.Private.ParseTable.{ManifestPrimary, OtherPrimary, AfterMinus, Value, Symbol, Match}
use Rattle.silage_parse.specs.Private.ParseTable.{Expand, Act, productions, number}
use Rattle.silage_parse.specs.Private.ParseTable as the
use Rattle.silage_parse.specs.Private.Machine.{pushed, made, predict, Count, allowed, fault, Runs, matches, wrong}
use Rattle.silage_parse.specs.Private.Machine.{limit, expands, acts, Among, here, there, candidates, alternatives}
use Rattle.silage_parse.specs.Private.Machine.{roles_of, Reads, r_end, r_match, r_expand, r_act}
use Rattle.silage_parse.proofs.Terminals.{has, is_one_has}
use Rattle.silage_parse.proofs.FirstFollow.{inner, short, steps, size, short_ends}
use Rattle.silage_parse.proofs.Readings.{split, Valid, valid_way, predict_candidate}
use Rattle.silage_parse.proofs.Agreement.{StopsFrom, stops_from, valid_on}
use Rattle.silage_parse.proofs.Counting.{seam}

-- Tokens that fill symbols, whatever is before them.
pub record Reading (us : List Token) (ss : List Symbol) (i : ℕ) (vs : List Value) : Type 0 where
  pub roles : List Role
  pub end : ℕ
  pub values : List Value
  pub reads : Reads us ss i vs roles end values

pub record Filled (ss : List Symbol) : Type 0 where
  pub tokens : List Token
  pub reading : (before : List Token) (vs : List Value) → Reading (before ++ tokens) ss (length before) vs

abbrev token_of : TokenKind → Token
token_of k = record { kind = k; from = 0; to = 0; line = 0 }

token_in : (ks : List Terminal) → inner ks ≡ true → (k : TokenKind) × (is_one ks (Some k) ≡ true)
token_in [] h = cc
token_in (Punctuation n ∷ ks) h =
    (kind.Symbol n, or_left (nat_eq n n) (is_one ks (Some (kind.Symbol n))) (eq-eqb n n refl))
token_in (Keyword n ∷ ks) h =
    (kind.Reserved n, or_left (nat_eq n n) (is_one ks (Some (kind.Reserved n))) (eq-eqb n n refl))
token_in (AName ∷ ks) h = (kind.Name [], refl)
token_in (AWhole ∷ ks) h = (kind.Whole 0, refl)
token_in (APoint ∷ ks) h = (kind.Point 0 0, refl)
token_in (End ∷ ks) h = cc

filled_take : (ks : List Terminal) (e : Effect) (ss : List Symbol)
    → inner ks ≡ true
    → Filled ss
    → Filled (Match ks e ∷ ss)
filled_take ks e ss h f =
    let k = token_in ks h in
    let t : Token = token_of k.0 in
    record {
      tokens = t ∷ f.tokens;
      reading = λ before vs.
          let us : List Token = before ++ t ∷ f.tokens in
          let same : (before ++ t ∷ []) ++ f.tokens ≡ us = append_assoc before (t ∷ []) f.tokens in
          let place : length (before ++ t ∷ []) ≡ length before + 1 = length-append before (t ∷ []) in
          let stands : slice_get us (length before) ≡ Some t = seam before t f.tokens in
          let r = f.reading (before ++ t ∷ []) (the.token t ∷ vs) in
          let moved : Reads us ss (length before + 1) (the.token t ∷ vs) r.roles r.end r.values =
          subst (λ i. Reads us ss i (the.token t ∷ vs) r.roles r.end r.values) place
          (subst (λ xs. Reads xs ss (length (before ++ t ∷ [])) (the.token t ∷ vs) r.roles r.end r.values) same
          r.reads) in
          record {
            roles = roles_of e (slice_get us (length before)) ++ r.roles;
            end = r.end;
            values = r.values;
            reads =
                r_match (ap (λ x. is_one ks (kind_of x)) stands ∙ k.1)
                (subst (λ x. Reads us ss (length before + 1) (pushed x vs) r.roles r.end r.values) (sym stands) moved);
          };
    }

no_more : (before : List Token) → slice_get (before ++ []) (length before) ≡ None
no_more before =
    ap (λ us. slice_get us (length before)) (append-nil before) ∙ slice_get_past before (length before) (omega arith)

filled_end : (e : Effect) → Filled (Match (End ∷ []) e ∷ [])
filled_end e = record {
  tokens = [];
  reading = λ before vs. record {
    roles = roles_of e (slice_get (before ++ []) (length before)) ++ [];
    end = length before + 1;
    values = pushed (slice_get (before ++ []) (length before)) vs;
    reads = r_match (ap (λ x. is_one (End ∷ []) (kind_of x)) (no_more before)) r_end;
  };
}

filled_last : (ks : List Terminal) (e : Effect) (ss : List Symbol) → ks ≡ End ∷ [] → ss ≡ [] → Filled (Match ks e ∷ ss)
filled_last ks e ss a b =
    subst (λ xs. Filled (Match ks e ∷ xs)) (sym b) (subst (λ xs. Filled (Match xs e ∷ [])) (sym a) (filled_end e))

last_among : {A : Type 0} (xs : List A) (y : A) → Among (xs ++ y ∷ []) y
last_among [] y = here
last_among (x ∷ xs) y = there (last_among xs y)

short_among : (p : Nonterminal) → Among (alternatives (productions p)) (short p)
short_among ManifestPrimary = here
short_among OtherPrimary = here
short_among AfterMinus = here
short_among p = last_among (map (λ x. x.1) (productions p).by_lookahead) (productions p).otherwise

short_way : (us : List Token) (p : Nonterminal) (ss : List Symbol) {i j : ℕ} {vs ws : List Value} {rs : List Role}
    → Reads us (short p ++ ss) i vs rs j ws
    → Among (candidates p (kind_at us i)) (short p)
short_way us AfterMinus ss (r_match is a) = rw is here
short_way us ManifestPrimary ss r = here
short_way us OtherPrimary ss r = here
short_way us p ss r = short_among p

size_append : (ps ss : List Symbol) → size (ps ++ ss) ≡ size ps + size ss
size_append [] ss = omega arith
size_append (Match ks e ∷ ps) ss = let h = size_append ps ss in omega (arith, h)
size_append (Expand p ∷ ps) ss = let h = size_append ps ss in omega (arith, h)
size_append (Act a ∷ ps) ss = let h = size_append ps ss in omega (arith, h)

production_smaller : (p : Nonterminal) (ss : List Symbol) (n : ℕ) → steps p + size ss ≤ suc n → size (short p ++ ss) ≤ n
production_smaller p ss n h =
    let less = ltb-true (size (short p)) (steps p) (short_ends p) in
    let both = size_append (short p) ss in
    omega (arith, h, less, both)

filled_go : (p : Nonterminal) (ss : List Symbol) → Filled (short p ++ ss) → Filled (Expand p ∷ ss)
filled_go p ss f = record {
  tokens = f.tokens;
  reading = λ before vs.
      let r = f.reading before vs in
      let s = split (short p) r.reads in
      record {
        roles = s.front ++ s.back;
        end = r.end;
        values = r.values;
        reads = r_expand (short_way (before ++ f.tokens) p ss r.reads) s.first s.rest;
      };
}

filled_make : (a : the.Action) (ss : List Symbol) → Filled ss → Filled (Act a ∷ ss)
filled_make a ss f = record {
  tokens = f.tokens;
  reading = λ before vs.
      let r = f.reading before (made a vs) in
      record { roles = r.roles; end = r.end; values = r.values; reads = r_act r.reads };
}

fill : (n : ℕ) (ss : List Symbol) → size ss ≤ n → Valid ss → Filled ss
fill n [] le v = record {
  tokens = [];
  reading = λ before vs. record { roles = []; end = length before; values = vs; reads = r_end };
}
fill zero (Match ks e ∷ ss) le v = absurd (omega (arith, le))
fill zero (Act a ∷ ss) le v = absurd (omega (arith, le))
fill zero (Expand p ∷ ss) le v =
    let less = ltb-true (size (short p)) (steps p) (short_ends p) in absurd (omega (arith, le, less))
fill (suc n) (Match ks e ∷ ss) le v =
    elim v.0 [
      | inl h ↦ filled_take ks e ss h (fill n ss (omega (arith, le)) v.1)
      | inr h ↦ filled_last ks e ss h.0 h.1
    ]
fill (suc n) (Act a ∷ ss) le v = filled_make a ss (fill n ss (omega (arith, le)) v)
fill (suc n) (Expand p ∷ ss) le v =
    filled_go p ss (fill n (short p ++ ss) (production_smaller p ss n le) (valid_way p (short p) ss v (short_among p)))

-- A list that has the first k tokens, and is read from token i on through the symbols.
pub record Completed (ts : List Token) (ss : List Symbol) (i : ℕ) (vs : List Value) (k : ℕ) : Type 0 where
  pub all : List Token
  pub agrees : AgreeBelow ts all k
  pub long : k ≤ length all
  pub reading : Reading all ss i vs

get_kept : {A : Type 0} (xs ys : List A) (m : ℕ) → m < length xs → slice_get (xs ++ ys) m ≡ slice_get xs m
get_kept [] ys m h = absurd (omega arith)
get_kept (x ∷ xs) ys zero h = refl
get_kept (x ∷ xs) ys (suc m) h = get_kept xs ys m (omega arith)

get_take : {A : Type 0} (n : ℕ) (xs : List A) (m : ℕ) → m < n → slice_get (take n xs) m ≡ slice_get xs m
get_take zero xs m h = absurd (omega arith)
get_take (suc n) [] m h = refl
get_take (suc n) (x ∷ xs) zero h = refl
get_take (suc n) (x ∷ xs) (suc m) h = get_take n xs m (omega arith)

complete : (ts : List Token) (ss : List Symbol) (i : ℕ) (vs : List Value)
    → i ≤ length ts
    → Valid ss
    → Completed ts ss i vs i
complete ts ss i vs le v =
    let f = fill (size ss) ss (omega arith) v in
    let front : List Token = take i ts in
    let place : length front ≡ i = simp length-take (omega arith) in
    let size : length (front ++ f.tokens) ≡ length front + length f.tokens = length-append front f.tokens in
    record {
      all = front ++ f.tokens;
      agrees = λ m lt. sym (get_kept front f.tokens m (omega arith) ∙ get_take i ts m lt);
      long = omega arith;
      reading = subst (λ x. Reading (front ++ f.tokens) ss x vs) place (f.reading front vs);
    }

-- how many tokens before a fault begin a program
abbrev pub front_of : ParseFault → ℕ
front_of (Syntax k) = k
front_of (Deep k) = k + 1
front_of Memory = 0

front_from : (i : ℕ) (f : ParseFault) → StopsFrom i (fault f) → i ≤ front_of f
front_from i (Syntax k) h = h
front_from i (Deep k) h = omega (arith, h)
front_from i Memory h = absurd h

no_fault : {ts : List Token} {i : ℕ} {c : Count} {vs : List Value} (ss : List Symbol) {f : ParseFault}
    → ss ≡ []
    → Runs ts ss i c vs (fault f)
    → ⊥
no_fault {ts} {i} {c} {vs} ss {f} e r = none (subst (λ xs. Runs ts xs i c vs (fault f)) e r)
  where
    none : {ts : List Token} {i : ℕ} {c : Count} {vs : List Value} {f : ParseFault} → Runs ts [] i c vs (fault f) → ⊥
    none r = elim r [ ]

-- a token was matched, if a run goes on after it to a fault
taken :
    (ts : List Token) (ks : List Terminal) (ss : List Symbol) {i j : ℕ} {c : Count} {vs : List Value} {f : ParseFault}
    → (inner ks ≡ true) ⊎ ((ks ≡ End ∷ []) × (ss ≡ []))
    → is_one ks (kind_at ts i) ≡ true
    → Runs ts ss j c vs (fault f)
    → i < length ts
taken ts ks ss {i} v is r =
    elim (cases_lt i (length ts)) [
      | inl lt ↦ lt
      | inr past ↦
          elim v [
            | inl h ↦ absurd (at_end ks h (ap (λ x. is_one ks (kind_of x)) (sym (slice_get_past ts i past)) ∙ is))
            | inr h ↦ absurd (no_fault ss h.1 r)
          ]
    ]
  where
    at_end : (ks : List Terminal) → inner ks ≡ true → is_one ks None ≡ true → ⊥
    at_end [] h is = cc
    at_end (k ∷ ks) h is =
        both_ways (has (k ∷ ks) End) (not-true (has (k ∷ ks) End) h) (sym (is_one_has (k ∷ ks) None) ∙ is)

not_allowed : (e : Effect) (ts : List Token) (i : ℕ) (c : Count) → allowed e (slice_get ts i) c ≡ false → i < length ts
not_allowed e ts i c h =
    elim (cases_lt i (length ts)) [
      | inl lt ↦ lt
      | inr past ↦
          absurd
          (both_ways (allowed e (slice_get ts i) c) h (ap (λ x. allowed e x c) (slice_get_past ts i past) ∙ at_end e c))
    ]
  where
    at_end : (e : Effect) (c : Count) → allowed e None c ≡ true
    at_end Outside c = refl
    at_end Begins c = refl
    at_end Inside c = refl
    at_end Enters c = refl
    at_end Leaves c = refl

abbrev Viable : List Token → List Symbol → ℕ → List Value → ParseFault → Type 0
Viable ts ss i vs f = (front_of f ≤ length ts) × Completed ts ss i vs (front_of f)

completed_take : (ts : List Token) {ks : List Terminal} {e : Effect} {ss : List Symbol} {i k : ℕ} {vs : List Value}
    → is_one ks (kind_at ts i) ≡ true
    → i < k
    → Completed ts ss (i + 1) (pushed (slice_get ts i) vs) k
    → Completed ts (Match ks e ∷ ss) i vs k
completed_take ts {ks} {e} {ss} {i} {vs = vs} is lt c =
    let r = c.reading in
    let same = c.agrees i lt in
    record {
      all = c.all;
      agrees = c.agrees;
      long = c.long;
      reading = record {
        roles = roles_of e (slice_get c.all i) ++ r.roles;
        end = r.end;
        values = r.values;
        reads =
            r_match (ap (λ x. is_one ks (kind_of x)) (sym same) ∙ is)
            (subst (λ x. Reads c.all ss (i + 1) (pushed x vs) r.roles r.end r.values) same r.reads);
      };
    }

completed_go : (ts : List Token) {p : Nonterminal} {ss : List Symbol} {i k : ℕ} {vs : List Value}
    → i < k
    → Completed ts (predict (productions p) (kind_at ts i) ++ ss) i vs k
    → Completed ts (Expand p ∷ ss) i vs k
completed_go ts {p} {ss} {i} {vs = vs} lt c =
    let r = c.reading in
    let same = ap (λ x. predict (productions p) (kind_of x)) (c.agrees i lt) in
    let s =
    split (predict (productions p) (kind_at c.all i))
    (subst (λ x. Reads c.all (x ++ ss) i vs r.roles r.end r.values) same r.reads) in
    record {
      all = c.all;
      agrees = c.agrees;
      long = c.long;
      reading = record {
        roles = s.front ++ s.back;
        end = r.end;
        values = r.values;
        reads = r_expand (predict_candidate p (kind_at c.all i)) s.first s.rest;
      };
    }

completed_make : (ts : List Token) {a : the.Action} {ss : List Symbol} {i k : ℕ} {vs : List Value}
    → Completed ts ss i (made a vs) k
    → Completed ts (Act a ∷ ss) i vs k
completed_make ts c =
    let r = c.reading in
    record {
      all = c.all;
      agrees = c.agrees;
      long = c.long;
      reading = record { roles = r.roles; end = r.end; values = r.values; reads = r_act r.reads };
    }

pub viable : (ts : List Token) {ss : List Symbol} {i : ℕ} {c : Count} {vs : List Value} {f : ParseFault}
    → Runs ts ss i c vs (fault f)
    → Valid ss
    → i ≤ length ts
    → Viable ts ss i vs f
viable ts {f = f} (matches {ks = ks} {ss = ss} {i = i} h l r) v le =
    let lt = taken ts ks ss v.0 h r in
    let w = viable ts r v.1 (omega (arith, lt)) in
    let low = front_from (i + 1) f (stops_from r) in
    (w.0, completed_take ts h (omega (arith, low)) w.1)
viable ts (wrong {ks = ks} {e = e} {ss = ss} {i = i} {vs = vs} h) v le = (le, complete ts (Match ks e ∷ ss) i vs le v)
viable ts (limit {e = e} {ss = ss} {i = i} {c = c} {vs = vs} h l) v le =
    let lt = not_allowed e ts i c l in (
      omega (arith, lt),
      completed_take ts h (omega arith) (complete ts ss (i + 1) (pushed (slice_get ts i) vs) (omega (arith, lt)) v.1),
    )
viable ts {f = f} (expands {p = p} {ss = ss} {i = i} {vs = vs} r) v le =
    let w = viable ts r (valid_on p ss (kind_at ts i) v) le in
    let low = front_from i f (stops_from r) in
    elim (cases_lt i (front_of f)) [
      | inl lt ↦ (w.0, completed_go ts lt w.1)
      | inr no_token ↦
          let same : i ≡ front_of f = omega (arith, low, no_token) in
          (w.0, subst (λ x. Completed ts (Expand p ∷ ss) i vs x) same (complete ts (Expand p ∷ ss) i vs le v))
    ]
viable ts (acts r) v le = let w = viable ts r v le in (w.0, completed_make ts w.1)
