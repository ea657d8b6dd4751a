-- Readings one after another, and that the next token decides the production: the table is LL(1).
use Rattle.std.proofs.Common.{◌≡◌, ℕ, Bool, true, false, not, ◌&&◌, ◌||◌, if◌then◌else◌, List, [], ◌∷◌, ◌++◌, map}
use Rattle.std.proofs.Common.{Option, slice_get, nat_eq, inl, inr, ◌⊎◌, refl, sym, ap, subst, ◌∙◌, append_assoc}
use Rattle.std.proofs.lemmas.Bool.{and_parts, and_from, or_cases, both_ways, not-true, or_left, eq-eqb}
use Rattle.silage_lex.specs.declared.Token.{Token}
use Rattle.silage_lex.specs.declared.TokenKind.{TokenKind}
use Rattle.silage_syntax.specs.Grammar.{kind_at, Role}
use Rattle.silage_parse.specs.Private.ParseTable.{Terminal, Punctuation, Keyword, End, is_one, Nonterminal, AfterMinus}
use Rattle.silage_parse.specs.Private.ParseTable.{Value, Symbol, Match, Expand, Act, Productions, productions}
use Rattle.silage_parse.specs.Private.Machine.{selected, predict, Among, here, there, alternatives, candidates}
use Rattle.silage_parse.specs.Private.Machine.{roles_of, Reads, r_end, r_match, r_expand, r_act}
use Rattle.silage_parse.proofs.Terminals.{terminal_of, has, is_one_has, has_left, has_right, has_either, within}
use Rattle.silage_parse.proofs.Terminals.{within_has, apart, apart_lacks}
use Rattle.silage_parse.proofs.FirstFollow.{first_set, nullable, follow_set, first_of, all_nullable, first_of_any}
use Rattle.silage_parse.proofs.FirstFollow.{decides, is_source, inner, keeps, every, begins_right, begins, right}
use Rattle.silage_parse.proofs.FirstFollow.{decided}

-- what is among a list
pub every_among : {A : Type 0} (f : A → Bool) {xs : List A} {x : A} → every f xs ≡ true → Among xs x → f x ≡ true
every_among f {xs} h (here {x = x} {xs = ys}) = (and_parts (f x) (every f ys) h).0
every_among f {xs} h (there {y = y} {xs = ys} a) = every_among f (and_parts (f y) (every f ys) h).1 a

pub only_one : {A : Type 0} {x y : A} → Among (x ∷ []) y → x ≡ y
only_one here = refl
only_one (there a) = none a
  where
    none : {A : Type 0} {x y : A} → Among [] y → x ≡ y
    none a = elim a [ ]

picked : {A : Type 0} (b : Bool) {x y : A} {xs : List A} → Among xs y → Among (x ∷ xs) (if b then x else y)
picked true a = here
picked false a = there a

asked_among : (xs : List (List Terminal × List Symbol)) (other : List Symbol) (k : Option TokenKind)
    → Among (map (λ x. x.1) xs ++ other ∷ []) (selected xs other k)
asked_among [] other k = here
asked_among (x ∷ xs) other k = picked (is_one x.0 k) (asked_among xs other k)

pub predict_among : (c : Productions) (k : Option TokenKind) → Among (alternatives c) (predict c k)
predict_among c k = asked_among c.by_lookahead c.otherwise k

pub predict_candidate : (p : Nonterminal) (k : Option TokenKind) → Among (candidates p k) (predict (productions p) k)
predict_candidate AfterMinus k = here
predict_candidate p k = predict_among (productions p) k

pub way_among : (p : Nonterminal) (k : Option TokenKind) {ps : List Symbol}
    → Among (candidates p k) ps
    → Among (alternatives (productions p)) ps
way_among AfterMinus k a =
    subst (λ ps. Among (alternatives (productions AfterMinus)) ps) (only_one a)
    (predict_among (productions AfterMinus) k)
way_among p k a = a

-- Readings one after another.
pub append : {us : List Token} {ps ss : List Symbol} {i j k : ℕ} {vs xs ws : List Value} {rs qs : List Role}
    → Reads us ps i vs rs j xs
    → Reads us ss j xs qs k ws
    → Reads us (ps ++ ss) i vs (rs ++ qs) k ws
append r_end b = b
append {us} {ss = ss} {k = k} {ws = ws} {qs = qs} (r_match {ks = ks} {e = e} {ss = ps} {i = i} {vs = vs} {rs = rs} h a)
    b =
    subst (λ x. Reads us (Match ks e ∷ ps ++ ss) i vs x k ws) (sym (append_assoc (roles_of e (slice_get us i)) rs qs))
    (r_match h (append a b))
append {us} {ss = ss} {k = k} {ws = ws} {qs = qs}
    (r_expand {p = p} {ss = rest} {i = i} {vs = vs} {rs = rs} {qs = more} w a c) b =
    subst (λ x. Reads us (Expand p ∷ rest ++ ss) i vs x k ws) (sym (append_assoc rs more qs))
    (r_expand w a (append c b))
append (r_act a) b = r_act (append a b)

pub record Split
    (us : List Token) (ps ss : List Symbol) (i : ℕ) (vs : List Value) (rs : List Role) (k : ℕ) (ws : List Value)
    : Type 0 where
  pub at : ℕ
  pub values : List Value
  pub front : List Role
  pub back : List Role
  pub first : Reads us ps i vs front at values
  pub rest : Reads us ss at values back k ws
  pub roles : rs ≡ front ++ back

pub split : {us : List Token} (ps : List Symbol) {ss : List Symbol} {i k : ℕ} {vs ws : List Value} {rs : List Role}
    → Reads us (ps ++ ss) i vs rs k ws
    → Split us ps ss i vs rs k ws
split [] {i = i} {vs = vs} {rs = rs} r =
    record { at = i; values = vs; front = []; back = rs; first = r_end; rest = r; roles = refl }
split {us} (Match ks e ∷ ps) (r_match {i = i} {rs = rs} h a) =
    let s = split ps a in
    record {
      at = s.at;
      values = s.values;
      back = s.back;
      front = roles_of e (slice_get us i) ++ s.front;
      first = r_match h s.first;
      rest = s.rest;
      roles =
          ap (λ x. roles_of e (slice_get us i) ++ x) s.roles
          ∙ sym (append_assoc (roles_of e (slice_get us i)) s.front s.back);
    }
split (Expand p ∷ ps) (r_expand {rs = rs} w x y) =
    let s = split ps y in
    record {
      at = s.at;
      values = s.values;
      back = s.back;
      front = rs ++ s.front;
      first = r_expand w x s.first;
      rest = s.rest;
      roles = ap (λ z. rs ++ z) s.roles ∙ sym (append_assoc rs s.front s.back);
    }
split (Act a ∷ ps) (r_act x) =
    let s = split ps x in
    record {
      at = s.at;
      values = s.values;
      front = s.front;
      back = s.back;
      first = r_act s.first;
      rest = s.rest;
      roles = s.roles;
    }

-- What symbols may begin with.
if_has : (b : Bool) (xs : List Terminal) (t : Terminal)
    → has (if b then xs else []) t ≡ true
    → (b ≡ true) × (has xs t ≡ true)
if_has true xs t h = (refl, h)
if_has false xs t h = cc

has_if : (b : Bool) (xs : List Terminal) (t : Terminal)
    → b ≡ true
    → has xs t ≡ true
    → has (if b then xs else []) t ≡ true
has_if true xs t e h = h
has_if false xs t e h = cc

pub look_more : (ss : List Symbol) (f g : List Terminal)
    → ((t : Terminal) → has f t ≡ true → has g t ≡ true)
    → (t : Terminal)
    → has (first_of ss f) t ≡ true
    → has (first_of ss g) t ≡ true
look_more [] f g more t h = more t h
look_more (Match ks e ∷ ss) f g more t h = h
look_more (Expand p ∷ ss) f g more t h =
    let rest : List Terminal = if nullable p then first_of ss g else [] in
    elim (has_either (first_set p) (if nullable p then first_of ss f else []) t h) [
      | inl q ↦ has_left (first_set p) rest t q
      | inr q ↦
          let r = if_has (nullable p) (first_of ss f) t q in
          has_right (first_set p) rest t (has_if (nullable p) (first_of ss g) t r.0 (look_more ss f g more t r.1))
    ]
look_more (Act a ∷ ss) f g more t h = look_more ss f g more t h

look_either : (ss : List Symbol) (f : List Terminal) (t : Terminal)
    → has (first_of ss f) t ≡ true
    → (has (first_of ss []) t ≡ true) ⊎ ((all_nullable ss ≡ true) × (has f t ≡ true))
look_either [] f t h = inr (refl, h)
look_either (Match ks e ∷ ss) f t h = inl h
look_either (Expand p ∷ ss) f t h =
    let rest : List Terminal = if nullable p then first_of ss [] else [] in
    elim (has_either (first_set p) (if nullable p then first_of ss f else []) t h) [
      | inl q ↦ inl (has_left (first_set p) rest t q)
      | inr q ↦
          let r = if_has (nullable p) (first_of ss f) t q in
          elim (look_either ss f t r.1) [
            | inl x ↦ inl (has_right (first_set p) rest t (has_if (nullable p) (first_of ss []) t r.0 x))
            | inr x ↦ inr (and_from (nullable p) (all_nullable ss) r.0 x.0, x.1)
          ]
    ]
look_either (Act a ∷ ss) f t h = look_either ss f t h

look_append : (ps ss : List Symbol) (f : List Terminal) → first_of (ps ++ ss) f ≡ first_of ps (first_of ss f)
look_append [] ss f = refl
look_append (Match ks e ∷ ps) ss f = refl
look_append (Expand p ∷ ps) ss f = ap (λ x. first_set p ++ (if nullable p then x else [])) (look_append ps ss f)
look_append (Act a ∷ ps) ss f = look_append ps ss f

-- a nonterminal begins as its productions do
row_begins : (p : Nonterminal) (ps : List Symbol) (f : List Terminal) (t : Terminal)
    → begins_right p ps ≡ true
    → has (first_of ps f) t ≡ true
    → has (first_set p ++ (if nullable p then f else [])) t ≡ true
row_begins p ps f t right h =
    let q = and_parts (within (first_of ps []) (first_set p)) (not (all_nullable ps) || nullable p) right in
    let rest : List Terminal = if nullable p then f else [] in
    elim (look_either ps f t h) [
      | inl x ↦ has_left (first_set p) rest t (within_has (first_of ps []) (first_set p) t q.0 x)
      | inr x ↦
          elim (or_cases (not (all_nullable ps)) (nullable p) q.1) [
            | inl y ↦ absurd (both_ways (all_nullable ps) (not-true (all_nullable ps) y) x.0)
            | inr y ↦ has_right (first_set p) rest t (has_if (nullable p) f t y x.1)
          ]
    ]

-- what is read begins with what may be there
pub read_begins : {us : List Token} {ss : List Symbol} {i j : ℕ} {vs ws : List Value} {rs : List Role}
    → Reads us ss i vs rs j ws
    → (f : List Terminal)
    → has f (terminal_of (kind_at us j)) ≡ true
    → has (first_of ss f) (terminal_of (kind_at us i)) ≡ true
read_begins r_end f h = h
read_begins {us} (r_match {ks = ks} {i = i} is a) f h = sym (is_one_has ks (kind_at us i)) ∙ is
read_begins {us} (r_expand {p = p} {ps = ps} {ss = ss} {i = i} way a b) f h =
    let x = read_begins a (first_of ss f) (read_begins b f h) in
    row_begins p ps (first_of ss f) (terminal_of (kind_at us i))
    (every_among (begins_right p) (begins p) (way_among p (kind_at us i) way)) x
read_begins (r_act a) f h = read_begins a f h

-- Each nonterminal of the symbols is followed by what may follow it; only their last one asks for the end.
abbrev pub Valid : List Symbol → Type 0
Valid [] = Unit {0}
Valid (Match ks e ∷ ss) = ((inner ks ≡ true) ⊎ ((ks ≡ End ∷ []) × (ss ≡ []))) × Valid ss
Valid (Expand p ∷ ss) =
    (is_source p ≡ false)
    × ((f : List Terminal) (t : Terminal) → has (first_of ss f) t ≡ true → has (follow_set p) t ≡ true)
    × Valid ss
Valid (Act a ∷ ss) = Valid ss

keeps_valid : (f : List Terminal) (ps ss : List Symbol)
    → keeps f ps ≡ true
    → ((g : List Terminal) (t : Terminal) → has (first_of ss g) t ≡ true → has f t ≡ true)
    → Valid ss
    → Valid (ps ++ ss)
keeps_valid f [] ss k h v = v
keeps_valid f (Match ks e ∷ ps) ss k h v =
    let q = and_parts (inner ks) (keeps f ps) k in (inl q.0, keeps_valid f ps ss q.1 h v)
keeps_valid f (Expand p ∷ ps) ss k h v =
    let q = and_parts (not (is_source p)) (within (first_of ps f) (follow_set p) && keeps f ps) k in
    let r = and_parts (within (first_of ps f) (follow_set p)) (keeps f ps) q.1 in (
      not-true (is_source p) q.0,
      λ g t x.
          within_has (first_of ps f) (follow_set p) t r.0
          (look_more ps (first_of ss g) f (h g) t (ap (λ z. has z t) (sym (look_append ps ss g)) ∙ x)),
      keeps_valid f ps ss r.1 h v,
    )
keeps_valid f (Act a ∷ ps) ss k h v = keeps_valid f ps ss k h v

pub valid_way : (p : Nonterminal) (ps ss : List Symbol)
    → Valid (Expand p ∷ ss)
    → Among (alternatives (productions p)) ps
    → Valid (ps ++ ss)
valid_way p ps ss v a =
    let r = and_parts (every (keeps (follow_set p)) (alternatives (productions p))) (decided p) (right p v.0) in
    keeps_valid (follow_set p) ps ss (every_among (keeps (follow_set p)) r.0 a) v.1 v.2

-- the production that begins as the tokens do is the one that is predicted
looks_among :
    (xs : List (List Terminal × List Symbol)) (other : List Symbol) (f : List Terminal) (t : Terminal)
    {ps : List Symbol}
    → Among (map (λ x. x.1) xs ++ other ∷ []) ps
    → has (first_of ps f) t ≡ true
    → has (first_of_any xs other f) t ≡ true
looks_among [] other f t {ps} a h = ap (λ z. has (first_of z f) t) (only_one a) ∙ h
looks_among (x ∷ xs) other f t here h = has_left (first_of x.1 f) (first_of_any xs other f) t h
looks_among (x ∷ xs) other f t (there a) h =
    has_right (first_of x.1 f) (first_of_any xs other f) t (looks_among xs other f t a h)

decides_chosen :
    (xs : List (List Terminal × List Symbol)) (other : List Symbol) (f : List Terminal) (k : Option TokenKind)
    {ps : List Symbol}
    → decides xs other f ≡ true
    → Among (map (λ x. x.1) xs ++ other ∷ []) ps
    → has (first_of ps f) (terminal_of k) ≡ true
    → selected xs other k ≡ ps
decides_chosen [] other f k d a h = only_one a
decides_chosen (x ∷ xs) other f k d here h =
    let q = and_parts (within (first_of x.1 f) x.0) (apart x.0 (first_of_any xs other f) && decides xs other f) d in
    let is = is_one_has x.0 k ∙ within_has (first_of x.1 f) x.0 (terminal_of k) q.0 h in
    rw is refl
decides_chosen (x ∷ xs) other f k d (there a) h =
    let q = and_parts (within (first_of x.1 f) x.0) (apart x.0 (first_of_any xs other f) && decides xs other f) d in
    let r = and_parts (apart x.0 (first_of_any xs other f)) (decides xs other f) q.1 in
    let no =
    is_one_has x.0 k
    ∙ apart_lacks x.0 (first_of_any xs other f) (terminal_of k) r.0 (looks_among xs other f (terminal_of k) a h) in
    rw no (decides_chosen xs other f k r.1 a h)

decide : (p : Nonterminal) (k : Option TokenKind) {ps : List Symbol}
    → decided p ≡ true
    → Among (candidates p k) ps
    → has (first_of ps (follow_set p)) (terminal_of k) ≡ true
    → predict (productions p) k ≡ ps
decide AfterMinus k d a h = only_one a
decide p k d a h = decides_chosen (productions p).by_lookahead (productions p).otherwise (follow_set p) k d a h

pub ll1 : (us : List Token) (p : Nonterminal) (ps ss : List Symbol) {i j : ℕ} {vs ws : List Value} {rs : List Role}
    → Valid (Expand p ∷ ss)
    → Among (candidates p (kind_at us i)) ps
    → Reads us (ps ++ ss) i vs rs j ws
    → predict (productions p) (kind_at us i) ≡ ps
ll1 us p ps ss {i} {j} v a r =
    let end : Terminal = terminal_of (kind_at us j) in
    let t : Terminal = terminal_of (kind_at us i) in
    let x = read_begins r (end ∷ []) (itself end) in
    let d = and_parts (every (keeps (follow_set p)) (alternatives (productions p))) (decided p) (right p v.0) in
    decide p (kind_at us i) d.1 a
    (look_more ps (first_of ss (end ∷ [])) (follow_set p) (v.1 (end ∷ [])) t
    (ap (λ z. has z t) (sym (look_append ps ss (end ∷ []))) ∙ x))
  where
    itself : (t : Terminal) → has (t ∷ []) t ≡ true
    itself (Punctuation n) = or_left (nat_eq n n) false (eq-eqb n n refl)
    itself (Keyword n) = or_left (nat_eq n n) false (eq-eqb n n refl)
    itself _ = refl
