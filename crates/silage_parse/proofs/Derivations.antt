-- Readings without roles, a nonterminal at a time; and readings of nonterminals with all tokens inside expressions, or
-- all outside.
use Rattle.std.proofs.Common.{◌≡◌, ℕ, ◌+◌, ◌≤◌, Bool, true, false, ◌&&◌, if◌then◌else◌, List, [], ◌∷◌, ◌++◌}
use Rattle.std.proofs.Common.{Option, Some, None, slice_get, refl, sym, ap, ◌∙◌, subst, ap₂, arith}
use Rattle.lists.proofs.Bools.{first_true, second_true}
use Rattle.silage_lex.specs.declared.Token.{Token}
use Rattle.silage_lex.specs.declared.TokenKind.{TokenKind}
use Rattle.silage_syntax.specs.Grammar.{kind_of, kind_at, Or, And, Sum, Product, Role, weights, plain}
use Rattle.silage_parse.specs.Private.ParseTable as the
use Rattle.silage_parse.specs.Private.ParseTable.{Terminal, End, is_one, Effect, Outside, Begins, Inside, Enters}
use Rattle.silage_parse.specs.Private.ParseTable.{Leaves, Nonterminal, Source, Value, Symbol, Match, Expand, Act}
use Rattle.silage_parse.specs.Private.ParseTable.{productions, Action}
use Rattle.silage_parse.specs.Private.Machine.{made, pushed, Among, alternatives}
use Rattle.silage_parse.specs.Private.Machine.{candidates, role_of, roles_of, Reads, r_end, r_match, r_expand, r_act}
use Rattle.silage_parse.proofs.SpanRoles.{weights_none, weights_more, weights_both, plain_none, plain_more, plain_both}
use Rattle.silage_parse.proofs.FirstFollow.{is_source, every}
use Rattle.silage_parse.proofs.Readings.{every_among, way_among}

mutual
  pub data Goes (us : List Token) : List Symbol → ℕ → List Value → ℕ → List Value → Type 0 where
    g_end : {i : ℕ} {vs : List Value} → Goes us [] i vs i vs
    g_match : {ks : List Terminal} {e : Effect} {ss : List Symbol} {i j : ℕ} {t : Token} {vs ws : List Value}
        → slice_get us i ≡ Some t
        → is_one ks (Some t.kind) ≡ true
        → Goes us ss (i + 1) (the.token t ∷ vs) j ws
        → Goes us (Match ks e ∷ ss) i vs j ws
    g_expand : {p : Nonterminal} {ss : List Symbol} {i j k : ℕ} {vs ws xs : List Value}
        → Does us p i vs j xs
        → Goes us ss j xs k ws
        → Goes us (Expand p ∷ ss) i vs k ws
    g_act : {a : Action} {ss : List Symbol} {i j : ℕ} {vs ws : List Value}
        → Goes us ss i (made a vs) j ws
        → Goes us (Act a ∷ ss) i vs j ws

  -- one nonterminal
  pub data Does (us : List Token) : Nonterminal → ℕ → List Value → ℕ → List Value → Type 0 where
    does : {p : Nonterminal} {ps : List Symbol} {i j : ℕ} {vs ws : List Value}
        → Among (candidates p (kind_at us i)) ps
        → Goes us ps i vs j ws
        → Does us p i vs j ws

-- the one effect of the tokens of a nonterminal, if they have one
abbrev pub home : Nonterminal → Option Effect
home Source = None
home the.Tops = None
home the.Items_ = None
home the.Item_ = None
home the.AfterTarget = None
home the.RightSide = None
home the.AfterRightName = None
home the.AfterOpenName = None
home the.Args = None
home the.MoreArgs = None
home the.Target = None
home the.MoreTargets = None
home the.TargetSubs = None
home the.SecondTargetSub = None
home (the.FixIn e) = Some e
home (the.FixEnd e) = Some e
home (the.Mode_ e) = Some e
home (the.AfterRound e) = Some e
home the.Signed = Some Outside
home the.Words = Some Outside
home the.MoreWords = Some Outside
home the.Dims = Some Outside
home the.SecondDim = Some Outside
home the.Type_ = Some Outside
home the.Name_ = Some Outside
home the.MoreNames = Some Outside
home the.Decl_ = Some Outside
home the.MoreDecls = Some Outside
home the.Results = Some Outside
home the.Locals = Some Outside
home the.InitialValue = Some Outside
home _ = Some Inside

abbrev same_effect : Effect → Effect → Bool
same_effect Inside Inside = true
same_effect Outside Outside = true
same_effect _ _ = false

abbrev pub has_home : Effect → Option Effect → Bool
has_home e None = false
has_home e (Some f) = same_effect e f

abbrev pub opposite : Bool → Bool
opposite true = false
opposite false = true

-- all symbols are inside, or all outside, and none waits for the end
abbrev pub all_at : Effect → List Symbol → Bool
all_at e [] = true
all_at e (Match ks f ∷ ss) = same_effect e f && (opposite (is_one ks None) && all_at e ss)
all_at e (Expand p ∷ ss) = has_home e (home p) && all_at e ss
all_at e (Act a ∷ ss) = all_at e ss

-- no symbol waits for the end
abbrev pub no_end : List Symbol → Bool
no_end [] = true
no_end (Match ks e ∷ ss) = opposite (is_one ks None) && no_end ss
no_end (Expand p ∷ ss) = opposite (is_source p) && no_end ss
no_end (Act a ∷ ss) = no_end ss

-- the productions of a nonterminal have its effect
kept : Effect → Nonterminal → Bool
kept e p = if has_home e (home p) then every (all_at e) (alternatives (productions p)) else true

inside_kept : (p : Nonterminal) → kept Inside p ≡ true
unfolding kept
inside_kept (the.FixIn Inside) = refl
inside_kept (the.FixIn _) = refl
inside_kept (the.FixEnd Inside) = refl
inside_kept (the.FixEnd _) = refl
inside_kept (the.Mode_ Inside) = refl
inside_kept (the.Mode_ _) = refl
inside_kept (the.AfterRound Inside) = refl
inside_kept (the.AfterRound _) = refl
inside_kept (the.Chain Or) = refl
inside_kept (the.Chain And) = refl
inside_kept (the.Chain Sum) = refl
inside_kept (the.Chain Product) = refl
inside_kept (the.Rest Or) = refl
inside_kept (the.Rest And) = refl
inside_kept (the.Rest Sum) = refl
inside_kept (the.Rest Product) = refl
inside_kept _ = refl

outside_kept : (p : Nonterminal) → kept Outside p ≡ true
unfolding kept
outside_kept (the.FixIn Outside) = refl
outside_kept (the.FixIn _) = refl
outside_kept (the.FixEnd Outside) = refl
outside_kept (the.FixEnd _) = refl
outside_kept (the.Mode_ Outside) = refl
outside_kept (the.Mode_ _) = refl
outside_kept (the.AfterRound Outside) = refl
outside_kept (the.AfterRound _) = refl
outside_kept _ = refl

all_kept : (e : Effect) (p : Nonterminal)
    → has_home e (home p) ≡ true
    → every (all_at e) (alternatives (productions p)) ≡ true
unfolding kept
all_kept Inside p h =
    elim (has_home Inside (home p)) as (λ b.
    b ≡ true
    → (if b then every (all_at Inside) (alternatives (productions p)) else true) ≡ true
    → every (all_at Inside) (alternatives (productions p)) ≡ true)
    [ true ↦ λ q r. r | false ↦ λ q r. cc ] h (inside_kept p)
all_kept Outside p h =
    elim (has_home Outside (home p)) as (λ b.
    b ≡ true
    → (if b then every (all_at Outside) (alternatives (productions p)) else true) ≡ true
    → every (all_at Outside) (alternatives (productions p)) ≡ true)
    [ true ↦ λ q r. r | false ↦ λ q r. cc ] h (outside_kept p)
all_kept Begins p h = not_begins (home p) h
  where
    not_begins : {A : Type 0} (o : Option Effect) → has_home Begins o ≡ true → A
    not_begins None h = cc
    not_begins (Some f) h = cc
all_kept Enters p h = not_enters (home p) h
  where
    not_enters : {A : Type 0} (o : Option Effect) → has_home Enters o ≡ true → A
    not_enters None h = cc
    not_enters (Some f) h = cc
all_kept Leaves p h = not_leaves (home p) h
  where
    not_leaves : {A : Type 0} (o : Option Effect) → has_home Leaves o ≡ true → A
    not_leaves None h = cc
    not_leaves (Some f) h = cc

no_ends : (p : Nonterminal) → is_source p ≡ false → every no_end (alternatives (productions p)) ≡ true
no_ends Source h = cc
no_ends (the.Chain Or) h = refl
no_ends (the.Chain And) h = refl
no_ends (the.Chain Sum) h = refl
no_ends (the.Chain Product) h = refl
no_ends (the.Rest Or) h = refl
no_ends (the.Rest And) h = refl
no_ends (the.Rest Sum) h = refl
no_ends (the.Rest Product) h = refl
no_ends _ h = refl

-- what the tests of a list say of its first symbol and of the rest
take_home : (e f : Effect) (ks : List Terminal) (ss : List Symbol)
    → all_at e (Match ks f ∷ ss) ≡ true
    → (same_effect e f ≡ true) × (opposite (is_one ks None) ≡ true) × (all_at e ss ≡ true)
take_home e f ks ss h =
    let b = second_true (same_effect e f) (opposite (is_one ks None) && all_at e ss) h in (
      first_true (same_effect e f) (opposite (is_one ks None) && all_at e ss) h,
      first_true (opposite (is_one ks None)) (all_at e ss) b,
      second_true (opposite (is_one ks None)) (all_at e ss) b,
    )

go_home : (e : Effect) (p : Nonterminal) (ss : List Symbol)
    → all_at e (Expand p ∷ ss) ≡ true
    → (has_home e (home p) ≡ true) × (all_at e ss ≡ true)
go_home e p ss h = (first_true (has_home e (home p)) (all_at e ss) h, second_true (has_home e (home p)) (all_at e ss) h)

-- the roles of the tokens of a stretch
abbrev pub span : Effect → List Token → ℕ → ℕ → List Role
span Inside us i j = weights us i j
span _ us i j = plain i j

span_none : (e : Effect) (us : List Token) (i : ℕ) → span e us i i ≡ []
span_none Inside us i = weights_none us i
span_none _ us i = plain_none i

span_more : (e f : Effect) (us : List Token) (i j : ℕ) {t : Token}
    → same_effect e f ≡ true
    → slice_get us i ≡ Some t
    → i + 1 ≤ j
    → span e us i j ≡ role_of f t ∷ span e us (i + 1) j
span_more Inside Inside us i j q h w = weights_more us i j h w
span_more Outside Outside us i j q h w = plain_more i j w
span_more _ _ us i j q h w = cc

span_both : (e : Effect) (us : List Token) {i j k : ℕ} → i ≤ j → j ≤ k → span e us i k ≡ span e us i j ++ span e us j k
span_both Inside us h w = weights_both us h w
span_both _ us h w = plain_both h w

-- one token, with its role
pub take_reads :
    {us : List Token} {ks : List Terminal} {ss : List Symbol} {i j : ℕ} {t : Token} {vs ws : List Value}
    {rs : List Role} (e : Effect)
    → slice_get us i ≡ Some t
    → is_one ks (Some t.kind) ≡ true
    → Reads us ss (i + 1) (the.token t ∷ vs) rs j ws
    → Reads us (Match ks e ∷ ss) i vs (role_of e t ∷ rs) j ws
take_reads {us} {ks} {ss} {i} {j} {t} {vs} {ws} {rs} e s f r =
    let a : is_one ks (kind_at us i) ≡ true = rw s f in
    let b : Reads us ss (i + 1) (pushed (slice_get us i) vs) rs j ws = rw s r in
    let c : Reads us (Match ks e ∷ ss) i vs (roles_of e (slice_get us i) ++ rs) j ws = r_match a b in
    rw s at c

-- a reading whose tokens are all inside, or all outside
pub record Spans
    (us : List Token) (e : Effect) (ss : List Symbol) (i : ℕ) (vs : List Value) (j : ℕ) (ws : List Value)
    : Type 0 where
  pub within : i ≤ j
  pub reads : Reads us ss i vs (span e us i j) j ws

pub record Spans_one
    (us : List Token) (e : Effect) (p : Nonterminal) (i : ℕ) (vs : List Value) (j : ℕ) (ws : List Value)
    : Type 0 where
  pub ps : List Symbol
  pub among : Among (candidates p (kind_at us i)) ps
  pub spans : Spans us e ps i vs j ws

pub roles_to : {us : List Token} {ss : List Symbol} {i j : ℕ} {vs ws : List Value} {rs qs : List Role}
    → rs ≡ qs
    → Reads us ss i vs rs j ws
    → Reads us ss i vs qs j ws
roles_to {us} {ss} {i} {j} {vs} {ws} q r = let P : List Role → Type 0 = λ x. Reads us ss i vs x j ws in subst P q r

mutual
  pub goes_spans : {us : List Token} (e : Effect) {ss : List Symbol} {i j : ℕ} {vs ws : List Value}
      → Goes us ss i vs j ws
      → all_at e ss ≡ true
      → Spans us e ss i vs j ws
  goes_spans {us} e (g_end {i = i}) h = record { within = omega arith; reads = roles_to (sym (span_none e us i)) r_end }
  goes_spans {us} e {j = j} (g_match {ks = ks} {e = f} {ss = ss} {i = i} s q g) h =
      let n = take_home e f ks ss h in
      let r = goes_spans e g n.2 in
      let w = r.within in
      record { within = omega arith; reads = roles_to (sym (span_more e f us i j n.0 s w)) (take_reads f s q r.reads) }
  goes_spans {us} e (g_expand {p = p} {ss = ss} a g) h =
      let n = go_home e p ss h in
      let d = does_spans e a n.0 in
      let r = goes_spans e g n.1 in
      let w = r.within in
      let v = d.spans.within in
      record {
        within = omega arith;
        reads = roles_to (sym (span_both e us v w)) (r_expand d.among d.spans.reads r.reads);
      }
  goes_spans e (g_act g) h = let r = goes_spans e g h in record { within = r.within; reads = r_act r.reads }

  pub does_spans : {us : List Token} (e : Effect) {p : Nonterminal} {i j : ℕ} {vs ws : List Value}
      → Does us p i vs j ws
      → has_home e (home p) ≡ true
      → Spans_one us e p i vs j ws
  does_spans {us} e (does {p = p} {ps = ps} {i = i} a g) h = record {
    ps = ps;
    among = a;
    spans = goes_spans e g (every_among (all_at e) (all_kept e p h) (way_among p (kind_at us i) a));
  }

-- where a reading goes
pub reads_within : {us : List Token} {ss : List Symbol} {i j : ℕ} {vs ws : List Value} {rs : List Role}
    → Reads us ss i vs rs j ws
    → i ≤ j
reads_within r_end = omega arith
reads_within (r_match h a) = let w = reads_within a in omega arith
reads_within (r_expand w a b) = let v = reads_within a in let u = reads_within b in omega arith
reads_within (r_act a) = reads_within a

pub way_no_end : (p : Nonterminal) (k : Option TokenKind) {ps : List Symbol}
    → Among (candidates p k) ps
    → opposite (is_source p) ≡ true
    → no_end ps ≡ true
way_no_end p k w h =
    every_among no_end
    (no_ends p (elim (is_source p) as (λ b. opposite b ≡ true → b ≡ false) [ true ↦ λ q. sym q | false ↦ λ q. refl ] h))
    (way_among p k w)

-- the token that was taken
pub taken : (us : List Token) (ks : List Terminal) (o : Option Token)
    → is_one ks (kind_of o) ≡ true
    → opposite (is_one ks None) ≡ true
    → (t : Token) × (o ≡ Some t)
taken us ks None h n = let c : opposite true ≡ true = ap opposite (sym h) ∙ n in cc
taken us ks (Some t) h n = (t, refl)

-- the roles of a reading whose tokens are all inside, or all outside
pub reads_span : {us : List Token} (e : Effect) {ss : List Symbol} {i j : ℕ} {vs ws : List Value} {rs : List Role}
    → Reads us ss i vs rs j ws
    → all_at e ss ≡ true
    → rs ≡ span e us i j
reads_span {us} e (r_end {i = i}) h = sym (span_none e us i)
reads_span {us} e {j = j} (r_match {ks = ks} {e = f} {ss = ss} {i = i} {rs = rs} q a) h =
    let n = take_home e f ks ss h in
    let t = taken us ks (slice_get us i) q n.1 in
    let r = reads_span e a n.2 in
    let w = reads_within a in
    let g : role_of f t.0 ∷ rs ≡ span e us i j = ap (λ x. role_of f t.0 ∷ x) r ∙ sym (span_more e f us i j n.0 t.1 w) in
    ap (λ o. roles_of f o ++ rs) t.1 ∙ g
reads_span {us} e (r_expand {p = p} {ss = ss} {i = i} way a b) h =
    let n = go_home e p ss h in
    let r = reads_span e a (every_among (all_at e) (all_kept e p n.0) (way_among p (kind_at us i) way)) in
    let s = reads_span e b n.1 in
    let w = reads_within a in
    let v = reads_within b in
    ap₂ (λ x y. x ++ y) r s ∙ sym (span_both e us w v)
reads_span e (r_act a) h = reads_span e a h

-- the same of one nonterminal
pub phrase_span :
    {us : List Token} (e : Effect) (p : Nonterminal) {ps : List Symbol} {i j : ℕ} {vs ws : List Value} {rs : List Role}
    → Among (candidates p (kind_at us i)) ps
    → Reads us ps i vs rs j ws
    → has_home e (home p) ≡ true
    → rs ≡ span e us i j
phrase_span {us} e p {i = i} way a h =
    reads_span e a (every_among (all_at e) (all_kept e p h) (way_among p (kind_at us i) way))
