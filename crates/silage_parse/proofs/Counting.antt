-- The counts of a run are the weight and the loops that the roles of the tokens so far have.
use Rattle.std.proofs.Common.{◌≡◌, ℕ, zero, suc, ◌+◌, ◌≤◌, ◌<◌, Bool, true, false, if◌then◌else◌, nat_lt, List, [], ◌∷◌}
use Rattle.std.proofs.Common.{◌++◌, length, fold, Some, slice_get, inl, inr, refl, sym, ap, subst, ◌∙◌, append_assoc}
use Rattle.std.proofs.Common.{append-nil, arith, length-append}
use Rattle.std.proofs.lemmas.Bool.{cases_lt, ltb-true, ltb-false}
use Rattle.std.proofs.lemmas.Option.{slice_get_within, same_Some}
use Rattle.std.proofs.lemmas.List.Sums.{fold-append}
use Rattle.std.proofs.Math.Seq.{take-append_seam}
use Rattle.silage_lex.specs.declared.Token.{Token}
use Rattle.silage_syntax.specs.Grammar.{kind_of, kind_at, weighs, weight_role, Role, Plain, Starts, Weighs}
use Rattle.silage_syntax.specs.Grammar as role
use Rattle.silage_syntax.specs.Limits.{weigh, enter, Passes, too_heavy, too_deep, AgreeBelow}
use Rattle.silage_parse.specs.declared.ParseFault.TheVariants.{Syntax, Deep, Memory}
use Rattle.silage_parse.specs.Private.ParseTable.{Effect, Outside, Begins, Inside, Enters, Leaves, Value, Symbol}
use Rattle.silage_parse.specs.Private.Machine.{pushed, Count, add_weight, no_count, counted, allowed, Outcome, done}
use Rattle.silage_parse.specs.Private.Machine.{fault, Runs, ends, matches, wrong, limit, expands, acts, role_of}
use Rattle.silage_parse.specs.Private.Machine.{roles_of, Reads, r_end, r_match, r_act}
use Rattle.silage_parse.proofs.Readings.{Valid}
use Rattle.silage_parse.proofs.Agreement.{stops_from, go_on, valid_on}

-- the counts after tokens with these roles, which pass no limit
pub record Counts (roles : List Role) (c : Count) : Type 0 where
  pub weight : fold weigh 0 roles ≡ c.weight
  pub loops : fold enter 0 roles ≡ c.loops
  pub weight_within : c.weight ≤ 256
  pub loops_within : c.loops ≤ 16

weighed : (b : Bool) (c : Count) → weigh c.weight (if b then Weighs else Plain) ≡ (add_weight b c).weight
weighed true c = refl
weighed false c = refl

entered : (b : Bool) (n : ℕ) → enter n (if b then Weighs else Plain) ≡ n
entered true n = refl
entered false n = refl

role_weight : (e : Effect) (t : Token) (c : Count) → weigh c.weight (role_of e t) ≡ (counted e (Some t) c).weight
role_weight Outside t c = refl
role_weight Begins t c = refl
role_weight Inside t c = weighed (weighs t.kind) c
role_weight Enters t c = refl
role_weight Leaves t c = refl

role_loops : (e : Effect) (t : Token) (c : Count) → enter c.loops (role_of e t) ≡ (counted e (Some t) c).loops
role_loops Outside t c = refl
role_loops Begins t c = refl
role_loops Inside t c = entered (weighs t.kind) c.loops
role_loops Enters t c = refl
role_loops Leaves t c = refl

weight_stays : (b : Bool) (c : Count)
    → (if b then nat_lt c.weight 256 else true) ≡ true
    → c.weight ≤ 256
    → (add_weight b c).weight ≤ 256
weight_stays true c h le = omega (arith, ltb-true c.weight 256 h)
weight_stays false c h le = le

weight_within : (e : Effect) (t : Token) (c : Count)
    → allowed e (Some t) c ≡ true
    → c.weight ≤ 256
    → (counted e (Some t) c).weight ≤ 256
weight_within Outside t c h le = le
weight_within Begins t c h le = omega arith
weight_within Inside t c h le = weight_stays (weighs t.kind) c h le
weight_within Enters t c h le = le
weight_within Leaves t c h le = le

loops_within : (e : Effect) (t : Token) (c : Count)
    → allowed e (Some t) c ≡ true
    → c.loops ≤ 16
    → (counted e (Some t) c).loops ≤ 16
loops_within Outside t c h le = le
loops_within Begins t c h le = le
loops_within Inside t c h le = le
loops_within Enters t c h le = omega (arith, ltb-true c.loops 16 h)
loops_within Leaves t c h le = omega arith

pub count_more : (roles : List Role) (e : Effect) (t : Token) (c : Count)
    → Counts roles c
    → allowed e (Some t) c ≡ true
    → Counts (roles ++ role_of e t ∷ []) (counted e (Some t) c)
count_more roles e t c h ok = record {
  weight = fold-append weigh 0 roles (role_of e t ∷ []) ∙ ap (λ w. weigh w (role_of e t)) h.weight ∙ role_weight e t c;
  loops = fold-append enter 0 roles (role_of e t ∷ []) ∙ ap (λ d. enter d (role_of e t)) h.loops ∙ role_loops e t c;
  weight_within = weight_within e t c ok h.weight_within;
  loops_within = loops_within e t c ok h.loops_within;
}

pub count_none : Counts [] no_count
count_none = record { weight = refl; loops = refl; weight_within = omega arith; loops_within = omega arith }

-- the role at the seam
pub seam : {A : Type 0} (xs : List A) (y : A) (ys : List A) → slice_get (xs ++ y ∷ ys) (length xs) ≡ Some y
seam [] y ys = refl
seam (x ∷ xs) y ys = seam xs y ys

heavy : (b : Bool) (c : Count)
    → (if b then nat_lt c.weight 256 else true) ≡ true
    → (if b then Weighs else Plain) ≡ Weighs
    → c.weight ≡ 256
    → ⊥
heavy true c h e w = let x = ltb-true c.weight 256 h in omega arith
heavy false c h e w = cc

not_heavy : (e : Effect) (t : Token) (c : Count)
    → allowed e (Some t) c ≡ true
    → role_of e t ≡ Weighs
    → c.weight ≡ 256
    → ⊥
not_heavy Outside t c h r w = cc
not_heavy Begins t c h r w = cc
not_heavy Inside t c h r w = heavy (weighs t.kind) c h r w
not_heavy Enters t c h r w = cc
not_heavy Leaves t c h r w = cc

no_entry : (b : Bool) → (if b then Weighs else Plain) ≡ role.Enters → ⊥
no_entry true r = cc
no_entry false r = cc

not_deep : (e : Effect) (t : Token) (c : Count)
    → allowed e (Some t) c ≡ true
    → role_of e t ≡ role.Enters
    → c.loops ≡ 16
    → ⊥
not_deep Outside t c h r w = cc
not_deep Begins t c h r w = cc
not_deep Inside t c h r w = no_entry (weighs t.kind) r
not_deep Enters t c h r w = let x = ltb-true c.loops 16 h in omega arith
not_deep Leaves t c h r w = cc

-- a token that is allowed passes no limit
pub allowed_passes : (roles rest : List Role) (e : Effect) (t : Token) (c : Count)
    → Counts roles c
    → allowed e (Some t) c ≡ true
    → Passes (roles ++ role_of e t ∷ rest) (length roles)
    → ⊥
allowed_passes roles rest e t c h ok (too_heavy is full) =
    not_heavy e t c ok (same_Some (role_of e t) Weighs (sym (seam roles (role_of e t) rest) ∙ is))
    (sym h.weight ∙ ap (fold weigh 0) (sym (take-append_seam roles (role_of e t ∷ rest))) ∙ full)
allowed_passes roles rest e t c h ok (too_deep is full) =
    not_deep e t c ok (same_Some (role_of e t) role.Enters (sym (seam roles (role_of e t) rest) ∙ is))
    (sym h.loops ∙ ap (fold enter 0) (sym (take-append_seam roles (role_of e t ∷ rest))) ∙ full)

-- a token that is not allowed passes one
refused_weight : (b : Bool) (roles rest : List Role) (c : Count)
    → Counts roles c
    → (if b then nat_lt c.weight 256 else true) ≡ false
    → Passes (roles ++ (if b then Weighs else Plain) ∷ rest) (length roles)
refused_weight true roles rest c h off =
    let low = ltb-false c.weight 256 off in
    let high = h.weight_within in
    let full : c.weight ≡ 256 = omega arith in
    too_heavy (seam roles Weighs rest) (ap (fold weigh 0) (take-append_seam roles (Weighs ∷ rest)) ∙ h.weight ∙ full)
refused_weight false roles rest c h off = cc

pub refused_passes : (roles rest : List Role) (e : Effect) (t : Token) (c : Count)
    → Counts roles c
    → allowed e (Some t) c ≡ false
    → Passes (roles ++ role_of e t ∷ rest) (length roles)
refused_passes roles rest Outside t c h off = cc
refused_passes roles rest Begins t c h off = cc
refused_passes roles rest Inside t c h off = refused_weight (weighs t.kind) roles rest c h off
refused_passes roles rest Enters t c h off =
    let low = ltb-false c.loops 16 off in
    let high = h.loops_within in
    let full : c.loops ≡ 16 = omega arith in
    too_deep (seam roles role.Enters rest)
    (ap (fold enter 0) (take-append_seam roles (role.Enters ∷ rest)) ∙ h.loops ∙ full)
refused_passes roles rest Leaves t c h off = cc

past_passes : (roles : List Role) (m : ℕ) → length roles ≤ m → Passes roles m → ⊥
past_passes roles m le (too_heavy is full) = let x = slice_get_within roles m Weighs is in omega arith
past_passes roles m le (too_deep is full) = let x = slice_get_within roles m role.Enters is in omega arith

-- the token at a place inside the list
pub inside : (us : List Token) (i : ℕ) → i < length us → (t : Token) × (slice_get us i ≡ Some t)
inside [] i h = absurd (omega arith)
inside (u ∷ us) zero h = (u, refl)
inside (u ∷ us) (suc i) h = inside us i (omega arith)

-- a run that stops before token m says nothing of it
abbrev pub Reaches : ℕ → Outcome → Type 0
Reaches m (done vs) = Unit {0}
Reaches m (fault (Syntax k)) = m < k
Reaches m (fault (Deep k)) = m < k
Reaches m (fault Memory) = Unit {0}

-- no token that a run has gone past passes a limit
pub free : (ts us : List Token) (m : ℕ)
    → m < length us
    → AgreeBelow ts us (m + 1)
    → {ss : List Symbol} {i j : ℕ} {c : Count} {vs ws : List Value} {rs : List Role} {o : Outcome}
    → Runs ts ss i c vs o
    → Valid ss
    → Reads us ss i vs rs j ws
    → (before : List Role)
    → length before ≡ i
    → Counts before c
    → i ≤ m
    → Reaches m o
    → Passes (before ++ rs) m
    → ⊥
free ts us m lt agree ends v r_end before size count low reach passes =
    past_passes before m (omega arith) (subst (λ x. Passes x m) (append-nil before) passes)
free ts us m lt agree (matches {e = e} {ss = ss} {i = i} {c = c} {vs = vs} h l r) v
    (r_match {j = j} {ws = ws} {rs = rs} g a) before size count low reach passes =
    let t = inside us i (omega arith) in
    let s : slice_get ts i ≡ slice_get us i = agree i (omega arith) in
    let r0 : Role = role_of e t.0 in
    let ok : allowed e (Some t.0) c ≡ true = ap (λ x. allowed e x c) (sym (s ∙ t.1)) ∙ l in
    let p : Passes (before ++ r0 ∷ rs) m = subst (λ x. Passes (before ++ (roles_of e x ++ rs)) m) t.1 passes in
    elim (cases_lt i m) [
      | inl less ↦
          free ts us m lt agree r v.1 (subst (λ x. Reads us ss (i + 1) (pushed x vs) rs j ws) (sym s) a)
          (before ++ r0 ∷ [])
          (length-append before (r0 ∷ []) ∙ omega arith)
          (subst (λ x. Counts (before ++ r0 ∷ []) (counted e x c)) (sym (s ∙ t.1)) (count_more before e t.0 c count ok))
          (omega arith) reach
          (subst (λ x. Passes x m) (sym (append_assoc before (r0 ∷ []) rs)) p)
      | inr same ↦
          let here : m ≡ length before = omega arith in
          allowed_passes before rs e t.0 c count ok (subst (λ x. Passes (before ++ r0 ∷ rs) x) here p)
    ]
free ts us m lt agree (wrong h) v a before size count low reach passes = omega (arith, low, reach)
free ts us m lt agree (limit h l) v a before size count low reach passes = omega (arith, low, reach)
free ts us m lt agree (expands {p = p} {ss = ss} {i = i} r) v a before size count low reach passes =
    free ts us m lt agree r (valid_on p ss (kind_at ts i) v) (go_on ts us (agree i (omega (arith, low))) v a) before
    size count low reach passes
free ts us m lt agree (acts r) v (r_act a) before size count low reach passes =
    free ts us m lt agree r v a before size count low reach passes

-- where a run stops at a limit, the token passes it
pub hits : (ts us : List Token) (k : ℕ)
    → k < length us
    → AgreeBelow ts us (k + 1)
    → {ss : List Symbol} {i j : ℕ} {c : Count} {vs ws : List Value} {rs : List Role}
    → Runs ts ss i c vs (fault (Deep k))
    → Valid ss
    → Reads us ss i vs rs j ws
    → (before : List Role)
    → length before ≡ i
    → Counts before c
    → Passes (before ++ rs) k
hits ts us k lt agree (matches {e = e} {ss = ss} {i = i} {c = c} {vs = vs} h l r) v
    (r_match {j = j} {ws = ws} {rs = rs} g a) before size count =
    let low : i + 1 ≤ k = stops_from r in
    let t = inside us i (omega arith) in
    let s : slice_get ts i ≡ slice_get us i = agree i (omega arith) in
    let r0 : Role = role_of e t.0 in
    let ok : allowed e (Some t.0) c ≡ true = ap (λ x. allowed e x c) (sym (s ∙ t.1)) ∙ l in
    let p =
    hits ts us k lt agree r v.1 (subst (λ x. Reads us ss (i + 1) (pushed x vs) rs j ws) (sym s) a)
    (before ++ r0 ∷ [])
    (length-append before (r0 ∷ []) ∙ omega arith)
    (subst (λ x. Counts (before ++ r0 ∷ []) (counted e x c)) (sym (s ∙ t.1)) (count_more before e t.0 c count ok)) in
    subst (λ x. Passes (before ++ (roles_of e x ++ rs)) k) (sym t.1)
    (subst (λ x. Passes x k) (append_assoc before (r0 ∷ []) rs) p)
hits ts us k lt agree (limit {e = e} {c = c} h l) v (r_match {rs = rs} g a) before size count =
    let t = inside us k lt in
    let s : slice_get ts k ≡ slice_get us k = agree k (omega arith) in
    let no : allowed e (Some t.0) c ≡ false = ap (λ x. allowed e x c) (sym (s ∙ t.1)) ∙ l in
    subst (λ x. Passes (before ++ (roles_of e x ++ rs)) k) (sym t.1)
    (subst (λ x. Passes (before ++ role_of e t.0 ∷ rs) x) size (refused_passes before rs e t.0 c count no))
hits ts us k lt agree (expands {p = p} {ss = ss} {i = i} r) v a before size count =
    let low = stops_from r in
    hits ts us k lt agree r (valid_on p ss (kind_at ts i) v) (go_on ts us (agree i (omega (arith, low))) v a) before
    size count
hits ts us k lt agree (acts r) v (r_act a) before size count = hits ts us k lt agree r v a before size count
