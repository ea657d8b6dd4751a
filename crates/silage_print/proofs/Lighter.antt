-- Lists of roles that keep to the limits wherever others do.
use Rattle.std.proofs.Common.{inl, inr, ◌≡◌, ℕ, zero, suc, ◌+◌, ◌-◌, ◌≤◌, ◌<◌, Bool, true, false, if◌then◌else◌, List}
use Rattle.std.proofs.Common.{[], ◌∷◌, ◌++◌, Some, map, take, drop, fold, slice_get, refl, sym, ap, ◌∙◌, subst, arith}
use Rattle.std.specs.Prelude.{slice_range}
use Rattle.std.specs.List.{range_with_len}
use Rattle.std.proofs.lemmas.Bool.{cases_lt}
use Rattle.std.proofs.lemmas.List.Sums.{fold-append}
use Rattle.silage_lex.specs.declared.Token.{Token}
use Rattle.silage_lex.specs.declared.TokenKind.{TokenKind}
use Rattle.silage_syntax.specs.Grammar.{weighs, weight_role, weights, plain, Role, Plain, Starts, Weighs, Enters}
use Rattle.silage_syntax.specs.Grammar.{Leaves}
use Rattle.silage_syntax.specs.Limits.{weigh, enter, Passes, too_heavy, too_deep, AreWithin}
use Rattle.silage_print.specs.Text.{word, truth_word}
use Rattle.silage_print.proofs.KindsAt.{AreAt}
use Rattle.silage_print.proofs.Weights.{IsFree, total, before, counts}

-- what a token weighs
abbrev pub weight : TokenKind → ℕ
weight k = if weighs k then 1 else 0

at_most_one : (b : Bool) → (if b then 1 else 0) ≤ 1
at_most_one true = omega arith
at_most_one false = omega arith

weight_small : (k : TokenKind) → weight k ≤ 1
weight_small k = at_most_one (weighs k)

truth_free : (b : Bool) → weight (word (truth_word b)) ≡ 0
truth_free true = refl
truth_free false = refl

pub weight_free : IsFree weight
weight_free = record { whole = λ n. refl; point = λ d p. refl; truth = truth_free; trunc = refl; comma = refl }

-- a token with this role may come after tokens with this weight and these open loops
abbrev pub Allows : ℕ → ℕ → Role → Type 0
Allows w d Weighs = w < 256
Allows w d Enters = d < 16
Allows w d _ = Unit {0}

-- tokens with these roles may come there
abbrev pub Fits : ℕ → ℕ → List Role → Type 0
Fits w d [] = Unit {0}
Fits w d (r ∷ rs) = Allows w d r × Fits (weigh w r) (enter d r) rs

-- the first fit wherever the others do, and weigh no more there
pub record Fitting (new : List Role) (old : List Role) (w v d : ℕ) : Type 0 where
  pub fits : Fits w d new
  pub weight : fold weigh w new ≤ fold weigh v old
  pub loops : fold enter d new ≡ fold enter d old

abbrev pub Lighter : List Role → List Role → Type 0
Lighter new old = (w v d : ℕ) → w ≤ v → Fits v d old → Fitting new old w v d

fits_split : (a b : List Role) (w d : ℕ) → Fits w d (a ++ b) → Fits w d a × Fits (fold weigh w a) (fold enter d a) b
fits_split [] b w d f = (tt, f)
fits_split (r ∷ rs) b w d f = let rest = fits_split rs b (weigh w r) (enter d r) f.1 in ((f.0, rest.0), rest.1)

fits_join : (a b : List Role) (w d : ℕ) → Fits w d a → Fits (fold weigh w a) (fold enter d a) b → Fits w d (a ++ b)
fits_join [] b w d f g = g
fits_join (r ∷ rs) b w d f g = (f.0, fits_join rs b (weigh w r) (enter d r) f.1 g)

pub joined : {a b c e : List Role} → Lighter a b → Lighter c e → Lighter (a ++ c) (b ++ e)
joined {a} {b} {c} {e} f g w v d le h =
    let parts = fits_split b e v d h in
    let x = f w v d le parts.0 in
    let P : ℕ → Type 0 = λ n. Fits (fold weigh v b) n e in
    let y = g (fold weigh w a) (fold weigh v b) (fold enter d a) x.weight (subst P (sym x.loops) parts.1) in
    record {
      fits = fits_join a c w d x.fits y.fits;
      weight =
          let p = fold-append weigh w a c in
          let q = fold-append weigh v b e in
          let z = y.weight in
          omega (arith, p, q, z);
      loops = fold-append enter d a c ∙ y.loops ∙ ap (λ n. fold enter n e) x.loops ∙ sym (fold-append enter d b e);
    }

allows_less : (w v d : ℕ) (r : Role) → w ≤ v → Allows v d r → Allows w d r
allows_less w v d Plain le h = tt
allows_less w v d Starts le h = tt
allows_less w v d Weighs le h = omega arith
allows_less w v d Enters le h = h
allows_less w v d Leaves le h = tt

weigh_less : (w v : ℕ) (r : Role) → w ≤ v → weigh w r ≤ weigh v r
weigh_less w v Plain le = le
weigh_less w v Starts le = omega arith
weigh_less w v Weighs le = omega arith
weigh_less w v Enters le = le
weigh_less w v Leaves le = le

pub none_lighter : Lighter [] []
none_lighter w v d le h = record { fits = tt; weight = le; loops = refl }

pub same_role : (r : Role) {a b : List Role} → Lighter a b → Lighter (r ∷ a) (r ∷ b)
same_role r f w v d le h =
    let x = f (weigh w r) (weigh v r) (enter d r) (weigh_less w v r le) h.1 in
    record { fits = (allows_less w v d r le h.0, x.fits); weight = x.weight; loops = x.loops }

-- a start for a token that is plain
pub start_for_plain : {a b : List Role} → Lighter a b → Lighter (Starts ∷ a) (Plain ∷ b)
start_for_plain f w v d le h =
    let x = f 0 v d (omega arith) h.1 in record { fits = (tt, x.fits); weight = x.weight; loops = x.loops }

-- plain tokens on either side
pub plain_more : {a b : List Role} → Lighter a b → Lighter (Plain ∷ a) b
plain_more f w v d le h = let x = f w v d le h in record { fits = (tt, x.fits); weight = x.weight; loops = x.loops }

pub plain_less : {a b : List Role} → Lighter a b → Lighter a (Plain ∷ b)
plain_less f w v d le h = let x = f w v d le h.1 in record { fits = x.fits; weight = x.weight; loops = x.loops }

-- one more start before what begins with a start
pub start_late : {a b : List Role} → Lighter (Starts ∷ a) b → Lighter (Starts ∷ a) (Starts ∷ b)
start_late f w v d le h =
    let x = f 0 0 d (omega arith) h.1 in record { fits = x.fits; weight = x.weight; loops = x.loops }

-- The tokens of an expression.
abbrev heft : List Token → ℕ
heft [] = 0
heft (t ∷ ts) = weight t.kind + heft ts

role_weighed : (b : Bool) (w : ℕ) → weigh w (if b then Weighs else Plain) ≡ w + (if b then 1 else 0)
role_weighed true w = refl
role_weighed false w = omega arith

role_enters : (b : Bool) (d : ℕ) → enter d (if b then Weighs else Plain) ≡ d
role_enters true d = refl
role_enters false d = refl

heft_weighed : (ts : List Token) (w : ℕ) → fold weigh w (map weight_role ts) ≡ w + heft ts
heft_weighed [] w = omega arith
heft_weighed (t ∷ ts) w =
    let x = heft_weighed ts (weigh w (weight_role t)) in
    let y = role_weighed (weighs t.kind) w in
    omega (arith, x, y)

heft_enters : (ts : List Token) (d : ℕ) → fold enter d (map weight_role ts) ≡ d
heft_enters [] d = refl
heft_enters (t ∷ ts) d = ap (λ n. fold enter n (map weight_role ts)) (role_enters (weighs t.kind) d) ∙ heft_enters ts d

allows_role : (b : Bool) (w d : ℕ) → (0 < (if b then 1 else 0) → w < 256) → Allows w d (if b then Weighs else Plain)
allows_role true w d h = h (omega arith)
allows_role false w d h = tt

role_allowed : (b : Bool) (w d : ℕ) → Allows w d (if b then Weighs else Plain) → 0 < (if b then 1 else 0) → w < 256
role_allowed true w d h lt = h
role_allowed false w d h lt = absurd (omega arith)

heft_fits : (ts : List Token) (w d : ℕ) → (0 < heft ts → w + heft ts ≤ 256) → Fits w d (map weight_role ts)
heft_fits [] w d h = tt
heft_fits (t ∷ ts) w d h =
    let y = role_weighed (weighs t.kind) w in (
      allows_role (weighs t.kind) w d (λ lt. let x = h (omega (arith, lt)) in omega (arith, x, lt)),
      heft_fits ts (weigh w (weight_role t)) (enter d (weight_role t))
          (λ lt. let x = h (omega (arith, lt)) in omega (arith, x, y)),
    )

fits_heft : (ts : List Token) (w d : ℕ) → Fits w d (map weight_role ts) → 0 < heft ts → w + heft ts ≤ 256
fits_heft [] w d f lt = absurd (omega arith)
fits_heft (t ∷ ts) w d f lt =
    let y = role_weighed (weighs t.kind) w in
    elim (cases_lt 0 (heft ts)) [
      | inl some ↦
          let x = fits_heft ts (weigh w (weight_role t)) (enter d (weight_role t)) f.1 some in omega (arith, x, y)
      | inr none ↦
          let x = role_allowed (weighs t.kind) w d f.0 (omega (arith, lt, none)) in
          let z = weight_small t.kind in
          omega (arith, x, none, z)
    ]

heft_lighter : (ts us : List Token) → heft ts ≤ heft us → Lighter (map weight_role ts) (map weight_role us)
heft_lighter ts us less w v d le f =
    let x = heft_weighed ts w in
    let y = heft_weighed us v in
    record {
      fits =
          heft_fits ts w d (λ lt. let h = fits_heft us v d f (omega (arith, lt, less)) in omega (arith, h, less, le));
      weight = omega (arith, x, y, less, le);
      loops = heft_enters ts d ∙ sym (heft_enters us d);
    }

abbrev no_tokens : List Token
no_tokens = []

take_none : (n : ℕ) → take n no_tokens ≡ no_tokens
take_none zero = refl
take_none (suc n) = refl

-- the tokens from i to j count the difference of what is before each
front_heft : (ts : List Token) (n : ℕ) → before weight ts n ≡ heft (take n ts)
front_heft ts zero = refl
front_heft [] (suc n) = refl
front_heft (t ∷ ts) (suc n) = let x = front_heft ts n in omega (arith, x)

range_heft : (ts : List Token) (i j : ℕ) → before weight ts j ≤ before weight ts i + heft (take (j - i) (drop i ts))
range_heft ts zero j =
    let e : j - 0 ≡ j = omega arith in
    let x = front_heft ts j in
    let y = ap (λ n. heft (take n ts)) e in
    omega (arith, x, y)
range_heft ts (suc i) zero = omega arith
range_heft [] (suc i) (suc j) = omega arith
range_heft (t ∷ ts) (suc i) (suc j) =
    let e : suc j - suc i ≡ j - i = omega arith in
    let x = range_heft ts i j in
    let y = ap (λ n. heft (take n (drop i ts))) e in
    omega (arith, x, y)

heft_range : (ts : List Token) (i j : ℕ)
    → i ≤ j
    → before weight ts i + heft (take (j - i) (drop i ts)) ≡ before weight ts j
heft_range ts zero j le =
    let e : j - 0 ≡ j = omega arith in
    let x = front_heft ts j in
    let y = ap (λ n. heft (take n ts)) e in
    omega (arith, x, y)
heft_range ts (suc i) zero le = absurd (omega arith)
heft_range [] (suc i) (suc j) le = let e = ap heft (take_none (suc j - suc i)) in omega (arith, e)
heft_range (t ∷ ts) (suc i) (suc j) le =
    let e : suc j - suc i ≡ j - i = omega arith in
    let x = heft_range ts i j (omega arith) in
    let y = ap (λ n. heft (take n (drop i ts))) e in
    omega (arith, x, y)

stands_size : (us : List Token) (ks : List TokenKind) (i j : ℕ)
    → AreAt us i ks j
    → (i ≤ j) × (before weight us j ≡ before weight us i + total weight ks)
stands_size us [] i j s = let e = ap (before weight us) s in (omega (arith, s), omega (arith, e))
stands_size us (k ∷ ks) i j s =
    let x = stands_size us ks (i + 1) j s.1 in
    let y = counts weight us i s.0 in
    let le = x.0 in
    let same = x.1 in
    (omega (arith, le), omega (arith, same, y))

-- a text that counts no more than the tokens from a to b
pub text_lighter : (us ts : List Token) (ks : List TokenKind) (i j a b : ℕ)
    → AreAt us i ks j
    → total weight ks + before weight ts a ≤ before weight ts b
    → Lighter (weights us i j) (weights ts a b)
text_lighter us ts ks i j a b s less =
    let x = stands_size us ks i j s in
    let le = x.0 in
    let size = x.1 in
    let y = heft_range us i j le in
    let z = range_heft ts a b in
    heft_lighter (slice_range us i j) (slice_range ts a b) (omega (arith, size, y, z, less))

-- Tokens outside of expressions.
plain_fits : (xs : List ℕ) (w d : ℕ) → Fits w d (map (λ _. Plain) xs)
plain_fits [] w d = tt
plain_fits (x ∷ xs) w d = (tt, plain_fits xs w d)

plain_weighed : (xs : List ℕ) (w : ℕ) → fold weigh w (map (λ _. Plain) xs) ≡ w
plain_weighed [] w = refl
plain_weighed (x ∷ xs) w = plain_weighed xs w

plain_entered : (xs : List ℕ) (d : ℕ) → fold enter d (map (λ _. Plain) xs) ≡ d
plain_entered [] d = refl
plain_entered (x ∷ xs) d = plain_entered xs d

all_plain : (xs ys : List ℕ) → Lighter (map (λ _. Plain) xs) (map (λ _. Plain) ys)
all_plain xs ys w v d le f =
    let x = plain_weighed xs w in
    let y = plain_weighed ys v in
    record {
      fits = plain_fits xs w d;
      weight = omega (arith, x, y, le);
      loops = plain_entered xs d ∙ sym (plain_entered ys d);
    }

pub plain_lighter : (i j k m : ℕ) → Lighter (plain i j) (plain k m)
plain_lighter i j k m = all_plain (range_with_len i (j - i)) (range_with_len k (m - k))

-- Roles that fit are those that pass no limit.
abbrev Passing : ℕ → ℕ → List Role → Role → Type 0
Passing w d front Weighs = fold weigh w front ≡ 256
Passing w d front Enters = fold enter d front ≡ 16
Passing w d front _ = ⊥

abbrev Free : ℕ → ℕ → List Role → Type 0
Free w d roles = (k : ℕ) (r : Role) → slice_get roles k ≡ Some r → Passing w d (take k roles) r → ⊥

passing_on : (w d : ℕ) (s : Role) (front : List Role) (r : Role)
    → Passing (weigh w s) (enter d s) front r
    → Passing w d (s ∷ front) r
passing_on w d s front Plain p = p
passing_on w d s front Starts p = p
passing_on w d s front Weighs p = p
passing_on w d s front Enters p = p
passing_on w d s front Leaves p = p

passing_back : (w d : ℕ) (s : Role) (front : List Role) (r : Role)
    → Passing w d (s ∷ front) r
    → Passing (weigh w s) (enter d s) front r
passing_back w d s front Plain p = p
passing_back w d s front Starts p = p
passing_back w d s front Weighs p = p
passing_back w d s front Enters p = p
passing_back w d s front Leaves p = p

below : (n m : ℕ) → n ≤ m → (n ≡ m → ⊥) → n < m
below n m le other = elim (cases_lt n m) [ inl lt ↦ lt | inr ge ↦ absurd (other (omega (arith, le, ge))) ]

allows_free : (w d : ℕ) (r : Role) → w ≤ 256 → d ≤ 16 → (Passing w d [] r → ⊥) → Allows w d r
allows_free w d Plain a b h = tt
allows_free w d Starts a b h = tt
allows_free w d Weighs a b h = below w 256 a h
allows_free w d Enters a b h = below d 16 b h
allows_free w d Leaves a b h = tt

allowed_free : (w d : ℕ) (r : Role) → Allows w d r → Passing w d [] r → ⊥
allowed_free w d Plain h p = p
allowed_free w d Starts h p = p
allowed_free w d Weighs h p = omega arith
allowed_free w d Enters h p = omega arith
allowed_free w d Leaves h p = p

weigh_within : (w d : ℕ) (r : Role) → w ≤ 256 → Allows w d r → weigh w r ≤ 256
weigh_within w d Plain a h = a
weigh_within w d Starts a h = omega arith
weigh_within w d Weighs a h = omega arith
weigh_within w d Enters a h = a
weigh_within w d Leaves a h = a

enter_within : (w d : ℕ) (r : Role) → d ≤ 16 → Allows w d r → enter d r ≤ 16
enter_within w d Plain a h = a
enter_within w d Starts a h = a
enter_within w d Weighs a h = a
enter_within w d Enters a h = omega arith
enter_within w d Leaves a h = omega arith

free_fits : (roles : List Role) (w d : ℕ) → w ≤ 256 → d ≤ 16 → Free w d roles → Fits w d roles
free_fits [] w d a b h = tt
free_fits (r ∷ rs) w d a b h =
    let ok = allows_free w d r a b (h 0 r refl) in (
      ok,
      free_fits rs (weigh w r) (enter d r) (weigh_within w d r a ok) (enter_within w d r b ok)
          (λ k s e p. h (suc k) s e (passing_on w d r (take k rs) s p)),
    )

fits_free : (roles : List Role) (w d : ℕ) → Fits w d roles → Free w d roles
fits_free [] w d f k r e p = cc
fits_free (s ∷ rs) w d f zero r e p = let same : s ≡ r = cc in allowed_free w d r (subst (Allows w d) same f.0) p
fits_free (s ∷ rs) w d f (suc k) r e p =
    fits_free rs (weigh w s) (enter d s) f.1 k r e (passing_back w d s (take k rs) r p)

passes_of : (roles : List Role) (k : ℕ) (r : Role)
    → slice_get roles k ≡ Some r
    → Passing 0 0 (take k roles) r
    → Passes roles k
passes_of roles k Plain e p = absurd p
passes_of roles k Starts e p = absurd p
passes_of roles k Weighs e p = too_heavy e p
passes_of roles k Enters e p = too_deep e p
passes_of roles k Leaves e p = absurd p

no_passes : (roles : List Role) → Free 0 0 roles → (k : ℕ) → Passes roles k → ⊥
no_passes roles h k (too_heavy e p) = h k Weighs e p
no_passes roles h k (too_deep e p) = h k Enters e p

-- what is lighter than roles that pass no limit passes none
pub lighter_within : (new old : List Role) → Lighter new old → AreWithin old → AreWithin new
lighter_within new old f h =
    let fits = free_fits old 0 0 (omega arith) (omega arith) (λ k r e p. h k (passes_of old k r e p)) in
    no_passes new (fits_free new 0 0 (f 0 0 0 (omega arith) fits).fits)
