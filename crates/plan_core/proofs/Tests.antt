-- Tests: a truth value for a statement, with the proof that it decides it. With these, a worked plan is checked
-- by computing.
use Rattle.std.proofs.Common.{◌≡◌, refl, sym, ◌∙◌, arith, ℕ, zero, suc, ◌<◌, ◌≤◌, ◌⊎◌, Bool, true, false, true≢false}
use Rattle.std.proofs.Common.{not, ◌&&◌, ◌||◌, ltb, leb, eqb, leb-true, le-leb, List, [], ◌∷◌, length, slice_index_or}
use Rattle.std.proofs.Common.{All, Contains, Decides}
use Rattle.std.specs.List.{AllPairs, list_all}
use Rattle.std.proofs.lemmas.Bool.Decides.{Decides-like, Decides-not, Decides-and, Decides-or, Decides-ltb, Decides-eqb}
use Rattle.std.proofs.lemmas.Bool.Decides.{Decides-by_and, Decides-below_and, Decides-below_or}
use Rattle.std.proofs.lemmas.List.Kept.{AllPairs-cons}

pub record Test (P : Type 0) : Type 0 where
  pub passes : Bool
  pub decides : Decides passes P

pub passed : {P : Type 0} (t : Test P) → t.passes ≡ true → P
passed t e = t.decides.0 e

pub refuted : {P : Type 0} (t : Test P) → t.passes ≡ false → P → ⊥
refuted t e p = true≢false (sym (t.decides.1 p) ∙ e)

abbrev pub test_of : {P : Type 0} (b : Bool) → Decides b P → Test P
test_of b d = record { passes = b; decides = d }

abbrev pub trivial : Test (Unit {0})
trivial = test_of true (λ e. tt {0}, λ u. refl)

abbrev pub lt : (a b : ℕ) → Test (a < b)
lt a b = test_of (ltb a b) (Decides-ltb a b)

abbrev pub le : (a b : ℕ) → Test (a ≤ b)
le a b = test_of (leb a b) (leb-true a b, le-leb a b)

abbrev pub eq : (a b : ℕ) → Test (a ≡ b)
eq a b = test_of (eqb a b) (Decides-eqb a b)

abbrev pub like : {P Q : Type 0} → (P → Q) → (Q → P) → Test P → Test Q
like f g t = test_of t.passes (Decides-like t.passes f g t.decides)

abbrev pub nay : {P : Type 0} → Test P → Test (P → ⊥)
nay t = test_of (not t.passes) (Decides-not t.passes t.decides)

abbrev pub both : {P Q : Type 0} → Test P → Test Q → Test (P × Q)
both t u = test_of (t.passes && u.passes) (Decides-and t.passes u.passes t.decides u.decides)

abbrev pub either : {P Q : Type 0} → Test P → Test Q → Test (P ⊎ Q)
either t u = test_of (t.passes || u.passes) (Decides-or t.passes u.passes t.decides u.decides)

-- where the premise fails, the rest is not computed
abbrev if_passes : Bool → (Unit {0} → Bool) → Bool
if_passes true f = f (tt {0})
if_passes false f = true

pub if_decides : {P Q : Type 0} (b : Bool) (f : Unit {0} → Bool)
    → Decides b P
    → Decides (f (tt {0})) Q
    → Decides (if_passes b f) (P → Q)
if_decides true f d e = (λ h p. e.0 h, λ g. e.1 (g (d.0 refl)))
if_decides false f d e = (λ h p. absurd (true≢false (sym (d.1 p))), λ g. refl)

abbrev pub implies : {P Q : Type 0} → Test P → (Unit {0} → Test Q) → Test (P → Q)
implies t u =
    test_of (if_passes t.passes (λ x. (u x).passes)) (if_decides t.passes (λ x. (u x).passes) t.decides
    (u (tt {0})).decides)

abbrev all_below : ℕ → (ℕ → Bool) → Bool
all_below zero f = true
all_below (suc n) f = f n && all_below n f

abbrev any_below : ℕ → (ℕ → Bool) → Bool
any_below zero f = false
any_below (suc n) f = f n || any_below n f

abbrev pub below : {P : ℕ → Type 0} (n : ℕ) → ((k : ℕ) → Test (P k)) → Test ((k : ℕ) → k < n → P k)
below {P} n t =
    test_of (all_below n (λ k. (t k).passes))
    (Decides-below_and (λ k. (t k).passes) P (λ m. all_below m (λ k. (t k).passes)) (λ k. (t k).decides) refl
    (λ m. refl) n)

abbrev pub some_below : {P : ℕ → Type 0} (n : ℕ) → ((k : ℕ) → Test (P k)) → Test ((k : ℕ) × (k < n) × P k)
some_below {P} n t =
    test_of (any_below n (λ k. (t k).passes))
    (Decides-below_or (λ k. (t k).passes) P (λ m. any_below m (λ k. (t k).passes)) (λ k. (t k).decides) refl
    (λ m. refl) n)

abbrev pub each_of : {X : Type 0} {P : X → Type 0} (xs : List X) → ((x : X) → Test (P x)) → Test (All P xs)
each_of {X} {P} xs t =
    test_of (list_all (λ (x : X). (t x).passes) xs)
    (Decides-by_and (λ (x : X). (t x).passes) P (list_all (λ (x : X). (t x).passes)) (λ x. (t x).decides) refl
    (λ x ys. refl) xs)

abbrev pub contains : {X : Type 0} (same : (x y : X) → Test (x ≡ y)) (xs : List X) (x : X) → Test (Contains xs x)
contains same xs x = some_below (length xs) (λ k. same (slice_index_or xs k x) x)

pub head_pairs : {X : Type 0} (R : X → X → Type 0) (x : X) (xs : List X) → AllPairs R (x ∷ xs) → All (R x) xs
head_pairs R x xs h k d below = h 0 (suc k) d (omega arith) (omega arith)

pub tail_pairs : {X : Type 0} (R : X → X → Type 0) (x : X) (xs : List X) → AllPairs R (x ∷ xs) → AllPairs R xs
tail_pairs R x xs h i j d less within = h (suc i) (suc j) d (omega arith) (omega arith)

pub no_pairs : {X : Type 0} (R : X → X → Type 0) → AllPairs R []
no_pairs R i j d less within = absurd (omega arith)

abbrev pub all_pairs : {X : Type 0} {R : X → X → Type 0} (xs : List X)
    → ((x y : X) → Test (R x y))
    → Test (AllPairs R xs)
all_pairs {R} [] t = test_of true (λ e. no_pairs R, λ h. refl)
all_pairs {R} (x ∷ xs) t =
    like {P = All (R x) xs × AllPairs R xs} (λ h. AllPairs-cons R x xs h.0 h.1)
    (λ h. (head_pairs R x xs h, tail_pairs R x xs h))
    (both (each_of xs (t x)) (all_pairs xs t))
