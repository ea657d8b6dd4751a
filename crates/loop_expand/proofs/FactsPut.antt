-- An element after facts are put into it.
use Rattle.std.proofs.Common.{◌≡◌, ◌≢◌, refl, sym, subst, ◌∙◌, ap, arith, ℕ, zero, suc, ◌+◌, ◌<◌, ◌≤◌, ◌⊎◌, inl, inr}
use Rattle.std.proofs.Common.{Bool, true, false, cond, List, [], ◌∷◌, map, length, slice_get, slice_index, Some, ℤ}
use Rattle.std.specs.Prelude.{nat_eq, nat_lt, Contains}
use Rattle.std.specs.List.Sorted.{IsStrictlyIncreasing}
use Rattle.std.proofs.lemmas.Bool.Decides.{eqb_tells, leb_tells}
use Rattle.lists.proofs.Places.{contains_at, place_of}
use Rattle.signal_graph.specs.Flat as flat
use Rattle.loop_expand.specs.Private.Facts.{Fact, defines, presets}
use Rattle.loop_expand.specs.Private.Elements.{inserted, changed, with_value, with_init, with_fact, with_facts}

-- it is one of the facts
abbrev pub Has : List Fact → Fact → Type 0
Has [] x = ⊥
Has (y ∷ ys) x = (x ≡ y) ⊎ Has ys x

-- Initial values by rising sample.
abbrev Init : Type 0
Init = ℕ × ℤ

abbrev pub Among : List Init → Init → Type 0
Among [] x = ⊥
Among (y ∷ ys) x = (x ≡ y) ⊎ Among ys x

abbrev IsBelow : ℕ → List Init → Type 0
IsBelow k [] = Unit {0}
IsBelow k (i ∷ is) = k < i.0

abbrev pub Rising : List Init → Type 0
Rising [] = Unit {0}
Rising (i ∷ is) = IsBelow i.0 is × Rising is

abbrev pub Lt : ℕ → ℕ → Type 0
Lt m n = ((nat_lt m n ≡ true) × (m < n)) ⊎ ((nat_lt m n ≡ false) × (n ≤ m))

pub lt_tells : (m n : ℕ) → Lt m n
lt_tells m n = elim (leb_tells (suc m) n)
    [ inl h ↦ inl (h.0, (let less = h.1 in omega arith)) | inr h ↦ inr (h.0, (let more = h.1 in omega arith)) ]

module _ (k : ℕ) (v : ℤ) where
  -- what is inserted is there, but for a value for that sample, and what was there stays
  pub inserted_in : (is : List Init) (x : Init) → Among (inserted k v is) x → (x ≡ (k, v)) ⊎ Among is x
  inserted_in [] x (inl e) = inl e
  inserted_in [] x (inr e) = absurd e
  inserted_in (i ∷ is) x h = by (inserted_in is x) (nat_lt i.0 k) (nat_eq i.0 k) h
    where
      by : (Among (inserted k v is) x → (x ≡ (k, v)) ⊎ Among is x)
          → (a b : Bool)
          → Among (cond a (i ∷ inserted k v is) (cond b (i ∷ is) ((k, v) ∷ i ∷ is))) x
          → (x ≡ (k, v)) ⊎ Among (i ∷ is) x
      by rest true b (inl e) = inr (inl e)
      by rest true b (inr h) = elim (rest h) [ inl e ↦ inl e | inr g ↦ inr (inr g) ]
      by rest false true h = inr h
      by rest false false (inl e) = inl e
      by rest false false (inr h) = inr h

  pub inserted_stays : (is : List Init) (x : Init) → Among is x → Among (inserted k v is) x
  inserted_stays [] x h = absurd h
  inserted_stays (i ∷ is) x h = by (inserted_stays is x) (nat_lt i.0 k) (nat_eq i.0 k) h
    where
      by : (Among is x → Among (inserted k v is) x)
          → (a b : Bool)
          → Among (i ∷ is) x
          → Among (cond a (i ∷ inserted k v is) (cond b (i ∷ is) ((k, v) ∷ i ∷ is))) x
      by rest true b (inl e) = inl e
      by rest true b (inr h) = inr (rest h)
      by rest false true h = h
      by rest false false h = inr h

  pub inserted_there : (is : List Init) → (w : ℤ) × Among (inserted k v is) (k, w)
  inserted_there [] = (v, inl refl)
  inserted_there (i ∷ is) = by (inserted_there is) (nat_lt i.0 k) (eqb_tells i.0 k)
    where
      by : (w : ℤ) × Among (inserted k v is) (k, w)
          → (a : Bool)
          → ((nat_eq i.0 k ≡ true) × (i.0 ≡ k)) ⊎ ((nat_eq i.0 k ≡ false) × (i.0 ≡ k → ⊥))
          → (w : ℤ) × Among (cond a (i ∷ inserted k v is) (cond (nat_eq i.0 k) (i ∷ is) ((k, v) ∷ i ∷ is))) (k, w)
      by rest true b = (rest.0, inr rest.1)
      by rest false (inl h) = (i.1, rw h.0 (inl (ap (λ (m : ℕ). (m, i.1)) (sym h.1))))
      by rest false (inr h) = (v, rw h.0 (inl refl))

  -- above a number stay above it
  inserted_below : (m : ℕ) (is : List Init) → m < k → IsBelow m is → IsBelow m (inserted k v is)
  inserted_below m [] less h = less
  inserted_below m (i ∷ is) less h = by (nat_lt i.0 k) (nat_eq i.0 k)
    where
      by : (a b : Bool) → IsBelow m (cond a (i ∷ inserted k v is) (cond b (i ∷ is) ((k, v) ∷ i ∷ is)))
      by true b = h
      by false true = h
      by false false = less

  pub inserted_rises : (is : List Init) → Rising is → Rising (inserted k v is)
  inserted_rises [] h = (tt, tt)
  inserted_rises (i ∷ is) h = by (inserted_rises is h.1) (lt_tells i.0 k) (eqb_tells i.0 k)
    where
      by : Rising (inserted k v is)
          → Lt i.0 k
          → ((nat_eq i.0 k ≡ true) × (i.0 ≡ k)) ⊎ ((nat_eq i.0 k ≡ false) × (i.0 ≡ k → ⊥))
          → Rising (inserted k v (i ∷ is))
      by rest (inl l) b = rw l.0 (inserted_below i.0 is l.1 h.0, rest)
      by rest (inr l) (inl e) = rw (l.0, e.0) h
      by rest (inr l) (inr e) = rw (l.0, e.0) (below l.1 e.1, h)
        where
          below : k ≤ i.0 → (i.0 ≡ k → ⊥) → k < i.0
          below most other = elim (leb_tells (suc k) i.0)
              [ inl g ↦ (let less = g.1 in omega arith) | inr g ↦ (let more = g.1 in absurd (other (omega arith))) ]

-- as std says it
pub rising_increases : (is : List Init) → Rising is → IsStrictlyIncreasing (map (λ (i : Init). i.0) is)
rising_increases [] h k less = absurd (omega arith)
rising_increases (i ∷ []) h k less = absurd (omega arith)
rising_increases (i ∷ j ∷ is) h zero less = let first = h.0 in omega arith
rising_increases (i ∷ j ∷ is) h (suc k) less =
    let rest = rising_increases (j ∷ is) h.1 k (omega arith) in
    let next : suc k + 1 ≡ suc (k + 1) = omega arith in
    subst
    (λ (m : ℕ). slice_index (map (λ (i : Init). i.0) (j ∷ is)) k < slice_index (map (λ (i : Init). i.0) (i ∷ j ∷ is)) m)
    (sym next) rest

pub among_contains : (is : List Init) (x : Init) → Among is x → Contains is x
among_contains is x h = let at = place is x h in contains_at is at.0 x at.1
  where
    place : (is : List Init) (x : Init) → Among is x → (k : ℕ) × (slice_get is k ≡ Some x)
    place [] x h = absurd h
    place (i ∷ is) x (inl e) = (0, ap Some (sym e))
    place (i ∷ is) x (inr h) = let rest = place is x h in (suc rest.0, rest.1)

pub contains_among : (is : List Init) (x : Init) → Contains is x → Among is x
contains_among is x h = let at = place_of is x h in there is at.0 x at.1
  where
    there : (is : List Init) (k : ℕ) (x : Init) → slice_get is k ≡ Some x → Among is x
    there [] k x e = absurd (cc e)
    there (i ∷ is) zero x e = inl (cc e)
    there (i ∷ is) (suc k) x e = inr (there is k x e)

-- Changed elements.
changed_same : (F : flat.Element → flat.Element) (n : ℕ) (xs : List flat.Element) (x : flat.Element)
    → slice_get xs n ≡ Some x
    → slice_get (changed F n xs) n ≡ Some (F x)
changed_same F n [] x e = absurd (cc e)
changed_same F zero (y ∷ xs) x e = let same : y ≡ x = cc e in ap (λ (z : flat.Element). Some (F z)) same
changed_same F (suc n) (y ∷ xs) x e = changed_same F n xs x e

changed_other : (F : flat.Element → flat.Element) (m n : ℕ) (xs : List flat.Element)
    → m ≢ n
    → slice_get (changed F m xs) n ≡ slice_get xs n
changed_other F m n [] other = refl
changed_other F zero zero (y ∷ xs) other = absurd (other refl)
changed_other F zero (suc n) (y ∷ xs) other = refl
changed_other F (suc m) zero (y ∷ xs) other = refl
changed_other F (suc m) (suc n) (y ∷ xs) other = changed_other F m n xs (λ e. other (ap suc e))

pub changed_length : (F : flat.Element → flat.Element) (n : ℕ) (xs : List flat.Element)
    → length (changed F n xs) ≡ length xs
changed_length F n [] = refl
changed_length F zero (x ∷ xs) = refl
changed_length F (suc n) (x ∷ xs) = ap suc (changed_length F n xs)

pub facts_length : (fs : List Fact) (xs : List flat.Element) → length (with_facts fs xs) ≡ length xs
facts_length [] xs = refl
facts_length (defines n y ∷ fs) xs = facts_length fs (changed (with_value y) n xs) ∙ changed_length (with_value y) n xs
facts_length (presets n k v ∷ fs) xs =
    facts_length fs (changed (with_init k v) n xs) ∙ changed_length (with_init k v) n xs

-- y is what element n is after the facts, where it was x
pub record After (fs : List Fact) (n : ℕ) (x y : flat.Element) : Type 0 where
  pub ty : y.ty ≡ x.ty
  pub body : (y.body ≡ x.body) ⊎ ((z : flat.Expr) × Has fs (defines n z) × (y.body ≡ flat.value z))
  pub covered : (z : flat.Expr)
      → Has fs (defines n z)
      → (w : flat.Expr) × Has fs (defines n w) × (y.body ≡ flat.value w)
  pub rises : Rising x.inits → Rising y.inits
  pub given : (i : Init) → Among y.inits i → Among x.inits i ⊎ Has fs (presets n i.0 i.1)
  pub stays : (i : Init) → Among x.inits i → Among y.inits i
  pub put : (k : ℕ) (v : ℤ) → Has fs (presets n k v) → (w : ℤ) × Among y.inits (k, w)

after_none : (fs : List Fact) (n : ℕ) (x : flat.Element)
    → ((z : flat.Expr) → Has fs (defines n z) → ⊥)
    → ((k : ℕ) (v : ℤ) → Has fs (presets n k v) → ⊥)
    → After fs n x x
after_none fs n x none empty = record {
  ty = refl;
  body = inl refl;
  covered = λ z h. absurd (none z h);
  rises = λ h. h;
  given = λ i h. inl h;
  stays = λ i h. h;
  put = λ k v h. absurd (empty k v h);
}

after_then : (f : Fact) (fs : List Fact) (n : ℕ) (x y z : flat.Element)
    → After (f ∷ []) n x y
    → After fs n y z
    → After (f ∷ fs) n x z
after_then f fs n x y z a b = record {
  ty = b.ty ∙ a.ty;
  body = elim b.body [
    | inl e ↦ elim a.body [
      | inl g ↦ inl (e ∙ g)
      | inr h ↦ inr (h.0, first h.1, e ∙ h.2)
    ]
    | inr h ↦ inr (h.0, inr h.1, h.2)
  ];
  covered = λ w h. covers w h;
  rises = λ h. b.rises (a.rises h);
  given = λ i h. elim (b.given i h) [
    | inl g ↦ elim (a.given i g) [ inl l ↦ inl l | inr l ↦ inr (first l) ]
    | inr g ↦ inr (inr g)
  ];
  stays = λ i h. b.stays i (a.stays i h);
  put = λ k v h. puts k v h;
}
  where
    first : {g : Fact} → Has (f ∷ []) g → Has (f ∷ fs) g
    first (inl e) = inl e
    first (inr e) = absurd e

    later : (w : flat.Expr)
        → Has (f ∷ []) (defines n w)
        → (y.body ≡ flat.value w)
        → (w : flat.Expr) × Has (f ∷ fs) (defines n w) × (z.body ≡ flat.value w)
    later w h e = elim b.body [
      | inl g ↦ (w, first h, g ∙ e)
      | inr g ↦ (g.0, inr g.1, g.2)
    ]

    covers : (w : flat.Expr)
        → Has (f ∷ fs) (defines n w)
        → (w : flat.Expr) × Has (f ∷ fs) (defines n w) × (z.body ≡ flat.value w)
    covers w (inl e) = let it = a.covered w (inl e) in later it.0 it.1 it.2
    covers w (inr h) = let it = b.covered w h in (it.0, inr it.1, it.2)

    puts : (k : ℕ) (v : ℤ) → Has (f ∷ fs) (presets n k v) → (w : ℤ) × Among z.inits (k, w)
    puts k v (inl e) = let it = a.put k v (inl e) in (it.0, b.stays (k, it.0) it.1)
    puts k v (inr h) = b.put k v h

-- what one fact makes of it
pub record Put (f : Fact) (n : ℕ) (x : flat.Element) (xs : List flat.Element) : Type 0 where
  pub it : flat.Element
  pub there : slice_get xs n ≡ Some it
  pub after : After (f ∷ []) n x it

same_number : (m n : ℕ) (y z : flat.Expr) → defines n z ≡ defines m y → n ≡ m
same_number m n y z e = cc e

same_place : (m n k l : ℕ) (v w : ℤ) → presets n k v ≡ presets m l w → n ≡ m
same_place m n k l v w e = cc e

no_value : (m n : ℕ) (y : flat.Expr) (k : ℕ) (v : ℤ) → Has (defines m y ∷ []) (presets n k v) → ⊥
no_value m n y k v (inl e) = cc e
no_value m n y k v (inr e) = e

no_preset : (m n l : ℕ) (w : ℤ) (z : flat.Expr) → Has (presets m l w ∷ []) (defines n z) → ⊥
no_preset m n l w z (inl e) = cc e
no_preset m n l w z (inr e) = e

valued : (n : ℕ) (y : flat.Expr) (x : flat.Element) → After (defines n y ∷ []) n x (with_value y x)
valued n y x = record {
  ty = refl;
  body = inr (y, inl refl, refl);
  covered = λ z h. (y, inl refl, refl);
  rises = λ h. h;
  given = λ i h. inl h;
  stays = λ i h. h;
  put = λ k v h. absurd (no_value n n y k v h);
}

preset : (n k : ℕ) (v : ℤ) (x : flat.Element) → After (presets n k v ∷ []) n x (with_init k v x)
preset n k v x = record {
  ty = refl;
  body = inl refl;
  covered = λ z h. absurd (no_preset n n k v z h);
  rises = λ h. inserted_rises k v x.inits h;
  given = λ i h. elim (inserted_in k v x.inits i h) [
    | inl e ↦ inr (inl (ap (λ (j : Init). presets n j.0 j.1) e))
    | inr g ↦ inl g
  ];
  stays = λ i h. inserted_stays k v x.inits i h;
  put = λ l w h. puts l w h;
}
  where
    puts : (l : ℕ) (w : ℤ) → Has (presets n k v ∷ []) (presets n l w) → (u : ℤ) × Among (inserted k v x.inits) (l, u)
    puts l w (inl e) =
        let same : k ≡ l = cc e in
        let it = inserted_there k v x.inits in
        (it.0, subst (λ (m : ℕ). Among (inserted k v x.inits) (m, it.0)) same it.1)
    puts l w (inr e) = absurd e

put_one : (f : Fact) (n : ℕ) (x : flat.Element) (xs : List flat.Element)
    → slice_get xs n ≡ Some x
    → Put f n x (with_fact f xs)
put_one (defines m y) n x xs e = by (eqb_tells m n)
  where
    by : ((nat_eq m n ≡ true) × (m ≡ n)) ⊎ ((nat_eq m n ≡ false) × (m ≡ n → ⊥))
        → Put (defines m y) n x (changed (with_value y) m xs)
    by (inl h) =
        subst (λ (q : ℕ). Put (defines q y) n x (changed (with_value y) q xs)) (sym h.1)
        (record { it = with_value y x; there = changed_same (with_value y) n xs x e; after = valued n y x })
    by (inr h) = record {
      it = x;
      there = changed_other (with_value y) m n xs h.1 ∙ e;
      after = after_none (defines m y ∷ []) n x (λ z g. apart z g) (λ k v g. no_value m n y k v g);
    }
      where
        apart : (z : flat.Expr) → Has (defines m y ∷ []) (defines n z) → ⊥
        apart z (inl g) = h.1 (sym (same_number m n y z g))
        apart z (inr g) = g
put_one (presets m l w) n x xs e = by (eqb_tells m n)
  where
    by : ((nat_eq m n ≡ true) × (m ≡ n)) ⊎ ((nat_eq m n ≡ false) × (m ≡ n → ⊥))
        → Put (presets m l w) n x (changed (with_init l w) m xs)
    by (inl h) =
        subst (λ (q : ℕ). Put (presets q l w) n x (changed (with_init l w) q xs)) (sym h.1)
        (record { it = with_init l w x; there = changed_same (with_init l w) n xs x e; after = preset n l w x })
    by (inr h) = record {
      it = x;
      there = changed_other (with_init l w) m n xs h.1 ∙ e;
      after = after_none (presets m l w ∷ []) n x (λ z g. no_preset m n l w z g) (λ k v g. apart k v g);
    }
      where
        apart : (k : ℕ) (v : ℤ) → Has (presets m l w ∷ []) (presets n k v) → ⊥
        apart k v (inl g) = h.1 (sym (same_place m n k l v w g))
        apart k v (inr g) = g

-- and what all of them do
pub record Result (fs : List Fact) (n : ℕ) (x : flat.Element) (xs : List flat.Element) : Type 0 where
  pub it : flat.Element
  pub there : slice_get (with_facts fs xs) n ≡ Some it
  pub after : After fs n x it

pub facts_put : (fs : List Fact) (n : ℕ) (x : flat.Element) (xs : List flat.Element)
    → slice_get xs n ≡ Some x
    → Result fs n x xs
facts_put [] n x xs e = record { it = x; there = e; after = after_none [] n x (λ z h. h) (λ k v h. h) }
facts_put (f ∷ fs) n x xs e =
    let one = put_one f n x xs e in
    let rest = facts_put fs n one.it (with_fact f xs) one.there in
    record { it = rest.it; there = rest.there; after = after_then f fs n x one.it rest.it one.after rest.after }
