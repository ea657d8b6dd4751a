-- Values that are spelled group by group, each group behind a key, the keys one after another.
use Rattle.std.proofs.Common.{◌≡◌, ℕ, zero, suc, ◌+◌, ◌<◌, ◌≤◌, ◌⊎◌, inl, inr, ◌==◌, true, false, eqb, List, [], ◌∷◌}
use Rattle.std.proofs.Common.{◌++◌, Ok, refl, sym, ap, ap₂, subst, ◌∙◌, append_assoc, arith}
use Rattle.std.specs.List.{All, flat_map, filter, range_with_len}
use Rattle.std.proofs.lemmas.Bool.Decides.{nat_tests}
use Rattle.std.proofs.lemmas.List.{append-nil}
use Rattle.std.proofs.lemmas.List.Concat.{flat_map-cons}
use Rattle.std.proofs.lemmas.List.Elements.{All-append, All-cons, All-head, All-nil, All-tail, filter-append}
use Rattle.micro_bits.proofs.Bits.{IsDigits}
use Rattle.micro_file.specs.Private.Fields.{Reading, each_at}
use Rattle.micro_file.proofs.Readers.{bit_values, Takes, ◌⨟◌, takes_none, IsReader, bound, ok_is, joined}
use Rattle.micro_file.proofs.Several.{Grows, Whole, More}

-- what was read behind those in front
pub record TookGroup {A : Type 0}
    (Next : List A → A → Type 0) (Is : A → Type 0) (spell : List A → List ℕ) (front : List A) (left : List ℕ)
    (x : List A × List ℕ) : Type 0 where
  pub back : List A
  pub whole : x.0 ≡ front ++ back
  pub each : All Is back
  pub grows : Grows Next front back
  pub text : Takes bit_values left (spell back) x.1

-- a reader of several values behind those in front, of which each is so
pub record ReadsGroup {A : Type 0}
    (Next : List A → A → Type 0) (Before Is : A → Type 0) (spell : List A → List ℕ)
    (read : List A → List ℕ → Reading (List A)) : Type 0 where
  pub took : (front : List A) (left : List ℕ)
      → All Before front
      → IsDigits bit_values left
      → (x : List A × List ℕ)
      → read front left ≡ Ok x
      → TookGroup Next Is spell front left x
  pub again : (front back : List A) (rest : List ℕ)
      → All Is back
      → Grows Next front back
      → read front (spell back ++ rest) ≡ Ok (front ++ back, rest)

-- what follows from what holds of each holds of each
pub all_map : {A : Type 0} (P Q : A → Type 0) (xs : List A) → ((x : A) → P x → Q x) → All P xs → All Q xs
all_map P Q xs so all k d lt = so _ (all k d lt)

-- the same reader, at facts that say the same
pub such_group :
    {A : Type 0} {Next : List A → A → Type 0} {Before Is Before2 Is2 : A → Type 0} {spell : List A → List ℕ}
    {read : List A → List ℕ → Reading (List A)}
    → ((x : A) → Before2 x → Before x)
    → ((x : A) → Is x → Is2 x)
    → ((x : A) → Is2 x → Is x)
    → ReadsGroup Next Before Is spell read
    → ReadsGroup Next Before2 Is2 spell read
such_group {A} {Next} {Before} {Is} {Before2} {Is2} before to from reader = record {
  took = λ front left all fits x e.
      let t = reader.took front left (all_map Before2 Before front before all) fits x e in
      record {
        back = t.back;
        whole = t.whole;
        each = all_map Is Is2 t.back to t.each;
        grows = t.grows;
        text = t.text;
      };
  again = λ front back rest all g. reader.again front back rest (all_map Is2 Is back from all) g;
}

-- several values, and none in front
pub group_reader :
    {A : Type 0} {Next : List A → A → Type 0} {Before Is : A → Type 0} {spell : List A → List ℕ}
    {read : List A → List ℕ → Reading (List A)}
    → ReadsGroup Next Before Is spell read
    → IsReader bit_values (λ xs. All Is xs × Grows Next [] xs) spell (read [])
group_reader {A} {Next} {Before} {Is} {spell} reader = record {
  took = λ left fits x e.
      let t = reader.took [] left (All-nil Before) fits x e in
      let same : t.back ≡ x.0 = sym t.whole in
      record {
        allowed = subst (λ (xs : List A). All Is xs × Grows Next [] xs) same (t.each, t.grows);
        text = subst (λ (xs : List A). Takes bit_values left (spell xs) x.1) same t.text;
      };
  again = λ xs rest ok. reader.again [] xs rest ok.0 ok.1;
}

-- what grows behind what has grown
grows_on : {A : Type 0} (Next : List A → A → Type 0) (front xs ys : List A)
    → Grows Next front xs
    → Grows Next (front ++ xs) ys
    → Grows Next front (xs ++ ys)
grows_on Next front [] ys g h = rw (append-nil front) at h
grows_on Next front (x ∷ xs) ys (More _ _ _ next g) h =
    More front x (xs ++ ys) next (grows_on Next (front ++ x ∷ []) xs ys g (rw append_assoc h))

-- each of its two parts has grown
grown_parts : {A : Type 0} (Next : List A → A → Type 0) (front xs ys : List A)
    → Grows Next front (xs ++ ys)
    → Grows Next front xs × Grows Next (front ++ xs) ys
grown_parts Next front [] ys g = (Whole front, rw (append-nil front) g)
grown_parts Next front (x ∷ xs) ys (More _ _ _ next g) =
    let p = grown_parts Next (front ++ x ∷ []) xs ys g in
    (More front x xs next p.0, rw append_assoc at (p.1))

-- what is the same of each number is the same of a range
flat_map_same : (f g : ℕ → List ℕ) (a n : ℕ)
    → ((k : ℕ) → a ≤ k → f k ≡ g k)
    → flat_map f (range_with_len a n) ≡ flat_map g (range_with_len a n)
flat_map_same f g a zero same = refl
flat_map_same f g a (suc n) same =
    flat_map-cons f a (range_with_len (a + 1) n)
    ∙ ap₂ (λ (x y : List ℕ). x ++ y) (same a (omega arith))
    (flat_map_same f g (a + 1) n (λ k le. same k (omega (arith, le))))
    ∙ sym (flat_map-cons g a (range_with_len (a + 1) n))

module _ {A : Type 0} (key : A → ℕ) where
  -- those with the key
  abbrev pub of_key : ℕ → List A → List A
  of_key k xs = filter (λ x. key x == k) xs

  -- the key is another one
  abbrev Apart : ℕ → A → Type 0
  Apart k x = (key x < k) ⊎ (k < key x)

  same_key : (x : A) (k : ℕ) → key x ≡ k → eqb (key x) k ≡ true
  same_key x k e = grind (arith, nat_tests, e)

  other_key : (x : A) (k : ℕ) → Apart k x → eqb (key x) k ≡ false
  other_key x k (inl lt) = grind (arith, nat_tests, lt)
  other_key x k (inr lt) = grind (arith, nat_tests, lt)

  -- all have the key
  of_key_all : (k : ℕ) (xs : List A) → All (λ x. key x ≡ k) xs → of_key k xs ≡ xs
  of_key_all k [] all = refl
  of_key_all k (x ∷ xs) all =
      rw (same_key x k (all 0 x (omega arith)))
      (ap (λ (ys : List A). x ∷ ys) (of_key_all k xs (All-tail (λ y. key y ≡ k) x xs all)))

  -- none has the key
  of_key_none : (k : ℕ) (xs : List A) → All (Apart k) xs → of_key k xs ≡ []
  of_key_none k [] all = refl
  of_key_none k (x ∷ xs) all =
      rw (other_key x k (all 0 x (omega arith)))
      (of_key_none k xs (All-tail (Apart k) x xs all))

  module _ (spell : ℕ → List A → List ℕ) where
    -- group by group, so many
    abbrev pub by_key : (first count : ℕ) → List A → List ℕ
    by_key first count xs = flat_map (λ k. spell k (of_key k xs)) (range_with_len first count)

    -- the first group, and the others
    parts_spelled : (first n : ℕ) (xs ys : List A)
        → All (λ x. key x ≡ first) xs
        → All (λ y. first < key y) ys
        → by_key first (suc n) (xs ++ ys) ≡ spell first xs ++ by_key (first + 1) n ys
    parts_spelled first n xs ys own others =
        let here : of_key first (xs ++ ys) ≡ xs =
        filter-append (λ x. key x == first) xs ys
        ∙ ap₂ (λ (a b : List A). a ++ b) (of_key_all first xs own)
        (of_key_none first ys (all_map (λ y. first < key y) (Apart first) ys (λ y lt. inr lt) others))
        ∙ append-nil xs in
        let more : (k : ℕ) → first + 1 ≤ k → spell k (of_key k (xs ++ ys)) ≡ spell k (of_key k ys) = λ k le.
        ap (spell k)
        (filter-append (λ x. key x == k) xs ys
        ∙ ap (λ (a : List A). a ++ of_key k ys)
        (of_key_none k xs (all_map (λ x. key x ≡ first) (Apart k) xs (λ x e. inl (omega (arith, e, le))) own))) in
        flat_map-cons (λ k. spell k (of_key k (xs ++ ys))) first (range_with_len (first + 1) n)
        ∙ ap₂ (λ (a b : List ℕ). a ++ b) (ap (spell first) here)
        (flat_map_same (λ k. spell k (of_key k (xs ++ ys))) (λ k. spell k (of_key k ys)) (first + 1) n more)

-- a value belongs to the group of its key; those in front of a group are before it
module _ {A : Type 0} (key : A → ℕ) (Member : A → Type 0) (Under : ℕ → A → Type 0) (Next : List A → A → Type 0)
    (spell : ℕ → List A → List ℕ) (one : List A → ℕ → List ℕ → Reading (List A)) (limit : ℕ)
    (passed : (x : A) → Member x → Under (key x + 1) x)
    (stays : (k : ℕ) (x : A) → Under k x → Under (k + 1) x)
    (mounts : (front : List A) (x y : A)
    → Next (front ++ x ∷ []) y
    → Member x
    → Member y
    → key x ≤ key y)
    (each : (k : ℕ)
    → k < limit
    → ReadsGroup Next (Under k) (λ x. Member x × (key x ≡ k)) (spell k) (λ front. one front k)) where
  -- a value of the groups from the first on
  abbrev pub IsFrom : ℕ → A → Type 0
  IsFrom first x = Member x × (first ≤ key x) × (key x < limit)

  -- behind the last group there are none
  no_groups : (first : ℕ) (xs : List A) → limit ≤ first → All (IsFrom first) xs → xs ≡ []
  no_groups first [] le all = refl
  no_groups first (x ∷ xs) le all = absurd (omega (arith, le, (all 0 x (omega arith)).1, (all 0 x (omega arith)).2))

  -- the first group, and behind it the others
  together : (first n : ℕ)
      → first + suc n ≡ limit
      → (front : List A) (left : List ℕ) (s x : List A × List ℕ)
      (t : TookGroup Next (λ y. Member y × (key y ≡ first)) (spell first) front left s)
      → TookGroup Next (IsFrom (first + 1)) (by_key key spell (first + 1) n) (front ++ t.back) s.1 x
      → TookGroup Next (IsFrom first) (by_key key spell first (suc n)) front left x
  together first n same front left s x t more =
      let own : All (λ y. key y ≡ first) t.back =
      all_map (λ y. Member y × (key y ≡ first)) (λ y. key y ≡ first) t.back (λ y m. m.1) t.each in
      let others : All (λ y. first < key y) more.back =
      all_map (IsFrom (first + 1)) (λ y. first < key y) more.back (λ y m. omega (arith, m.1)) more.each in
      let text : Takes bit_values left (spell first t.back ++ by_key key spell (first + 1) n more.back) x.1 =
      t.text ⨟ more.text in
      record {
        back = t.back ++ more.back;
        whole = more.whole ∙ append_assoc front t.back more.back;
        each =
            All-append (IsFrom first) t.back more.back
            (all_map (λ y. Member y × (key y ≡ first)) (IsFrom first) t.back
            (λ y m. (m.0, omega (arith, m.1), omega (arith, m.1, same))) t.each)
            (all_map (IsFrom (first + 1)) (IsFrom first) more.back
            (λ y m. (m.0, omega (arith, m.1), m.2)) more.each);
        grows = grows_on Next front t.back more.back t.grows more.grows;
        text = rw (parts_spelled key spell first n t.back more.back own others) text;
      }

  -- the groups were taken
  groups_took : (first count : ℕ)
      → first + count ≡ limit
      → (front : List A) (left : List ℕ)
      → All (Under first) front
      → IsDigits bit_values left
      → (x : List A × List ℕ)
      → each_at one front first count left ≡ Ok x
      → TookGroup Next (IsFrom first) (by_key key spell first count) front left x
  unfolding each_at
  groups_took first zero same front left under fits x e =
      subst (λ (p : List A × List ℕ). TookGroup Next (IsFrom first) (by_key key spell first 0) front left p)
      (ok_is (front, left) x e) (record {
        back = [];
        whole = sym (append-nil front);
        each = All-nil (IsFrom first);
        grows = Whole front;
        text = takes_none left fits;
      })
  groups_took first (suc n) same front left under fits x e =
      let s = bound (one front first left) (λ (a : List A × List ℕ). each_at one a.0 (first + 1) n a.1) x e in
      let t = (each first (omega (arith, same))).took front left under fits s.0 s.1 in
      let behind : All (Under (first + 1)) t.back =
      all_map (λ y. Member y × (key y ≡ first)) (Under (first + 1)) t.back
      (λ y m. subst (λ (k : ℕ). Under (k + 1) y) m.1 (passed y m.0)) t.each in
      let before : All (Under (first + 1)) (front ++ t.back) =
      All-append (Under (first + 1)) front t.back
      (all_map (Under first) (Under (first + 1)) front (stays first) under) behind in
      let go : each_at one (front ++ t.back) (first + 1) n s.0.1 ≡ Ok x =
      subst (λ (ys : List A). each_at one ys (first + 1) n s.0.1 ≡ Ok x) t.whole s.2 in
      together first n same front left s.0 x t
      (groups_took (first + 1) n (omega (arith, same)) (front ++ t.back) s.0.1 before t.text.rest_fits x go)

  -- those behind a value have keys from its own on
  mounting : (front : List A) (x : A) (xs : List A)
      → Grows Next (front ++ x ∷ []) xs
      → Member x
      → All Member xs
      → All (λ y. key x ≤ key y) xs
  mounting front x [] g member all = All-nil (λ y. key x ≤ key y)
  mounting front x (y ∷ ys) (More _ _ _ next g) member all =
      let here = All-head Member y ys all in
      let step = mounts front x y next member here in
      let more = mounting (front ++ x ∷ []) y ys g here (All-tail Member y ys all) in
      All-cons (λ z. key x ≤ key z) y ys step
      (all_map (λ z. key y ≤ key z) (λ z. key x ≤ key z) ys (λ z le. omega (arith, step, le)) more)

  -- the first group, and the others
  record InTwo (first : ℕ) (xs : List A) : Type 0 where
    own : List A
    others : List A
    parts : xs ≡ own ++ others
    these : All (λ x. Member x × (key x ≡ first)) own
    those : All (IsFrom (first + 1)) others

  -- what grows falls into two
  in_two : (first : ℕ) (front xs : List A)
      → Grows Next front xs
      → All (IsFrom first) xs
      → InTwo first xs
  in_two first front [] g all = record {
    own = [];
    others = [];
    parts = refl;
    these = All-nil (λ x. Member x × (key x ≡ first));
    those = All-nil (IsFrom (first + 1));
  }
  in_two first front (x ∷ xs) (More _ _ _ next g) all =
      by (nat_cases (key x)) (in_two first (front ++ x ∷ []) xs g (All-tail (IsFrom first) x xs all))
    where
      here : IsFrom first x
      here = All-head (IsFrom first) x xs all

      tail : All (IsFrom first) xs
      tail = All-tail (IsFrom first) x xs all

      nat_cases : (k : ℕ) → (k ≡ first) ⊎ ((k < first) ⊎ (first < k))
      nat_cases k = grind (arith, nat_tests)

      by : (key x ≡ first) ⊎ ((key x < first) ⊎ (first < key x)) → InTwo first xs → InTwo first (x ∷ xs)
      by (inl e) more =
          record {
            own = x ∷ more.own;
            others = more.others;
            parts = ap (λ (ys : List A). x ∷ ys) more.parts;
            these = All-cons (λ y. Member y × (key y ≡ first)) x more.own (here.0, e) more.these;
            those = more.those;
          }
      by (inr (inl lt)) more = absurd (omega (arith, lt, here.1))
      by (inr (inr lt)) more =
          let rising = mounting front x xs g here.0 (all_map (IsFrom first) Member xs (λ y m. m.0) tail) in
          record {
            own = [];
            others = x ∷ xs;
            parts = refl;
            these = All-nil (λ y. Member y × (key y ≡ first));
            those =
                All-cons (IsFrom (first + 1)) x xs (here.0, omega (arith, lt), here.2)
                (λ k d less.
                ((tail k d less).0, omega (arith, lt, rising k d less), (tail k d less).2));
          }

  -- and are read again
  groups_again : (first count : ℕ)
      → first + count ≡ limit
      → (front back : List A) (rest : List ℕ)
      → All (IsFrom first) back
      → Grows Next front back
      → each_at one front first count (by_key key spell first count back ++ rest) ≡ Ok (front ++ back, rest)
  unfolding each_at
  groups_again first zero same front back rest all g =
      rw (no_groups first back (omega (arith, same)) all) (ap (λ (xs : List A). Ok (xs, rest)) (sym (append-nil front)))
  groups_again first (suc n) same front back rest all g =
      let two = in_two first front back g all in
      let whole : Grows Next front (two.own ++ two.others) = subst (λ (xs : List A). Grows Next front xs) two.parts g in
      let grown = grown_parts Next front two.own two.others whole in
      let own : All (λ y. key y ≡ first) two.own =
      all_map (λ y. Member y × (key y ≡ first)) (λ y. key y ≡ first) two.own (λ y m. m.1) two.these in
      let others : All (λ y. first < key y) two.others =
      all_map (IsFrom (first + 1)) (λ y. first < key y) two.others (λ y m. omega (arith, m.1)) two.those in
      let more : List ℕ = by_key key spell (first + 1) n two.others in
      let texts : by_key key spell first (suc n) back ++ rest ≡ spell first two.own ++ (more ++ rest) =
      ap (λ (xs : List A). by_key key spell first (suc n) xs ++ rest) two.parts
      ∙ ap (λ (t : List ℕ). t ++ rest) (parts_spelled key spell first n two.own two.others own others)
      ∙ append_assoc (spell first two.own) more rest in
      let head : one front first (by_key key spell first (suc n) back ++ rest) ≡ Ok (front ++ two.own, more ++ rest) =
      ap (one front first) texts
      ∙ (each first (omega (arith, same))).again front two.own (more ++ rest) two.these grown.0 in
      joined (one front first (by_key key spell first (suc n) back ++ rest))
      (λ (a : List A × List ℕ). each_at one a.0 (first + 1) n a.1) (front ++ two.own, more ++ rest)
      (Ok (front ++ back, rest)) head
      (groups_again (first + 1) n (omega (arith, same)) (front ++ two.own) two.others rest two.those grown.1
      ∙ ap (λ (ys : List A). Ok (ys, rest))
      (append_assoc front two.own two.others ∙ ap (λ (xs : List A). front ++ xs) (sym two.parts)))

  -- all groups, one after another
  pub groups_reader :
      ReadsGroup Next (Under 0) (λ x. Member x × (key x < limit)) (by_key key spell 0 limit)
      (λ front. each_at one front 0 limit)
  groups_reader = record {
    took = λ front left under fits x e.
        let t = groups_took 0 limit (omega arith) front left under fits x e in
        record {
          back = t.back;
          whole = t.whole;
          each = all_map (IsFrom 0) (λ y. Member y × (key y < limit)) t.back (λ y m. (m.0, m.2)) t.each;
          grows = t.grows;
          text = t.text;
        };
    again = λ front back rest all g.
        groups_again 0 limit (omega arith) front back rest
        (all_map (λ y. Member y × (key y < limit)) (IsFrom 0) back (λ y m. (m.0, omega arith, m.1)) all) g;
  }
