-- Which node of a lowered list has which number.
use Rattle.std.proofs.Common.{◌≡◌, ℕ, zero, suc, ◌+◌, ◌<◌, ◌⊎◌, inl, inr, ⊎_elim, refl, sym, ap, ap₂, ◌∙◌, subst, arith}
use Rattle.std.proofs.Common.{List, [], ◌∷◌, ◌++◌, length, Contains}
use Rattle.std.specs.Prelude.{slice_get, flat_map, take, Option, Some}
use Rattle.std.specs.List.{enumerate_from}
use Rattle.std.proofs.lemmas.Option.{same_Some, none-some}
use Rattle.std.proofs.lemmas.List.{length-append}
use Rattle.lists.proofs.Places.{at_left, at_right, at_append, contains_at}
use Rattle.signal_graph.proofs.Members.{from_enumerate, first_or_rest, from_flat_map}
use Rattle.plan_core.specs.Lowered.{Origin, own, address, store, load, origins_of, IsNumber}

-- where the piece of element i begins
abbrev pub start_of : {A B : Type 0} → (A → List B) → List A → ℕ → ℕ
start_of f xs i = length (flat_map f (take i xs))

-- element j of piece i
pub piece_at : {A B : Type 0} (f : A → List B) (xs : List A) (i j : ℕ) (x : A) (y : B)
    → slice_get xs i ≡ Some x
    → slice_get (f x) j ≡ Some y
    → slice_get (flat_map f xs) (start_of f xs i + j) ≡ Some y
piece_at f [] i j x y is at = absurd (cc)
piece_at f (z ∷ zs) zero j x y is at =
    let at' : slice_get (f z) j ≡ Some y = subst (λ w. slice_get (f w) j ≡ Some y) (sym (same_Some z x is)) at in
    subst (λ k. slice_get (f z ++ flat_map f zs) k ≡ Some y) {x = j} {y = 0 + j} (omega arith)
    (at_left (f z) (flat_map f zs) j y at')
piece_at f (z ∷ zs) (suc i) j x y is at =
    at_right (f z) (flat_map f zs) (length (f z ++ flat_map f (take i zs)) + j) (start_of f zs i + j) y
    (omega (arith, length-append (f z) (flat_map f (take i zs))))
    (piece_at f zs i j x y is at)

-- what stands at k is an element of a piece
pub record IsPieceAt {A B : Type 0} (f : A → List B) (xs : List A) (k : ℕ) (y : B) : Type 0 where
  pub i : ℕ
  pub j : ℕ
  pub x : A
  pub whole : slice_get xs i ≡ Some x
  pub part : slice_get (f x) j ≡ Some y
  pub at : k ≡ start_of f xs i + j

pub at_piece : {A B : Type 0} (f : A → List B) (xs : List A) (k : ℕ) (y : B)
    → slice_get (flat_map f xs) k ≡ Some y
    → IsPieceAt f xs k y
at_piece f [] k y is = absurd (cc)
at_piece f (z ∷ zs) k y is =
    ⊎_elim
    (λ here. record { i = 0; j = k; x = z; whole = refl; part = here; at = omega arith })
    (λ there.
    let rest = at_piece f zs there.0 y there.2 in
    record {
      i = suc rest.i;
      j = rest.j;
      x = rest.x;
      whole = rest.whole;
      part = rest.part;
      at = omega (arith, there.1, rest.at, length-append (f z) (flat_map f (take rest.i zs)));
    })
    (at_append (f z) (flat_map f zs) k y is)

-- the node of the graph to which a node of the lowered list belongs
abbrev pub node_of_origin : Origin → ℕ
node_of_origin (own v) = v
node_of_origin (address v ago) = v
node_of_origin (store v) = v
node_of_origin (load v ago) = v

abbrev pub piece : ℕ × List ℕ → List Origin
piece x = origins_of x.0 x.1

-- what may stand in the piece of a node with these long delays, at this place of the piece
abbrev pub IsIn : (long : List ℕ) → (j : ℕ) → Origin → Type 0
IsIn long j (own v) = j ≡ 0
IsIn long j (address v ago) = (0 < length long) × ((ago ≡ 0) ⊎ Contains long ago)
IsIn long j (store v) = (j ≡ 2) × (0 < length long)
IsIn long j (load v ago) = Contains long ago

abbrev loads : ℕ → List ℕ → List Origin
loads v long = flat_map (λ (ago : ℕ). address v ago ∷ load v ago ∷ []) long

pub record BelongsTo (v : ℕ) (long : List ℕ) (j : ℕ) (o : Origin) : Type 0 where
  pub node : node_of_origin o ≡ v
  pub is_in : IsIn long j o

one_of_two : {A : Type 0} (a b y : A) → Contains (a ∷ b ∷ []) y → (a ≡ y) ⊎ (b ≡ y)
one_of_two a b y among =
    ⊎_elim inl
    (λ rest. inr (⊎_elim (λ e. e) (λ none. absurd (omega (arith, none.1))) (first_or_rest b y [] rest)))
    (first_or_rest a y (b ∷ []) among)

belongs_as : (v : ℕ) (long : List ℕ) (j : ℕ) (o made : Origin)
    → made ≡ o
    → BelongsTo v long j made
    → BelongsTo v long j o
belongs_as v long j o made e belongs = subst (BelongsTo v long j) e belongs

some_length : {A : Type 0} (xs : List A) (x : A) → Contains xs x → 0 < length xs
some_length xs x among = omega (arith, among.1)

belongs_load : (v : ℕ) (long : List ℕ) (j : ℕ) (o : Origin)
    → Contains (loads v long) o
    → BelongsTo v long j o
belongs_load v long j o among =
    let from = from_flat_map (λ (ago : ℕ). address v ago ∷ load v ago ∷ []) long o among in
    let some : 0 < length long = some_length long from.0 from.1 in
    ⊎_elim
    (λ e. belongs_as v long j o (address v from.0) e (record { node = refl; is_in = (some, inr from.1) }))
    (λ e. belongs_as v long j o (load v from.0) e (record { node = refl; is_in = from.1 }))
    (one_of_two (address v from.0) (load v from.0) o from.2)

pub belongs : (v : ℕ) (long : List ℕ) (j : ℕ) (o : Origin)
    → slice_get (origins_of v long) j ≡ Some o
    → BelongsTo v long j o
belongs v [] zero o is = belongs_as v [] 0 o (own v) (same_Some _ _ is) (record { node = refl; is_in = refl })
belongs v [] (suc j) o is = absurd (none-some o is)
belongs v (k ∷ ks) zero o is =
    belongs_as v (k ∷ ks) 0 o (own v) (same_Some _ _ is) (record { node = refl; is_in = refl })
belongs v (k ∷ ks) (suc zero) o is =
    belongs_as v (k ∷ ks) 1 o (address v 0) (same_Some _ _ is)
    (record { node = refl; is_in = (some_length (k ∷ ks) k (0, omega arith, refl), inl refl) })
belongs v (k ∷ ks) (suc (suc zero)) o is =
    belongs_as v (k ∷ ks) 2 o (store v) (same_Some _ _ is)
    (record { node = refl; is_in = (refl, some_length (k ∷ ks) k (0, omega arith, refl)) })
belongs v (k ∷ ks) (suc (suc (suc j))) o is =
    belongs_load v (k ∷ ks) (suc (suc (suc j))) o (contains_at (loads v (k ∷ ks)) j o is)

-- the number of an element is its index
enumerate_index : {A : Type 0} (xs : List A) (n i : ℕ) (x : ℕ × A)
    → slice_get (enumerate_from n xs) i ≡ Some x
    → x.0 ≡ n + i
enumerate_index [] n i x is = absurd (none-some x is)
enumerate_index (y ∷ ys) n zero x is = let e = ap (λ (x : ℕ × _). x.0) (same_Some (n, y) x is) in omega (arith, e)
enumerate_index (y ∷ ys) n (suc i) x is = let e = enumerate_index ys (n + 1) i x is in omega (arith, e)

abbrev some_pair : {A : Type 0} → ℕ → A → Option (ℕ × A)
some_pair k x = Some (k, x)

enumerate_at : {A : Type 0} (xs : List A) (n i : ℕ) (x : A)
    → slice_get xs i ≡ Some x
    → slice_get (enumerate_from n xs) i ≡ Some (n + i, x)
enumerate_at [] n i x is = absurd (none-some x is)
enumerate_at (y ∷ ys) n zero x is = ap₂ some_pair (start n) (same_Some y x is)
  where
    start : (n : ℕ) → n ≡ n + 0
    start n = omega arith
enumerate_at (y ∷ ys) n (suc i) x is = enumerate_at ys (n + 1) i x is ∙ ap (λ k. some_pair k x) (next n i)
  where
    next : (n i : ℕ) → n + 1 + i ≡ n + suc i
    next n i = omega arith

module _ (delays : List (List ℕ)) where
  -- where the nodes for node v of the graph begin
  abbrev pub first_of : ℕ → ℕ
  first_of v = start_of piece (enumerate_from 0 delays) v

  -- a number of the lowered list: the node to which it belongs, and its place in the piece
  pub record IsNumbered (o : Origin) (i : ℕ) : Type 0 where
    pub v : ℕ
    pub long : List ℕ
    pub j : ℕ
    pub delays_are : slice_get delays v ≡ Some long
    pub belongs : BelongsTo v long j o
    pub at : i ≡ first_of v + j

  pub numbered : (o : Origin) (i : ℕ) → IsNumber delays o i → IsNumbered o i
  numbered o i is =
      let at = at_piece piece (enumerate_from 0 delays) i o is in
      let number : slice_get delays at.x.0 ≡ Some at.x.1 =
      from_enumerate delays at.x (contains_at (enumerate_from 0 delays) at.i at.x at.whole) in
      let v : at.i ≡ at.x.0 = omega (arith, enumerate_index delays 0 at.i at.x at.whole) in
      record {
        v = at.x.0;
        long = at.x.1;
        j = at.j;
        delays_are = number;
        belongs = belongs at.x.0 at.x.1 at.j o at.part;
        at = at.at ∙ ap (λ v. first_of v + at.j) v;
      }

  -- the piece of node v begins with the node, and where it has a delay line goes on with an address and the store
  pub number_of : (v : ℕ) (long : List ℕ) (j : ℕ) (o : Origin)
      → slice_get delays v ≡ Some long
      → slice_get (origins_of v long) j ≡ Some o
      → IsNumber delays o (first_of v + j)
  number_of v long j o is at =
      piece_at piece (enumerate_from 0 delays) v j (v, long) o
      (enumerate_at delays 0 v long is ∙ ap (λ k. some_pair k long) (start v)) at
    where
      start : (v : ℕ) → 0 + v ≡ v
      start v = omega arith

  pub own_number : (v : ℕ) (long : List ℕ) → slice_get delays v ≡ Some long → IsNumber delays (own v) (first_of v)
  own_number v long is =
      subst (IsNumber delays (own v)) {x = first_of v + 0} {y = first_of v} (omega arith)
      (number_of v long 0 (own v) is (own_first v long))
    where
      own_first : (v : ℕ) (long : List ℕ) → slice_get (origins_of v long) 0 ≡ Some (own v)
      own_first v [] = refl
      own_first v (k ∷ ks) = refl

  pub own_once : (v i : ℕ) → IsNumber delays (own v) i → i ≡ first_of v
  own_once v i is =
      let at = numbered (own v) i is in
      let node : v ≡ at.v = at.belongs.node in
      let first : at.j ≡ 0 = at.belongs.is_in in
      at.at ∙ ap₂ (λ v j. first_of v + j) (sym node) first ∙ end (first_of v)
    where
      end : (n : ℕ) → n + 0 ≡ n
      end n = omega arith

  pub store_once : (v i : ℕ) → IsNumber delays (store v) i → i ≡ first_of v + 2
  store_once v i is =
      let at = numbered (store v) i is in
      let node : v ≡ at.v = at.belongs.node in
      at.at ∙ ap₂ (λ v j. first_of v + j) (sym node) at.belongs.is_in.0

  pub store_number : (v : ℕ) (long : List ℕ)
      → slice_get delays v ≡ Some long
      → 0 < length long
      → IsNumber delays (store v) (first_of v + 2)
  store_number v [] is some = absurd (omega (arith, some))
  store_number v (k ∷ ks) is some = number_of v (k ∷ ks) 2 (store v) is refl
