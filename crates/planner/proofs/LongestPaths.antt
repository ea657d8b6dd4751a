-- Each node has a height where ranks rise along the edges without delay: the longest paths of at most so many nodes are
-- the same from some count of nodes on.
use Rattle.std.proofs.Common.{◌≡◌, ℕ, zero, suc, ◌+◌, ◌-◌, ◌<◌, ◌≤◌, cond, Bool, true, false, ◌⊎◌, inl, inr, ⊎_elim}
use Rattle.std.proofs.Common.{refl, sym, ap, ap₂, ◌∙◌, subst, arith, List, [], ◌∷◌, length, slice_index_or}
use Rattle.std.proofs.lemmas.Bool.{cases_lt}
use Rattle.datapath.specs.declared.types.Datapath.{Datapath}
use Rattle.signal_graph.specs.Values.{EdgesRead}
use Rattle.signal_graph.specs.declared.graph.Edge.{Edge}
use Rattle.signal_graph.proofs.Tests.{edges_test, edges_yes, edges_no}
use Rattle.plan_core.specs.Operands.{node_of, no_edge}
use Rattle.plan_core.specs.Heights.{ReadsNow, latency_of, AreHeights}
use Rattle.plan_core.specs.declared.schedule.Assigned.{Assigned}
use Rattle.plan_core.proofs.Readers.{reader_there}

-- the greater of two numbers
abbrev greater : ℕ → ℕ → ℕ
greater a b = a + (b - a)

-- the greatest f of the numbers below k that pass the test, or 0
abbrev greatest : (k : ℕ) → (ℕ → Bool) → (ℕ → ℕ) → ℕ
greatest zero test f = 0
greatest (suc k) test f = greater (cond (test k) (f k) 0) (greatest k test f)

where_true : (b : Bool) (x : ℕ) → b ≡ true → cond b x 0 ≡ x
where_true true x e = refl
where_true false x e = absurd (cc)

greatest_above : (k : ℕ) (test : ℕ → Bool) (f : ℕ → ℕ) (c : ℕ) → c < k → test c ≡ true → f c ≤ greatest k test f
greatest_above zero test f c less passes = absurd (omega (arith, less))
greatest_above (suc k) test f c less passes =
    ⊎_elim
    (λ (below : c < k).
    omega (arith, greatest_above k test f c below passes))
    (λ (above : k ≤ c).
    let e : c ≡ k = omega (arith, less, above) in
    let own = where_true (test k) (f k) (ap test (sym e) ∙ passes) in
    let same = ap f e in
    omega (arith, own, same))
    (cases_lt c k)

abbrev IsReached : ℕ → (ℕ → Bool) → (ℕ → ℕ) → ℕ → Type 0
IsReached k test f n = (n ≡ 0) ⊎ ((c : ℕ) × (c < k) × (test c ≡ true) × (n ≡ f c))

greatest_reached : (k : ℕ) (test : ℕ → Bool) (f : ℕ → ℕ) → IsReached k test f (greatest k test f)
greatest_reached zero test f = inl refl
greatest_reached (suc k) test f = by (test k) refl (greatest k test f) (greatest_reached k test f)
  where
    before : (n : ℕ) → IsReached k test f n → IsReached (suc k) test f n
    before n (inl e) = inl e
    before n (inr x) = inr (x.0, omega (arith, x.1), x.2, x.3)

    by : (b : Bool)
        → test k ≡ b
        → (rest : ℕ)
        → IsReached k test f rest
        → IsReached (suc k) test f (greater (cond b (f k) 0) rest)
    by false e rest reached = subst (λ (n : ℕ). IsReached (suc k) test f n) (same rest) (before rest reached)
      where
        same : (n : ℕ) → n ≡ 0 + (n - 0)
        same n = omega arith
    by true e rest reached =
        ⊎_elim
        (λ (less : f k < rest).
        subst (λ (n : ℕ). IsReached (suc k) test f n) (second (f k) rest less) (before rest reached))
        (λ (above : rest ≤ f k). inr (k, omega arith, e, first (f k) rest above))
        (cases_lt (f k) rest)
      where
        second : (a b : ℕ) → a < b → b ≡ a + (b - a)
        second a b less = omega (arith, less)

        first : (a b : ℕ) → b ≤ a → a + (b - a) ≡ a
        first a b less = omega (arith, less)

greatest_same : (k : ℕ) (test : ℕ → Bool) (f g : ℕ → ℕ)
    → ((c : ℕ) → c < k → test c ≡ true → f c ≡ g c)
    → greatest k test f ≡ greatest k test g
greatest_same zero test f g same = refl
greatest_same (suc k) test f g same =
    ap₂ (λ (a b : ℕ). greater a b) (own (test k) refl)
    (greatest_same k test f g (λ c less passes. same c (omega (arith, less)) passes))
  where
    own : (b : Bool) → test k ≡ b → cond b (f k) 0 ≡ cond b (g k) 0
    own true e = same k (omega arith) e
    own false e = refl

-- how node c of n nodes reads node v is a test, and ranks rise from a node to those that read it
module _ (n : ℕ) (reads : ℕ → ℕ → Bool) (latency rank : ℕ → ℕ)
    (rises : (c v : ℕ) → c < n → reads c v ≡ true → rank v < rank c) where
  -- the longest path from node v on, of k nodes at most
  abbrev within : ℕ → ℕ → ℕ
  within zero v = 0
  within (suc k) v = latency v + greatest n (λ (c : ℕ). reads c v) (within k)

  abbrev top : ℕ
  top = greatest n (λ (v : ℕ). true) rank

  stable : (k v : ℕ) → v < n → top < k + rank v → within (suc k) v ≡ within k v
  stable zero v there high =
      absurd (let most = greatest_above n (λ (v : ℕ). true) rank v there refl in omega (arith, high, most))
  stable (suc k) v there high =
      ap (λ (x : ℕ). latency v + x)
      (greatest_same n (λ (c : ℕ). reads c v) (within (suc k)) (within k)
      (λ c less passes.
      let rise = rises c v less passes in
      stable k c less (omega (arith, high, rise))))

  abbrev longest : ℕ → ℕ
  longest v = within (suc top) v

  longest_is : (v : ℕ) → v < n → longest v ≡ latency v + greatest n (λ (c : ℕ). reads c v) longest
  longest_is v there = sym (stable (suc top) v there (omega arith))

read_at : (edges : List Edge) (q v : ℕ)
    → q < length edges
    → (slice_index_or edges q no_edge).node ≡ v
    → (slice_index_or edges q no_edge).delay ≡ 0
    → EdgesRead edges v 0
read_at [] q v less node now = absurd (omega (arith, less))
read_at (e ∷ es) zero v less node now = inl (sym node, sym now)
read_at (e ∷ es) (suc q) v less node now = inr (read_at es q v (omega (arith, less)) node now)

-- the edge by which the node is read
record IsReadBy (edges : List Edge) (v q : ℕ) : Type 0 where
  there : q < length edges
  node : (slice_index_or edges q no_edge).node ≡ v
  now : (slice_index_or edges q no_edge).delay ≡ 0

read_by : (edges : List Edge) (v : ℕ) → EdgesRead edges v 0 → (q : ℕ) × IsReadBy edges v q
read_by [] v h = absurd h
read_by (e ∷ es) v (inl h) = (0, record { there = omega arith; node = sym h.0; now = sym h.1 })
read_by (e ∷ es) v (inr h) =
    let rest = read_by es v h in
    (suc rest.0, record { there = omega (arith, rest.1.there); node = rest.1.node; now = rest.1.now })

module _ (d : Datapath) (a : Assigned) (rank : ℕ → ℕ)
    (falls : (c q v : ℕ) → ReadsNow a.lowered.nodes c q v → rank v < rank c) where
  abbrev count : ℕ
  count = length a.lowered.nodes

  abbrev tests : ℕ → ℕ → Bool
  tests c v = edges_test (node_of a.lowered.nodes c).edges v

  to_test : (c q v : ℕ) → ReadsNow a.lowered.nodes c q v → tests c v ≡ true
  to_test c q v r =
      edges_no (node_of a.lowered.nodes c).edges v
      (read_at (node_of a.lowered.nodes c).edges q v r.reads.port r.reads.node r.now)

  from_test : (c v : ℕ) → tests c v ≡ true → (q : ℕ) × ReadsNow a.lowered.nodes c q v
  from_test c v passes =
      let by = read_by (node_of a.lowered.nodes c).edges v (edges_yes (node_of a.lowered.nodes c).edges v passes) in
      (by.0, record { reads = record { port = by.1.there; node = by.1.node }; now = by.1.now })

  rises : (c v : ℕ) → c < count → tests c v ≡ true → rank v < rank c
  rises c v there passes = let from = from_test c v passes in falls c from.0 v from.1

  pub path_of : ℕ → ℕ
  path_of v = longest count tests (latency_of d a) rank rises v

  path_is : (v : ℕ) → v < count → path_of v ≡ latency_of d a v + greatest count (λ (c : ℕ). tests c v) path_of
  unfolding path_of
  path_is v there = longest_is count tests (latency_of d a) rank rises v there

  pub are_heights : AreHeights d a path_of
  are_heights v there = record {
    alone = omega (arith, path_is v there);
    above = λ c q r.
        let is = path_is v there in
        let reader = reader_there a.lowered.nodes c q v r.reads in
        let most = greatest_above count (λ (c : ℕ). tests c v) path_of c reader (to_test c q v r) in
        omega (arith, is, most);
    reached = by (path_is v there) (greatest_reached count (λ (c : ℕ). tests c v) path_of);
  }
    where
      by : {n : ℕ}
          → path_of v ≡ latency_of d a v + n
          → IsReached count (λ (c : ℕ). tests c v) path_of n
          → (path_of v ≡ latency_of d a v)
          ⊎ ((c : ℕ) × (q : ℕ) × ReadsNow a.lowered.nodes c q v × (path_of v ≡ latency_of d a v + path_of c))
      by is (inl e) = inl (omega (arith, is, e))
      by is (inr x) = let from = from_test x.0 v x.2 in inr (x.0, from.0, from.1, omega (arith, is, x.3))
