-- Tests of what is read without a delay.
use Rattle.std.proofs.Common.{◌≡◌, sym, ℕ, Bool, true, false, ◌&&◌, ◌||◌, ◌⊎◌, inl, inr, List, [], ◌∷◌}
use Rattle.std.specs.Prelude.{◌==◌}
use Rattle.std.proofs.lemmas.Bool.{eqb-true, eq-eqb, and_from as both}
use Rattle.lists.proofs.Bools.{both_true as both_cases}
use Rattle.recurrences.proofs.Bools.{either, or_cases}
use Rattle.signal_graph.specs.declared.graph.Edge.{Edge}
use Rattle.signal_graph.specs.Flat.{Expr, raw, read, calculation, Parts, no_part, part, Body, word, value}
use Rattle.signal_graph.specs.Values.{Reads, PartsRead, BodyReads, EdgesRead}

-- e is d, and the delay is 0
abbrev is_now : (d ago e : ℕ) → Bool
is_now d ago e = (e == d) && (ago == 0)

now_yes : (d ago e : ℕ) → is_now d ago e ≡ true → (e ≡ d) × (0 ≡ ago)
now_yes d ago e h = let parts = both_cases (e == d) (ago == 0) h in (eqb-true e d parts.0, sym (eqb-true ago 0 parts.1))

now_no : (d ago e : ℕ) → (e ≡ d) × (0 ≡ ago) → is_now d ago e ≡ true
now_no d ago e h = both (e == d) (ago == 0) (eq-eqb e d h.0) (eq-eqb ago 0 (sym h.1))

abbrev mutual
  pub test : Expr → ℕ → Bool
  test (raw m) e = false
  test (read d ago) e = is_now d ago e
  test (calculation o fmt parts) e = parts_test parts e

  pub parts_test : Parts → ℕ → Bool
  parts_test no_part e = false
  parts_test (part x rest) e = test x e || parts_test rest e

mutual
  yes_now : (x : Expr) (e : ℕ) → test x e ≡ true → Reads x e 0
  yes_now (raw m) e h = absurd (let h' : false ≡ true = h in cc)
  yes_now (read d ago) e h = now_yes d ago e h
  yes_now (calculation o fmt parts) e h = parts_yes parts e h

  parts_yes : (parts : Parts) (e : ℕ) → parts_test parts e ≡ true → PartsRead parts e 0
  parts_yes no_part e h = absurd (let h' : false ≡ true = h in cc)
  parts_yes (part x rest) e h =
      by (or_cases (test x e) (parts_test rest e) h) (λ k. yes_now x e k) (λ k. parts_yes rest e k)
    where
      by : (test x e ≡ true) ⊎ (parts_test rest e ≡ true)
          → (test x e ≡ true → Reads x e 0)
          → (parts_test rest e ≡ true → PartsRead rest e 0)
          → PartsRead (part x rest) e 0
      by (inl k) f g = inl (f k)
      by (inr k) f g = inr (g k)

mutual
  no_now : (x : Expr) (e : ℕ) → Reads x e 0 → test x e ≡ true
  no_now (raw m) e h = absurd h
  no_now (read d ago) e h = now_no d ago e h
  no_now (calculation o fmt parts) e h = parts_no parts e h

  parts_no : (parts : Parts) (e : ℕ) → PartsRead parts e 0 → parts_test parts e ≡ true
  parts_no no_part e h = absurd h
  parts_no (part x rest) e (inl h) = either (test x e) (parts_test rest e) (inl (no_now x e h))
  parts_no (part x rest) e (inr h) = either (test x e) (parts_test rest e) (inr (parts_no rest e h))

abbrev pub body_test : Body → ℕ → Bool
body_test (word j) e = false
body_test (value x) e = test x e

pub body_yes : (body : Body) (e : ℕ) → body_test body e ≡ true → BodyReads body e 0
body_yes (word j) e h = absurd (let h' : false ≡ true = h in cc)
body_yes (value x) e h = yes_now x e h

pub body_no : (body : Body) (e : ℕ) → BodyReads body e 0 → body_test body e ≡ true
body_no (word j) e h = absurd h
body_no (value x) e h = no_now x e h

abbrev pub edges_test : List Edge → ℕ → Bool
edges_test [] v = false
edges_test (edge ∷ rest) v = is_now edge.node edge.delay v || edges_test rest v

pub edges_yes : (edges : List Edge) (v : ℕ) → edges_test edges v ≡ true → EdgesRead edges v 0
edges_yes [] v h = absurd (let h' : false ≡ true = h in cc)
edges_yes (edge ∷ rest) v h =
    by (or_cases (is_now edge.node edge.delay v) (edges_test rest v) h) (λ k. edges_yes rest v k)
  where
    by : (is_now edge.node edge.delay v ≡ true) ⊎ (edges_test rest v ≡ true)
        → (edges_test rest v ≡ true → EdgesRead rest v 0)
        → EdgesRead (edge ∷ rest) v 0
    by (inl k) f = inl (now_yes edge.node edge.delay v k)
    by (inr k) f = inr (f k)

pub edges_no : (edges : List Edge) (v : ℕ) → EdgesRead edges v 0 → edges_test edges v ≡ true
edges_no [] v h = absurd h
edges_no (edge ∷ rest) v (inl h) =
    either (is_now edge.node edge.delay v) (edges_test rest v) (inl (now_no edge.node edge.delay v h))
edges_no (edge ∷ rest) v (inr h) = either (is_now edge.node edge.delay v) (edges_test rest v) (inr (edges_no rest v h))
