-- The nodes that are kept, with new numbers, are the pruned graph.
use Rattle.std.proofs.Common.{◌≡◌, ◌∙◌, refl, sym, ap, subst, arith, ℕ, zero, suc, ◌+◌, ◌<◌, inl, inr, List, [], ◌∷◌}
use Rattle.std.proofs.Common.{map, length, Bool, true, false, cond, not, Some, None, eq-eqb, ne_eqb, lt-ltb}
use Rattle.std.specs.Prelude.{◌==◌, slice_index_or, Contains, position, if◌then◌else◌}
use Rattle.std.specs.List.{AllZip, AllPairs, position_or_len}
use Rattle.std.proofs.lemmas.List.Elements.{Contains-get_or}
use Rattle.std.proofs.lemmas.List.Kept.{AllPairs-cons}
use Rattle.signal_graph.specs.GraphSolves.{node_of}
use Rattle.signal_graph.specs.Values.{EdgesRead}
use Rattle.signal_graph.specs.Pruned.{IsUsed, read, AreUsed, IsEdgeOf, IsRenumbered, IsPruned}
use Rattle.signal_graph.specs.declared.graph.Edge.{Edge}
use Rattle.signal_graph.specs.declared.graph.Node.{Node}
use Rattle.signal_graph.specs.declared.graph.Graph.{Graph}
use Rattle.flow_graph.specs.Private.Pruning.{is_marked, AreUsedMarks, numbers_from, kept_from, renumbered_edge}
use Rattle.flow_graph.specs.Private.Pruning.{renumbered, kept_nodes}

pub numbers_count : (n : ℕ) (marks : List Bool) → length (numbers_from n marks) ≡ length marks
numbers_count n [] = refl
numbers_count n (mark ∷ rest) = ap (λ (k : ℕ). suc k) (numbers_count (if mark then n + 1 else n) rest)

later : (x v : ℕ) (xs : List ℕ) → Contains xs v → Contains (x ∷ xs) v
later x v xs c = (suc c.0, omega (arith, c.1), c.2)

-- a place that is kept is that of a mark
record IsMarkedPlace (k : ℕ) (marks : List Bool) (w : ℕ) : Type 0 where
  pub place : ℕ
  pub at : w ≡ k + place
  pub marked : is_marked marks place ≡ true

next_place : (k : ℕ) (mark : Bool) (rest : List Bool) (w : ℕ)
    → IsMarkedPlace (k + 1) rest w
    → IsMarkedPlace k (mark ∷ rest) w
next_place k mark rest w h = record { place = suc h.place; at = omega (arith, h.at); marked = h.marked }

kept_marked : (k : ℕ) (marks : List Bool) (w : ℕ) → Contains (kept_from k marks) w → IsMarkedPlace k marks w
kept_marked k [] w c = absurd (let lt = c.1 in omega arith)
kept_marked k (true ∷ rest) w (zero, lt, h) = record { place = 0; at = omega (arith, h); marked = refl }
kept_marked k (true ∷ rest) w (suc i, lt, h) =
    next_place k true rest w (kept_marked (k + 1) rest w (i, omega arith, h))
kept_marked k (false ∷ rest) w c = next_place k false rest w (kept_marked (k + 1) rest w c)

marked_kept : (k : ℕ) (marks : List Bool) (v t : ℕ)
    → k + v ≡ t
    → is_marked marks v ≡ true
    → Contains (kept_from k marks) t
marked_kept k [] v t is h = absurd (let no : false ≡ true = h in cc)
marked_kept k (true ∷ rest) zero t is h = (0, omega arith, omega arith)
marked_kept k (false ∷ rest) zero t is h = absurd (let no : false ≡ true = h in cc)
marked_kept k (true ∷ rest) (suc v) t is h =
    later k t (kept_from (k + 1) rest) (marked_kept (k + 1) rest v t (omega arith) h)
marked_kept k (false ∷ rest) (suc v) t is h = marked_kept (k + 1) rest v t (omega arith) h

rises : (k : ℕ) (marks : List Bool) → AllPairs (λ (a b : ℕ). a < b) (kept_from k marks)
rises k [] = λ i j d lt inside. absurd (omega arith)
rises k (true ∷ rest) =
    AllPairs-cons (λ (a b : ℕ). a < b) k (kept_from (k + 1) rest)
    (λ i d lt.
    let at = kept_marked (k + 1) rest (slice_index_or (kept_from (k + 1) rest) i d)
    (Contains-get_or (kept_from (k + 1) rest) i d lt) in
    omega (arith, at.at))
    (rises (k + 1) rest)
rises k (false ∷ rest) = rises (k + 1) rest

-- the number of a marked node is its place among those that are kept
record IsPlace (n : ℕ) (numbers kept : List ℕ) (v t : ℕ) : Type 0 where
  pub number : slice_index_or numbers v 0 ≡ n + position_or_len (λ (w : ℕ). w == t) kept
  pub inside : position_or_len (λ (w : ℕ). w == t) kept < length kept

at_first : (n k t : ℕ) (numbers kept : List ℕ) → (k == t) ≡ true → IsPlace n (n ∷ numbers) (k ∷ kept) 0 t
at_first n k t numbers kept is =
    let here : position_or_len (λ (w : ℕ). w == t) (k ∷ kept) ≡ 0 =
    ap (λ (b : Bool). cond (not b) (1 + position_or_len (λ (w : ℕ). w == t) kept) 0) is in
    record { number = omega (arith, here); inside = omega (arith, here) }

at_later : (n k t v m : ℕ) (numbers kept : List ℕ)
    → (k == t) ≡ false
    → m ≡ n + 1
    → IsPlace m numbers kept v t
    → IsPlace n (n ∷ numbers) (k ∷ kept) (suc v) t
at_later n k t v m numbers kept is more h =
    let here : position_or_len (λ (w : ℕ). w == t) (k ∷ kept) ≡ 1 + position_or_len (λ (w : ℕ). w == t) kept =
    ap (λ (b : Bool). cond (not b) (1 + position_or_len (λ (w : ℕ). w == t) kept) 0) is in
    record { number = omega (arith, h.number, here, more); inside = omega (arith, h.inside, here) }

place : (n k : ℕ) (marks : List Bool) (v t : ℕ)
    → k + v ≡ t
    → is_marked marks v ≡ true
    → IsPlace n (numbers_from n marks) (kept_from k marks) v t
place n k [] v t is h = absurd (let no : false ≡ true = h in cc)
place n k (true ∷ rest) zero t is h =
    at_first n k t (numbers_from (n + 1) rest) (kept_from (k + 1) rest) (eq-eqb k t (omega arith))
place n k (false ∷ rest) zero t is h = absurd (let no : false ≡ true = h in cc)
place n k (true ∷ rest) (suc v) t is h =
    at_later n k t v (n + 1) (numbers_from (n + 1) rest) (kept_from (k + 1) rest) (ne_eqb k t (λ e. omega arith)) refl
    (place (n + 1) (k + 1) rest v t (omega arith) h)
place n k (false ∷ rest) (suc v) t is h =
    let at = place n (k + 1) rest v t (omega arith) h in
    record { number = at.number; inside = at.inside }

number_is : (marks : List Bool) (v : ℕ)
    → is_marked marks v ≡ true
    → position (λ (w : ℕ). w == v) (kept_from 0 marks) ≡ Some (slice_index_or (numbers_from 0 marks) v 0)
number_is marks v h =
    let kept = kept_from 0 marks in
    let at = place 0 0 marks v v (omega arith) h in
    let p = position_or_len (λ (w : ℕ). w == v) kept in
    let same : p ≡ slice_index_or (numbers_from 0 marks) v 0 = omega (arith, at.number) in
    ap (λ (b : Bool). cond b (Some p) None) (lt-ltb p (length kept) at.inside) ∙ ap (λ (x : ℕ). Some x) same

module _ (g : Graph) (marks : List Bool) (are : AreUsedMarks g marks) where
  abbrev kept : List ℕ
  kept = kept_from 0 marks

  abbrev numbers : List ℕ
  numbers = numbers_from 0 marks

  only_used : (v : ℕ) → Contains kept v → IsUsed g v
  only_used v c =
      let m = kept_marked 0 marks v c in
      let at : m.place ≡ v = omega (arith, m.at) in
      (are.used v).0 (ap (is_marked marks) (sym at) ∙ m.marked)

  are_used : AreUsed g kept
  are_used = record {
    rise = λ i lt. rises 0 marks i (i + 1) 0 (omega arith) lt;
    used = λ v. (only_used v, λ u. marked_kept 0 marks v v (omega arith) ((are.used v).1 u));
  }

  edges_are : (edges : List Edge)
      → ((u ago : ℕ) → EdgesRead edges u ago → IsUsed g u)
      → AllZip (IsEdgeOf kept) (map (renumbered_edge numbers) edges) edges
  edges_are [] all = tt
  edges_are (e ∷ es) all = (
    record {
      node = number_is marks e.node ((are.used e.node).1 (all e.node e.delay (inl (refl, refl))));
      delay = refl;
    },
    edges_are es (λ u ago r. all u ago (inr r)),
  )

  nodes_are : (vs : List ℕ)
      → ((v : ℕ) → Contains vs v → IsUsed g v)
      → AllZip (IsRenumbered kept) (map (renumbered numbers) (map (node_of g) vs)) (map (node_of g) vs)
  nodes_are [] all = tt
  nodes_are (v ∷ vs) all = (
    record {
      edges = edges_are (node_of g v).edges (λ u ago r. read ago (all v (0, omega arith, refl)) r);
      node = refl;
    },
    nodes_are vs (λ w c. all w (later v w vs c)),
  )

  -- the graph of the nodes that are kept
  pub is_pruned : (new_numbers : List ℕ)
      → new_numbers ≡ numbers
      → (pruned : Graph)
      → pruned.nodes ≡ kept_nodes g new_numbers marks
      → pruned.inputs ≡ g.inputs
      → pruned.outs ≡ g.outs
      → IsPruned g pruned
  is_pruned new_numbers same pruned nodes inputs outs = record {
    kept = kept;
    used = are_used;
    inputs = inputs;
    outs = outs;
    nodes = subst (λ (ns : List Node). AllZip (IsRenumbered kept) ns (map (node_of g) kept))
        (sym (nodes ∙ ap (λ (ns : List ℕ). kept_nodes g ns marks) same)) (nodes_are kept only_used);
  }
