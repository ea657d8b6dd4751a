-- The number of a place is that of the node which is made there.
use Rattle.std.proofs.Common.{◌≡◌, ℕ, zero, suc, ◌+◌, inl, inr, Bool, true, false, cond, List, [], ◌∷◌, ◌++◌, Option}
use Rattle.std.proofs.Common.{Some, None, length, take, refl, sym, ap, subst, ◌∙◌, arith}
use Rattle.std.specs.Prelude.{ℤ, ◌==◌, if◌then◌else◌, slice_get, slice_index_or}
use Rattle.std.specs.List.{position, position_from}
use Rattle.std.proofs.lemmas.Bool.{eqb-true, eq-eqb, and_parts, and_from}
use Rattle.std.proofs.lemmas.List.{append-nil}
use Rattle.std.proofs.lemmas.Option.{none-some, same_Some}
use mathlib.Core.List.{append_assoc}
use Rattle.signal_graph.specs.Flat.{Program}
use Rattle.signal_graph.specs.GraphOf.{Made, nothing, constant, input, operation, Site, sites, Target, word_node}
use Rattle.signal_graph.specs.GraphOf.{node_at, is_target, node_sites, IsNumber}
use Rattle.flow_graph.specs.Private.Words.{number_in}
use Rattle.flow_graph.specs.Private.Nodes.{word_position, is_made_after, with_site, nodes_from, nodes_of, IsPlaceNumber}
use Rattle.flow_graph.specs.Private.Nodes.{AreNumbers}
use Rattle.flow_graph.specs.Private.NodesBy.{IsSomething}
use Rattle.flow_graph.proofs.Positions.{as_from, position_left, position_end}
use Rattle.flow_graph.proofs.NumberSteps.{grown}
use Rattle.flow_graph.proofs.FirstSites.{IsBelow, IsFrom, AreBelow, AreRising, below_more, all_below, elements_rise}
use Rattle.flow_graph.proofs.FirstSites.{nodes_are}

below_here : (t s : Site) (e k : ℕ) → IsBelow t e k → IsFrom e k s → IsBelow t s.element s.place
below_here t s e k (inl a) (inl b) = inl (omega arith)
below_here t s e k (inl a) (inr b) = inl (let same = b.0 in omega arith)
below_here t s e k (inr a) (inl b) = inl (let same = a.0 in omega arith)
below_here t s e k (inr a) (inr b) = inr (a.0 ∙ b.0, let p = a.1 in let q = b.1 in omega arith)

all_here : (ts : List Site) (s : Site) (e k : ℕ) → AreBelow ts e k → IsFrom e k s → AreBelow ts s.element s.place
all_here [] s e k h from = tt {0}
all_here (t ∷ ts) s e k h from = (below_here t s e k h.0 from, all_here ts s e k h.1 from)

all_next : (ts : List Site) (s : Site) (e k : ℕ) → AreBelow ts e k → IsFrom e k s
    → AreBelow ts s.element (s.place + 1)
all_next [] s e k h from = tt {0}
all_next (t ∷ ts) s e k h from = (below_more t s e k h.0 from, all_next ts s e k h.1 from)

with_below : (ns : List Site) (s : Site) (e k : ℕ)
    → AreBelow ns e k
    → IsFrom e k s
    → AreBelow (with_site ns s) s.element (s.place + 1)
with_below ns s e k h from = by (is_made_after ns s.made)
  where
    by : (b : Bool) → AreBelow (if b then ns ++ s ∷ [] else ns) s.element (s.place + 1)
    by true = all_below ns s e k h from
    by false = all_next ns s e k h from

-- the nodes of the places before a place are below it
before : (ns xs rest : List Site) (s : Site) (e k : ℕ)
    → AreBelow ns e k
    → AreRising e k (xs ++ s ∷ rest)
    → AreBelow (nodes_from ns xs) s.element s.place
before ns [] rest s e k h rising = all_here ns s e k h rising.0
before ns (x ∷ xs) rest s e k h rising =
    before (with_site ns x) xs rest s x.element (x.place + 1) (with_below ns x e k h rising.0) rising.1

other : (t : Site) (e k : ℕ) → IsBelow t e k → is_target (node_at e k) t ≡ false
other t e k h = by (is_target (node_at e k) t) refl
  where
    by : (b : Bool) → is_target (node_at e k) t ≡ b → is_target (node_at e k) t ≡ false
    by false is = is
    by true is =
        let parts = and_parts (t.element == e) (t.place == k) is in
        let element = eqb-true t.element e parts.0 in
        let place = eqb-true t.place k parts.1 in
        absurd (elim h [ inl a ↦ omega arith | inr a ↦ (let low = a.1 in omega arith) ])

none_before : (n : ℕ) (ns : List Site) (e k : ℕ) → AreBelow ns e k
    → position_from (is_target (node_at e k)) n ns ≡ None
none_before n [] e k h = refl
none_before n (t ∷ ts) e k h =
    ap (λ (b : Bool). cond {A = Option ℕ} b (Some n) (position_from (is_target (node_at e k)) (n + 1) ts))
    (other t e k h.0)
    ∙ none_before (n + 1) ts e k h.1

-- nodes are added behind
grows : (ns ys : List Site) → (more : List Site) × (nodes_from ns ys ≡ ns ++ more)
grows ns [] = ([], sym (append-nil ns))
grows ns (y ∷ ys) =
    let (m, h) = grows (with_site ns y) ys in
    let (more, same) = by (is_made_after ns y.made) m in
    (more, h ∙ same)
  where
    by : (b : Bool) (m : List Site) → (more : List Site) × ((if b then ns ++ y ∷ [] else ns) ++ m ≡ ns ++ more)
    by true m = (y ∷ m, append_assoc ns (y ∷ []) m)
    by false m = (m, refl)

stays : (test : Site → Bool) (ns ys : List Site) (v : ℕ)
    → position test ns ≡ Some v
    → position test (nodes_from ns ys) ≡ Some v
stays test ns ys v h =
    let (more, is) = grows ns ys in
    ap (position test) is ∙ position_left test v ns more h

nodes_append : (ns xs ys : List Site) → nodes_from ns (xs ++ ys) ≡ nodes_from (nodes_from ns xs) ys
nodes_append ns [] ys = refl
nodes_append ns (x ∷ xs) ys = nodes_append (with_site ns x) xs ys

split : (all : List Site) (i : ℕ) (s : Site)
    → slice_get all i ≡ Some s
    → (rest : List Site) × (all ≡ take i all ++ s ∷ rest)
split [] i s h = absurd (none-some s h)
split (x ∷ xs) zero s h = (xs, ap (λ (y : Site). y ∷ xs) (same_Some x s h))
split (x ∷ xs) (suc i) s h = let (rest, is) = split xs i s h in (rest, ap (λ (ys : List Site). x ∷ ys) is)

-- what is made names a node: that of its word, or one of its own
abbrev pub target_at : (e k : ℕ) → Made → Target
target_at e k (constant m) = word_node m
target_at e k _ = node_at e k

module _ (p : Program) (numbers : List ℕ) (words : List (ℤ × ℕ)) (are : AreNumbers (sites p) numbers words) where
  pub word_number : (m : ℤ) (v : ℕ) → number_in words m ≡ Some v → IsNumber p (word_node m) v
  word_number m v h = ap (word_position m) (sym (nodes_are p)) ∙ sym (are.met m) ∙ h

  module _ (i : ℕ) (s : Site) (at : slice_get (sites p) i ≡ Some s) where
    abbrev nodes : List Site
    nodes = nodes_of (take i (sites p))

    -- a test that finds its place among the nodes so far finds it among all
    among_all : (test : Site → Bool) (v : ℕ)
        → position test (with_site nodes s) ≡ Some v
        → position test (node_sites p) ≡ Some v
    among_all test v h =
        let (rest, is) = split (sites p) i s at in
        ap (position test)
        (sym (nodes_are p) ∙ ap nodes_of is ∙ nodes_append [] (take i (sites p)) (s ∷ rest))
        ∙ stays test (with_site nodes s) rest v h

    own : (made : Made)
        → s.made ≡ made
        → is_made_after nodes made ≡ true
        → position (is_target (node_at s.element s.place)) (node_sites p) ≡ Some (length nodes)
    own made is sure =
        let test = is_target (node_at s.element s.place) in
        let (rest, whole) = split (sites p) i s at in
        let rising = subst (λ (ys : List Site). AreRising 0 0 ys) whole (elements_rise p 0 p.elems) in
        let none = none_before 0 nodes s.element s.place (before [] (take i (sites p)) rest s 0 0 (tt {0}) rising) in
        let sure_here =
        and_from (s.element == s.element) (s.place == s.place) (eq-eqb s.element s.element refl)
        (eq-eqb s.place s.place refl) in
        among_all test (length nodes)
        (ap (position test) (grown nodes s made is sure)
        ∙ position_end test nodes s (as_from test nodes ∙ none) sure_here)

    by_made : (made : Made)
        → s.made ≡ made
        → IsSomething made
        → (v : ℕ)
        → IsPlaceNumber nodes s made v
        → IsNumber p (target_at s.element s.place made) v
    by_made nothing is some v h = absurd some
    by_made (constant m) is some v h = among_all (is_target (word_node m)) v h
    by_made (input j) is some v h = own (input j) is refl ∙ ap (λ (n : ℕ). Some n) (sym h)
    by_made (operation o fmt operands) is some v h =
        own (operation o fmt operands) is refl ∙ ap (λ (n : ℕ). Some n) (sym h)

    pub place_number : IsSomething s.made
        → IsNumber p (target_at s.element s.place s.made) (slice_index_or numbers i 0)
    place_number some = by_made s.made refl some (slice_index_or numbers i 0) (are.places i s at)
