-- The graph of a flat program without a delay-free loop has none.
use Rattle.std.proofs.Common.{◌≡◌, refl, sym, subst, ap, ◌∙◌, arith, ℕ, ◌+◌, ◌-◌, ◌*◌, ◌<◌, ◌≤◌, ◌⊎◌, inl, inr, List}
use Rattle.std.proofs.Common.{[], ◌∷◌, length}
use Rattle.std.specs.Prelude.{slice_get, slice_index_or, sum_by, All, Option, Some, None, ◌==◌}
use Rattle.std.specs.List.{AllZip}
use Rattle.std.proofs.lemmas.Bool.{cases_lt, eqb-true, and_parts}
use Rattle.std.proofs.lemmas.Option.{slice_get-get_or, slice_get_within, slice_get_past}
use Rattle.std.proofs.lemmas.List.Elements.{All-head, All-tail}
use Rattle.std.proofs.lemmas.List.Sums.{get_or-le-sum_by}
use Rattle.recurrences.proofs.Determined.{HasHeights}
use Rattle.recurrences.proofs.Exists.{room}
use Rattle.recurrences.proofs.Heights.{no_loop}
use Rattle.signal_graph.specs.Rules.{width_of}
use Rattle.signal_graph.specs.Flat.{Body, Element, Program, size_of_body}
use Rattle.signal_graph.specs.FlatRules.{IsFlat}
use Rattle.signal_graph.specs.FlatSolves.{no_element, element_of, ElementReads, flat_system, IsFlatLoopless}
use Rattle.signal_graph.specs.GraphSolves.{node_of, HasEdge, graph_system, IsGraphLoopless}
use Rattle.signal_graph.specs.Values.{BodyReads, EdgesRead}
use Rattle.signal_graph.specs.declared.graph.Edge.{Edge}
use Rattle.signal_graph.specs.declared.graph.Node.{Node}
use Rattle.signal_graph.specs.declared.graph.Graph.{Graph}
use Rattle.signal_graph.specs.GraphOf.{Operand, number, place, element, Made, nothing, constant, input, operation, Site}
use Rattle.signal_graph.specs.GraphOf.{node_sites, Target, word_node, node_at, is_target, IsNumber, IsNodeOf}
use Rattle.signal_graph.specs.GraphOf.{input_node, pass_node, own_node, word_alias, read_alias, IsEdgeTo, IsMade}
use Rattle.signal_graph.specs.GraphOf.{IsOutputOf, IsGraphOf}
use Rattle.signal_graph.proofs.OneSolution.{flat_determined, flat_heights, graph_determined}
use Rattle.signal_graph.proofs.Members.{at_position}
use Rattle.signal_graph.proofs.Places.{made_of, IsPlace}
use Rattle.signal_graph.proofs.Numbers.{no_site, node_is_place, word_at}
use Rattle.signal_graph.proofs.Below.{IsBefore, AreBefore, all_before}
use Rattle.signal_graph.proofs.GraphSound.{body_size, edge_below, graph_is_sound}

-- an edge to a node is one of those to the operands
record IsReadAt (R : Operand → Edge → Type 0) (P : Operand → Type 0) (u ago : ℕ) : Type 0 where
  pub operand : Operand
  pub edge : Edge
  pub fits : P operand
  pub to : R operand edge
  pub node : u ≡ edge.node
  pub delay : ago ≡ edge.delay

read_at : (R : Operand → Edge → Type 0) (P : Operand → Type 0) (os : List Operand) (edges : List Edge) (u ago : ℕ)
    → All P os
    → AllZip R os edges
    → EdgesRead edges u ago
    → IsReadAt R P u ago
read_at R P [] [] u ago fits all r = absurd r
read_at R P [] (edge ∷ edges) u ago fits all r = absurd all
read_at R P (o ∷ os) [] u ago fits all r = absurd all
read_at R P (o ∷ os) (edge ∷ edges) u ago fits all (inl r) =
    record { operand = o; edge = edge; fits = All-head P o os fits; to = all.0; node = r.0; delay = r.1 }
read_at R P (o ∷ os) (edge ∷ edges) u ago fits all (inr r) = read_at R P os edges u ago (All-tail P o os fits) all.1 r

module _ (p : Program) (sound : IsFlat p) (loopless : IsFlatLoopless p) where
  heights : HasHeights (flat_system p [])
  heights = flat_heights p sound [] loopless

  -- more than the places of any element
  abbrev room_of_element : ℕ
  room_of_element = sum_by (λ (x : Element). size_of_body x.body) p.elems + 2

  abbrev base : ℕ → ℕ
  base e = heights.height e * room_of_element

  -- constants lie lowest; the nodes of an element lie by their places, above those of the elements that it reads
  abbrev site_height : ℕ → ℕ → Made → ℕ
  site_height e k nothing = 0
  site_height e k (constant m) = 0
  site_height e k (input j) = 1 + base e + k
  site_height e k (operation o fmt os) = 1 + base e + k

  -- and outputs highest
  abbrev height_at : Option Site → ℕ
  height_at None = 1 + heights.top * room_of_element
  height_at (Some s) = site_height s.element s.place s.made

  abbrev node_height : ℕ → ℕ
  node_height v = height_at (slice_get (node_sites p) v)

  site_most : (e k : ℕ) (m : Made) → site_height e k m ≤ 1 + base e + k
  site_most e k nothing = omega arith
  site_most e k (constant m) = omega arith
  site_most e k (input j) = omega arith
  site_most e k (operation o fmt os) = omega arith

  place_less : (s : Site) → IsPlace p s → s.place < room_of_element
  place_less s is =
      let e = s.element in
      let x = element_of p e in
      omega (
        arith,
        slice_get_within (made_of p e) s.place s.made is.made,
        body_size p e (width_of x.ty) x.body,
        get_or-le-sum_by (λ (y : Element). size_of_body y.body) p.elems e no_element is.element,
      )

  -- the node at place k of element e
  place_height : (e k v : ℕ)
      → IsNumber p (node_at e k) v
      → (node_height v ≤ 1 + base e + k) × (k < room_of_element) × (e < length p.elems)
  place_height e k v h =
      let (s, at, is) = at_position (is_target (node_at e k)) (node_sites p) v no_site h in
      let parts = and_parts (s.element == e) (s.place == k) is in
      let element = eqb-true s.element e parts.0 in
      let place = eqb-true s.place k parts.1 in
      let there = node_is_place p v s at in
      let most : node_height v ≤ 1 + base s.element + s.place =
      subst (λ (o : Option Site). height_at o ≤ 1 + base s.element + s.place) (sym at)
      (site_most s.element s.place s.made) in (
        subst (λ (i : ℕ). node_height v ≤ 1 + base i + k) element
            (subst (λ (i : ℕ). node_height v ≤ 1 + base s.element + i) place most),
        subst (λ (i : ℕ). i < room_of_element) place (place_less s there),
        subst (λ (i : ℕ). i < length p.elems) element there.element,
      )

  word_height : (m : _) (v : ℕ) → IsNumber p (word_node m) v → node_height v ≡ 0
  word_height m v h =
      let (s, at, same) = word_at p m v h in
      ap height_at at ∙ ap (λ (made : Made). site_height s.element s.place made) same

  -- the node of an element lies below all of those that read it now
  element_height : (d : ℕ) (t : Target) (v : ℕ)
      → d < length p.elems
      → IsNodeOf p d t
      → IsNumber p t v
      → node_height v ≤ base d + room_of_element
  element_height d t v el (input_node h) rank = let most = place_height d 0 v rank in omega (arith, most.0, most.1)
  element_height d t v el (pass_node h passes) rank =
      let most = place_height d _ v rank in omega (arith, most.0, most.1)
  element_height d t v el (own_node h) rank = let most = place_height d _ v rank in omega (arith, most.0, most.1)
  element_height d t v el (word_alias {m = m} a) rank = omega (arith, word_height m v rank)
  element_height d t v el (read_alias {d = c} a q) rank =
      let r : ElementReads p d c 0 = subst (λ (b : Body). BodyReads b c 0) (sym a.body) (refl, refl) in
      let there = (flat_determined p sound []).elements d c 0 el r in
      omega (
        arith,
        element_height c t v there q rank,
        room (heights.height c) (heights.height d) room_of_element (heights.falls d c el r),
      )

  edge_lower : (e k : ℕ)
      → e < length p.elems
      → (o : Operand) (edge : Edge)
      → IsBefore (ElementReads p e) k o
      → IsEdgeTo p e o edge
      → edge.delay ≡ 0
      → node_height edge.node < 1 + base e + k
  edge_lower e k el (number m) edge before to now = omega (arith, word_height m edge.node to.0)
  edge_lower e k el (place l) edge before to now = let most = place_height e l edge.node to.0 in omega (arith, most.0)
  edge_lower e k el (element d ago) edge before (t, node, rank, delay) now =
      let none : ago ≡ 0 = omega arith in
      let r = subst (λ (i : ℕ). ElementReads p e d i) none before in
      let there = (flat_determined p sound []).elements e d 0 el r in
      omega (
        arith,
        element_height d t edge.node there node rank,
        room (heights.height d) (heights.height e) room_of_element (heights.falls e d el r),
      )

  module _ (g : Graph) (is : IsGraphOf p g) where
    made_falls : (s : Site) (made : Made) (node : Node) (u : ℕ)
        → s.element < length p.elems
        → AreBefore (ElementReads p s.element) s.place made
        → IsMade p s made node
        → EdgesRead node.edges u 0
        → node_height u < site_height s.element s.place made
    made_falls s nothing node u el before is_made r = absurd is_made
    made_falls s (constant m) node u el before is_made r =
        absurd (subst (λ (x : Node). EdgesRead x.edges u 0) is_made.1 r)
    made_falls s (input j) node u el before is_made r = absurd (subst (λ (x : Node). EdgesRead x.edges u 0) is_made r)
    made_falls s (operation o fmt os) node u el before is_made r =
        let at =
        read_at (IsEdgeTo p s.element) (IsBefore (ElementReads p s.element) s.place) os node.edges u 0 before is_made.0
        r in
        subst (λ (i : ℕ). node_height i < 1 + base s.element + s.place) (sym at.node)
        (edge_lower s.element s.place el at.operand at.edge at.fits at.to (sym at.delay))

    output_falls : (j e : ℕ) (node : Node) (u : ℕ)
        → IsOutputOf p g j e node
        → EdgesRead node.edges u 0
        → node_height u < 1 + heights.top * room_of_element
    output_falls j e node u (edge, to, same) r = by (subst (λ (x : Node). EdgesRead x.edges u 0) same r)
      where
        below : node_height edge.node < 1 + heights.top * room_of_element
        below =
            site_below (slice_index_or (node_sites p) edge.node no_site)
            (slice_get-get_or (node_sites p) edge.node no_site (edge_below p e (element e 0) edge to))
          where
            site_below : (s : Site)
                → slice_get (node_sites p) edge.node ≡ Some s
                → node_height edge.node < 1 + heights.top * room_of_element
            site_below s at =
                let there = node_is_place p edge.node s at in
                omega (
                  arith,
                  ap height_at at,
                  site_most s.element s.place s.made,
                  place_less s there,
                  room (heights.height s.element) heights.top room_of_element (heights.below s.element there.element),
                )

        by : EdgesRead (edge ∷ []) u 0 → node_height u < 1 + heights.top * room_of_element
        by (inl h) = subst (λ (i : ℕ). node_height i < 1 + heights.top * room_of_element) (sym h.0) below
        by (inr h) = absurd h

    falls : (v u : ℕ) → v < length g.nodes → HasEdge g v u 0 → node_height u < node_height v
    falls v u lt r = by (cases_lt v (length (node_sites p)))
      where
        by : (v < length (node_sites p)) ⊎ (length (node_sites p) ≤ v) → node_height u < node_height v
        by (inl below) =
            let s = slice_index_or (node_sites p) v no_site in
            let at = slice_get-get_or (node_sites p) v no_site below in
            let there = node_is_place p v s at in
            subst (λ (o : Option Site). node_height u < height_at o) (sym at)
            (made_falls s s.made (node_of g v) u there.element (all_before p s.element s.place s.made there.made)
            (is.made v s at) r)
        by (inr above) =
            let j = v - length (node_sites p) in
            let inside : j < length p.outs = omega (arith, is.count) in
            let back : length (node_sites p) + j ≡ v = omega arith in
            let e = slice_index_or p.outs j 0 in
            let output =
            subst (λ (i : ℕ). IsOutputOf p g j e (node_of g i)) back
            (is.outputs j e (slice_get-get_or p.outs j 0 inside)) in
            subst (λ (o : Option Site). node_height u < height_at o) (sym (slice_get_past (node_sites p) v above))
            (output_falls j e (node_of g v) u output r)

    below_top : (o : Option Site)
        → ((s : Site) → o ≡ Some s → IsPlace p s)
        → height_at o < 2 + heights.top * room_of_element
    below_top None are = omega arith
    below_top (Some s) are =
        let there = are s refl in
        omega (
          arith,
          site_most s.element s.place s.made,
          place_less s there,
          room (heights.height s.element) heights.top room_of_element (heights.below s.element there.element),
        )

    pub node_heights : HasHeights (graph_system g [])
    node_heights = record {
      height = node_height;
      top = 2 + heights.top * room_of_element;
      falls = λ v u lt r. falls v u lt r;
      below = λ v lt. below_top (slice_get (node_sites p) v) (λ s at. node_is_place p v s at);
    }

    pub graph_is_loopless : IsGraphLoopless g
    graph_is_loopless =
        no_loop (graph_system g []) (graph_determined g (graph_is_sound p g is sound) []) node_heights
