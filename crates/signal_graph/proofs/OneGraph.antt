-- A flat program has one graph at most.
use Rattle.std.proofs.Common.{◌≡◌, refl, sym, subst, ap, ◌∙◌, arith, ℕ, ◌+◌, ◌-◌, ◌<◌, ◌≤◌, ◌⊎◌, inl, inr, Bool, true}
use Rattle.std.proofs.Common.{false, List, [], ◌∷◌, length}
use Rattle.std.specs.Prelude.{ℤ, pos, slice_index_or, position}
use Rattle.std.specs.List.{AllZip}
use Rattle.std.proofs.lemmas.Bool.{cases_lt}
use Rattle.std.proofs.lemmas.Option.{slice_get-get_or}
use Rattle.std.proofs.lemmas.List.{ext_get_or}
use Rattle.std.proofs.lemmas.List.Quantifiers.{position-Some}
use Rattle.fix_word.specs.declared.operation.Op.{Op}
use Rattle.fix_word.specs.declared.operation.Op.TheVariants as op
use Rattle.fix_word.specs.declared.types.Format.{Format}
use Rattle.signal_graph.specs.Operations.{class_of}
use Rattle.signal_graph.specs.Rules.{plain}
use Rattle.signal_graph.specs.declared.graph.Edge.{Edge}
use Rattle.signal_graph.specs.declared.graph.Node.{Node}
use Rattle.signal_graph.specs.declared.graph.Graph.{Graph}
use Rattle.signal_graph.specs.Flat.{Expr, raw, read, calculation, Body, word, value, Program, size}
use Rattle.signal_graph.specs.FlatSolves.{element_of}
use Rattle.signal_graph.specs.GraphSolves.{no_node, node_of}
use Rattle.signal_graph.proofs.Same.{some_once, same_edge, same_graph}
use Rattle.signal_graph.specs.GraphOf.{Operand, number, place, element, Made, nothing, constant, input, operation, Site}
use Rattle.signal_graph.specs.GraphOf.{node_sites, Target, word_node, node_at, has_pass, IsNumber, IsNodeOf, input_node}
use Rattle.signal_graph.specs.GraphOf.{pass_node, own_node, word_alias, read_alias, IsEdgeTo, IsLeastWidth, node_format}
use Rattle.signal_graph.specs.GraphOf.{node_width, inits_at, IsMade, IsOutputOf, IsGraphOf}

abbrev no_site : Site
no_site = record { element = 0; place = 0; made = nothing }

module _ (p : Program) where
  -- what the node of an element can be, by its body
  abbrev ByValue : ℕ → Expr → Bool → Target → Type 0
  ByValue e x true t = t ≡ node_at e (size x)
  ByValue e (raw m) false t = t ≡ word_node m
  ByValue e (read d ago) false t = IsNodeOf p d t
  ByValue e (calculation o fmt parts) false t = t ≡ node_at e (size (calculation o fmt parts) - 1)

  abbrev ByBody : ℕ → Body → Target → Type 0
  ByBody e (word j) t = t ≡ node_at e 0
  ByBody e (value x) t = ByValue e x (has_pass p e x) t

  by_body : (e : ℕ) (t : Target) (b : Body) → IsNodeOf p e t → (element_of p e).body ≡ b → ByBody e b t
  by_body e t b (input_node h) is = subst (λ (c : Body). ByBody e c t) (sym h ∙ is) refl
  by_body e t b (pass_node {x = x} h pass) is =
      subst (λ (c : Body). ByBody e c t) (sym h ∙ is) (subst (λ (z : Bool). ByValue e x z t) (sym pass) refl)
  by_body e t b (own_node h) is = subst (λ (c : Body). ByBody e c t) (sym h ∙ is) refl
  by_body e t b (word_alias {m = m} a) is =
      subst (λ (c : Body). ByBody e c t) (sym a.body ∙ is)
      (subst (λ (z : Bool). ByValue e (raw m) z t) (sym a.pass) refl)
  by_body e t b (read_alias {d = d} a q) is =
      subst (λ (c : Body). ByBody e c t) (sym a.body ∙ is)
      (subst (λ (z : Bool). ByValue e (read d 0) z t) (sym a.pass) q)

  pub node_once : (e : ℕ) (t u : Target) → IsNodeOf p e t → IsNodeOf p e u → t ≡ u
  node_once e t u (input_node {j = j} h) q = sym (by_body e u (word j) q h)
  node_once e t u (pass_node {x = x} h pass) q =
      sym (subst (λ (z : Bool). ByValue e x z u) pass (by_body e u (value x) q h))
  node_once e t u (own_node {o = o} {fmt = fmt} {parts = parts} h) q =
      sym (by_body e u (value (calculation o fmt parts)) q h)
  node_once e t u (word_alias {m = m} a) q =
      sym (subst (λ (z : Bool). ByValue e (raw m) z u) a.pass (by_body e u (value (raw m)) q a.body))
  node_once e t u (read_alias {d = d} a r) q =
      node_once d t u r
      (subst (λ (z : Bool). ByValue e (read d 0) z u) a.pass (by_body e u (value (read d 0)) q a.body))

  pub number_once : (t : Target) (v w : ℕ) → IsNumber p t v → IsNumber p t w → v ≡ w
  number_once t v w = some_once (position _ (node_sites p)) v w

  edge_once : (e : ℕ) (o : Operand) (a b : Edge) → IsEdgeTo p e o a → IsEdgeTo p e o b → a ≡ b
  edge_once e (number m) a b x y = same_edge a b (number_once (word_node m) a.node b.node x.0 y.0) (x.1 ∙ sym y.1)
  edge_once e (place k) a b x y = same_edge a b (number_once (node_at e k) a.node b.node x.0 y.0) (x.1 ∙ sym y.1)
  edge_once e (element d ago) a b (t, r, v, k) (u, q, w, l) =
      let same = node_once d t u r q in
      same_edge a b (number_once u a.node b.node (subst (λ (z : Target). IsNumber p z a.node) same v) w) (k ∙ sym l)

  edges_once : (e : ℕ) (os : List Operand) (xs ys : List Edge)
      → AllZip (IsEdgeTo p e) os xs
      → AllZip (IsEdgeTo p e) os ys
      → xs ≡ ys
  edges_once e [] [] [] h k = refl
  edges_once e [] (x ∷ xs) ys h k = absurd h
  edges_once e [] [] (y ∷ ys) h k = absurd k
  edges_once e (o ∷ os) [] ys h k = absurd h
  edges_once e (o ∷ os) (x ∷ xs) [] h k = absurd k
  edges_once e (o ∷ os) (x ∷ xs) (y ∷ ys) h k =
      let first = edge_once e o x y h.0 k.0 in
      let rest = edges_once e os xs ys h.1 k.1 in
      ap (λ (z : Edge). z ∷ xs) first ∙ ap (λ (zs : List Edge). y ∷ zs) rest

  width_once : (m : ℤ) (v w : ℕ) → IsLeastWidth m v → IsLeastWidth m w → v ≡ w
  width_once m v w a b = omega (arith, a.least w b.bits b.holds, b.least v a.bits a.holds)

  abbrev constant_of : ℤ → ℕ → Node
  constant_of m w = record { op = op.Const; fmt = plain 0; arg = m; edges = []; inits = []; width = w; ram = 0 }

  abbrev operation_of : Site → Op → Format → List Edge → Node
  operation_of s o fmt edges = record {
    op = o;
    fmt = node_format (class_of o) fmt;
    arg = pos 0;
    edges = edges;
    inits = inits_at p s;
    width = node_width (class_of o) fmt;
    ram = 0;
  }

  made_once : (s : Site) (m : Made) (a b : Node) → IsMade p s m a → IsMade p s m b → a ≡ b
  made_once s nothing a b x y = absurd x
  made_once s (constant m) a b x y = x.1 ∙ ap (constant_of m) (width_once m a.width b.width x.0 y.0) ∙ sym y.1
  made_once s (input j) a b x y = x ∙ sym y
  made_once s (operation o fmt os) a b x y =
      x.1 ∙ ap (operation_of s o fmt) (edges_once s.element os a.edges b.edges x.0 y.0) ∙ sym y.1

  abbrev output_of : ℕ → Edge → ℕ → Node
  output_of j edge w =
      record { op = op.Output; fmt = plain 0; arg = pos j; edges = edge ∷ []; inits = []; width = w; ram = 0 }

  module _ (g h : Graph) (is_g : IsGraphOf p g) (is_h : IsGraphOf p h) where
    made_same : (v : ℕ) → v < length (node_sites p) → node_of g v ≡ node_of h v
    made_same v lt =
        let s = slice_index_or (node_sites p) v no_site in
        let there = slice_get-get_or (node_sites p) v no_site lt in
        made_once s s.made (node_of g v) (node_of h v) (is_g.made v s there) (is_h.made v s there)

    number_below : (e : ℕ) (o : Operand) (edge : Edge) → IsEdgeTo p e o edge → edge.node < length (node_sites p)
    number_below e (number m) edge x = (position-Some _ (node_sites p) edge.node no_site x.0).0
    number_below e (place k) edge x = (position-Some _ (node_sites p) edge.node no_site x.0).0
    number_below e (element d ago) edge (t, r, v, k) = (position-Some _ (node_sites p) edge.node no_site v).0

    output_same : (j e : ℕ) (a b : Node) → IsOutputOf p g j e a → IsOutputOf p h j e b → a ≡ b
    output_same j e a b (x, to_x, is_a) (y, to_y, is_b) =
        let same = edge_once e (element e 0) x y to_x to_y in
        let width = ap (λ (n : Node). n.width) (made_same x.node (number_below e (element e 0) x to_x)) in
        let width_y = ap (λ (z : Edge). (node_of h z.node).width) same in
        is_a
        ∙ ap (output_of j x) (width ∙ width_y)
        ∙ ap (λ (z : Edge). output_of j z (node_of h y.node).width) same
        ∙ sym is_b

    outputs_same : (j : ℕ)
        → j < length p.outs
        → node_of g (length (node_sites p) + j) ≡ node_of h (length (node_sites p) + j)
    outputs_same j lt =
        let e = slice_index_or p.outs j 0 in
        let there = slice_get-get_or p.outs j 0 lt in
        output_same j e _ _ (is_g.outputs j e there) (is_h.outputs j e there)

    node_same : (v : ℕ) → v < length g.nodes → node_of g v ≡ node_of h v
    node_same v lt = by (cases_lt v (length (node_sites p)))
      where
        by : (v < length (node_sites p)) ⊎ (length (node_sites p) ≤ v) → node_of g v ≡ node_of h v
        by (inl below) = made_same v below
        by (inr above) =
            let count = is_g.count in
            let back : length (node_sites p) + (v - length (node_sites p)) ≡ v = omega arith in
            subst (λ (i : ℕ). node_of g i ≡ node_of h i) back (outputs_same (v - length (node_sites p)) (omega arith))

    nodes_same : g.nodes ≡ h.nodes
    nodes_same = ext_get_or no_node g.nodes h.nodes (is_g.count ∙ sym is_h.count) node_same

    pub one_graph : g ≡ h
    one_graph = same_graph g h nodes_same (is_g.inputs ∙ sym is_h.inputs) (is_g.outs ∙ sym is_h.outs)
