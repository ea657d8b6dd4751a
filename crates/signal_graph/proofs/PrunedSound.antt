-- A pruned graph is sound, has no delay-free loop, and keeps solutions.
use Rattle.std.proofs.Common.{◌≡◌, refl, sym, subst, ap, ◌∙◌, arith, ℕ, ◌+◌, ◌-◌, ◌<◌, ◌≤◌, inl, inr, List, [], ◌∷◌}
use Rattle.std.proofs.Common.{length}
use Rattle.std.specs.Prelude.{◌≢◌, ℤ, slice_get, slice_index_or, take, All, IsSomeAnd, Contains, Option, Some, None}
use Rattle.std.specs.List.{AllZip}
use Rattle.std.proofs.lemmas.Bool.{eqb-true}
use Rattle.std.proofs.lemmas.Option.{slice_get-get_or, slice_get_within, get_or_from_slice_get}
use Rattle.std.proofs.lemmas.List.{get_or_default, length-take, get_or-take}
use Rattle.std.proofs.lemmas.List.Elements.{All-nil, All-cons, All-head, All-tail, All-from_get_or}
use Rattle.std.proofs.lemmas.List.Kept.{AllPairs-from_increasing}
use Rattle.std.proofs.lemmas.List.Quantifiers.{position-Some}
use Rattle.recurrences.specs.Systems.{DependsNow, direct, by_way_of}
use Rattle.fix_word.specs.declared.operation.Op.TheVariants as op
use Rattle.fix_word.specs.declared.types.SigType.{SigType}
use Rattle.signal_graph.specs.Operations.{Class, input, output, constant, class_of}
use Rattle.signal_graph.specs.Rules.{max_delay, IsWithin, IsBelow, IsType}
use Rattle.signal_graph.specs.declared.graph.Edge.{Edge}
use Rattle.signal_graph.specs.declared.graph.Node.{Node}
use Rattle.signal_graph.specs.declared.graph.Graph.{Graph}
use Rattle.signal_graph.specs.GraphRules.{IsArgument, IsEdge, IsNode, first_output, IsOutput, IsGraph}
use Rattle.signal_graph.specs.GraphSolves.{no_node, node_of, HasEdge, IsGraphLoopless}
use Rattle.signal_graph.specs.Values.{EdgesRead}
use Rattle.signal_graph.specs.Pruned.{output as output_used, IsEdgeOf, IsRenumbered, IsPruned}
use Rattle.signal_graph.proofs.Members.{zip_length}
use Rattle.signal_graph.proofs.Values.{edges_allowed}
use Rattle.signal_graph.proofs.PrunedSolves.{same_count, renumbered, inside}
use Rattle.signal_graph.proofs.Rising.{Rises, few, in_order, last_ones, before_first}

argument_sound : (g h : Graph) (class : Class) (arg : ℤ)
    → h.inputs ≡ g.inputs
    → h.outs ≡ g.outs
    → IsArgument g class arg
    → IsArgument h class arg
argument_sound g h input arg inputs outs is =
    subst (λ (types : List SigType). IsBelow (length types) arg) (sym inputs) is
argument_sound g h output arg inputs outs is = subst (λ (n : ℕ). IsBelow n arg) (sym outs) is
argument_sound g h constant arg inputs outs is = is
argument_sound g h _ arg inputs outs is = is

module _ (g : Graph) (sound : IsGraph g) where
  pub output_at : (j : ℕ) → j < g.outs → IsOutput j (node_of g (first_output g + j))
  output_at j lt = by (slice_get g.nodes (first_output g + j)) refl (sound.outputs j lt)
    where
      by : (o : Option Node)
          → slice_get g.nodes (first_output g + j) ≡ o
          → IsSomeAnd o (IsOutput j)
          → IsOutput j (node_of g (first_output g + j))
      by None h is = absurd is
      by (Some node) h is =
          subst (λ (x : Node). IsOutput j x) (sym (get_or_from_slice_get g.nodes (first_output g + j) node no_node h))
          is

  -- the outputs are there
  pub outputs_fit : first_output g + g.outs ≡ length g.nodes
  outputs_fit =
      by (slice_get g.nodes (first_output g + (g.outs - 1))) refl
      (sound.outputs (g.outs - 1) (omega (arith, sound.out_count.0)))
    where
      by : (o : Option Node)
          → slice_get g.nodes (first_output g + (g.outs - 1)) ≡ o
          → IsSomeAnd o (IsOutput (g.outs - 1))
          → first_output g + g.outs ≡ length g.nodes
      by None h is = absurd is
      by (Some node) h is =
          omega (arith, sound.out_count.0, slice_get_within g.nodes (first_output g + (g.outs - 1)) node h)

  pub other_op : (v : ℕ) → v < first_output g → (node_of g v).op ≢ op.Output
  other_op v lt =
      let fit = outputs_fit in
      let below : v < length (take (first_output g) g.nodes) = omega (arith, length-take (first_output g) g.nodes) in
      subst (λ (node : Node). node.op ≢ op.Output) (get_or-take (first_output g) g.nodes v no_node lt)
      (sound.others v no_node below)

module _ (g pruned : Graph) (sound : IsGraph g) (is : IsPruned g pruned) where
  abbrev pub old : ℕ → ℕ
  old v = slice_index_or is.kept v 0

  rises : Rises is.kept
  rises = AllPairs-from_increasing is.kept is.used.rise

  old_inside : (v : ℕ) → v < length is.kept → old v < length g.nodes
  old_inside v lt = inside g pruned sound is v (omega (arith, same_count g pruned sound is))

  old_node : (v : ℕ) → v < length is.kept → IsRenumbered is.kept (node_of pruned v) (node_of g (old v))
  old_node v lt = renumbered g pruned sound is v (omega (arith, same_count g pruned sound is))

  -- an output is kept
  outputs_kept : (v : ℕ) → first_output g ≤ v → v < length g.nodes → Contains is.kept v
  outputs_kept v above lt =
      let j = v - first_output g in
      let back : first_output g + j ≡ v = omega arith in
      let node =
      subst (λ (i : ℕ). IsOutput j (node_of g i)) back (output_at g sound j (omega (arith, outputs_fit g sound))) in
      (is.used.used v).1 (output_used lt node.op)

  some_output : first_output g < length g.nodes
  some_output = omega (arith, outputs_fit g sound, sound.out_count.0)

  pub first_kept : Contains is.kept (first_output g)
  first_kept = outputs_kept (first_output g) (omega arith) some_output

  -- the new number of the first output
  abbrev pub start : ℕ
  start = first_kept.0

  start_is : old start ≡ first_output g
  start_is = get_or_default is.kept start 0 (first_output g) first_kept.1 ∙ first_kept.2

  pub new_outputs : (j : ℕ) → j < g.outs → (start + j < length is.kept) × (old (start + j) ≡ first_output g + j)
  new_outputs j lt =
      in_order is.kept rises (first_output g) (length g.nodes) start some_output first_kept.1 start_is outputs_kept
      old_inside j
      (omega (arith, outputs_fit g sound))

  pub new_first : first_output pruned ≡ start
  new_first =
      let last =
      last_ones is.kept rises (first_output g) (length g.nodes) start some_output first_kept.1 start_is outputs_kept
      old_inside in
      omega (arith, last, outputs_fit g sound, same_count g pruned sound is, is.outs)

  node_op : (v : ℕ) → v < length is.kept → (node_of pruned v).op ≡ (node_of g (old v)).op
  node_op v lt = ap (λ (node : Node). node.op) (old_node v lt).node

  some_node : (v : ℕ) (P : Node → Type 0)
      → v < length pruned.nodes
      → P (node_of pruned v)
      → IsSomeAnd (slice_get pruned.nodes v) P
  some_node v P lt h = subst (λ (o : Option Node). IsSomeAnd o P) (sym (slice_get-get_or pruned.nodes v no_node lt)) h

  edge_target : (v : ℕ)
      → (o : Option Node)
      → slice_get g.nodes v ≡ o
      → IsSomeAnd o (λ (node : Node). node.op ≢ op.Output)
      → (node_of g v).op ≢ op.Output
  edge_target v None h there = absurd there
  edge_target v (Some node) h there =
      subst (λ (x : Node). x.op ≢ op.Output) (sym (get_or_from_slice_get g.nodes v node no_node h)) there

  edge_sound : (new edge : Edge) → IsEdgeOf is.kept new edge → IsEdge g edge → IsEdge pruned new
  edge_sound new edge same fits =
      let at = position-Some _ is.kept new.node 0 same.node in
      let its : old new.node ≡ edge.node = eqb-true (old new.node) edge.node at.1 in
      let source = edge_target edge.node (slice_get g.nodes edge.node) refl fits.node in
      record {
        node =
            some_node new.node (λ (node : Node). node.op ≢ op.Output)
            (omega (arith, at.0, same_count g pruned sound is))
            (λ h. source (ap (λ (i : ℕ). (node_of g i).op) (sym its) ∙ sym (node_op new.node at.0) ∙ h));
        delay = subst (λ (ago : ℕ). ago ≤ max_delay) (sym same.delay) fits.delay;
      }

  edges_sound : (new edges : List Edge)
      → AllZip (IsEdgeOf is.kept) new edges
      → All (IsEdge g) edges
      → All (IsEdge pruned) new
  edges_sound [] [] all fits = All-nil (IsEdge pruned)
  edges_sound [] (e ∷ es) all fits = absurd all
  edges_sound (n ∷ ns) [] all fits = absurd all
  edges_sound (n ∷ ns) (e ∷ es) all fits =
      All-cons (IsEdge pruned) n ns (edge_sound n e all.0 (All-head (IsEdge g) e es fits))
      (edges_sound ns es all.1 (All-tail (IsEdge g) e es fits))

  node_sound : (new node : Node) → IsRenumbered is.kept new node → IsNode g node → IsNode pruned new
  node_sound new node same fits =
      subst (λ (x : Node). IsNode pruned x) (sym same.node) (record {
        operation = fits.operation;
        fmt = fits.fmt;
        arg = argument_sound g pruned (class_of node.op) node.arg is.inputs is.outs fits.arg;
        edge_count = zip_length (IsEdgeOf is.kept) new.edges node.edges same.edges ∙ fits.edge_count;
        edges = edges_sound new.edges node.edges same.edges fits.edges;
        inits = fits.inits;
        width = fits.width;
      })

  all_nodes : (v : ℕ) → v < length pruned.nodes → IsNode pruned (node_of pruned v)
  all_nodes v lt =
      let kept : v < length is.kept = omega (arith, same_count g pruned sound is) in
      node_sound (node_of pruned v) (node_of g (old v)) (old_node v kept)
      (sound.nodes (old v) no_node (old_inside v kept))

  output_is : (j : ℕ) → j < g.outs → IsOutput j (node_of pruned (start + j))
  output_is j lt =
      let at = new_outputs j lt in
      let node = subst (λ (i : ℕ). IsOutput j (node_of g i)) (sym at.1) (output_at g sound j lt) in
      record {
        op = node_op (start + j) at.0 ∙ node.op;
        arg = ap (λ (x : Node). x.arg) (old_node (start + j) at.0).node ∙ node.arg;
      }

  outputs_are : (j : ℕ) → j < pruned.outs → IsSomeAnd (slice_get pruned.nodes (first_output pruned + j)) (IsOutput j)
  outputs_are j lt =
      let below : j < g.outs = omega (arith, is.outs) in
      subst (λ (i : ℕ). IsSomeAnd (slice_get pruned.nodes (i + j)) (IsOutput j)) (sym new_first)
      (some_node (start + j) (IsOutput j) (omega (arith, (new_outputs j below).0, same_count g pruned sound is))
      (output_is j below))

  others_are : All (λ (node : Node). node.op ≢ op.Output) (take (first_output pruned) pruned.nodes)
  others_are k d lt =
      let count = length-take (first_output pruned) pruned.nodes in
      let below : k < first_output pruned = omega arith in
      let there : k < length pruned.nodes = omega arith in
      let kept : k < length is.kept = omega (arith, same_count g pruned sound is) in
      let same : slice_index_or (take (first_output pruned) pruned.nodes) k d ≡ node_of pruned k =
      get_or-take (first_output pruned) pruned.nodes k d below ∙ get_or_default pruned.nodes k d no_node there in
      let less =
      before_first is.kept rises (first_output g) (length g.nodes) start some_output first_kept.1 start_is outputs_kept
      old_inside k (omega (arith, new_first)) in
      subst (λ (node : Node). node.op ≢ op.Output) (sym same)
      (λ h. other_op g sound (old k) less (sym (node_op k kept) ∙ h))

  pub pruned_is_sound : IsGraph pruned
  pruned_is_sound = record {
    input_count = subst (λ (inputs : List SigType). IsWithin 1 16 (length inputs)) (sym is.inputs) sound.input_count;
    inputs = subst (λ (inputs : List SigType). All IsType inputs) (sym is.inputs) sound.inputs;
    out_count = subst (λ (n : ℕ). IsWithin 1 16 n) (sym is.outs) sound.out_count;
    node_count =
        omega (arith, same_count g pruned sound is, few is.kept rises (length g.nodes) old_inside, sound.node_count);
    nodes = All-from_get_or (IsNode pruned) pruned.nodes no_node all_nodes;
    outputs = outputs_are;
    others = others_are;
  }

  old_edge : (new edges : List Edge) (u ago : ℕ)
      → AllZip (IsEdgeOf is.kept) new edges
      → EdgesRead new u ago
      → EdgesRead edges (old u) ago
  old_edge [] edges u ago all r = absurd r
  old_edge (n ∷ ns) [] u ago all r = absurd all
  old_edge (n ∷ ns) (e ∷ es) u ago all (inl r) =
      let at = position-Some _ is.kept n.node 0 all.0.node in
      inl (ap old r.0 ∙ eqb-true (old n.node) e.node at.1, r.1 ∙ all.0.delay)
  old_edge (n ∷ ns) (e ∷ es) u ago all (inr r) = inr (old_edge ns es u ago all.1 r)

  edge_kept : (v u ago : ℕ) → v < length pruned.nodes → HasEdge pruned v u ago → HasEdge g (old v) (old u) ago
  edge_kept v u ago lt r =
      old_edge (node_of pruned v).edges (node_of g (old v)).edges u ago
      (old_node v (omega (arith, same_count g pruned sound is))).edges r

  path_kept : (v u : ℕ)
      → v < length pruned.nodes
      → DependsNow (HasEdge pruned) v u
      → DependsNow (HasEdge g) (old v) (old u)
  path_kept v u lt (direct r) = direct (edge_kept v u 0 lt r)
  path_kept v u lt (by_way_of w r path) =
      let there = (edges_allowed pruned (node_of pruned v).edges w 0 (all_nodes v lt).edges r).node in
      by_way_of (old w) (edge_kept v w 0 lt r) (path_kept w u there path)

  pub pruned_is_loopless : IsGraphLoopless g → IsGraphLoopless pruned
  pruned_is_loopless loopless v lt path =
      loopless (old v) (old_inside v (omega (arith, same_count g pruned sound is))) (path_kept v v lt path)
