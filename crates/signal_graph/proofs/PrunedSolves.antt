-- A solution of a graph is one of the pruned graph, at the nodes that are kept.
use Rattle.std.proofs.Common.{◌≡◌, refl, sym, subst, ap, ◌∙◌, arith, ℕ, ◌+◌, ◌<◌, List, [], ◌∷◌, length, map}
use Rattle.std.specs.Prelude.{ℤ, pos, ◌-ℤ◌, slice_index_or}
use Rattle.std.specs.List.{AllZip}
use Rattle.std.proofs.lemmas.Bool.{eqb-true}
use Rattle.std.proofs.lemmas.List.{get_or-map, get_or_default, length-map}
use Rattle.std.proofs.lemmas.List.Elements.{AllZip-get_or, length_all_zip}
use Rattle.std.proofs.lemmas.List.Quantifiers.{position-Some}
use Rattle.lists.specs.Rows.{Rows}
use Rattle.signal_graph.specs.Operations.{Class, input, output, constant, class_of}
use Rattle.signal_graph.specs.declared.graph.Edge.{Edge}
use Rattle.signal_graph.specs.declared.graph.Node.{Node}
use Rattle.signal_graph.specs.declared.graph.Graph.{Graph}
use Rattle.signal_graph.specs.Rules.{word_before}
use Rattle.signal_graph.specs.Values.{Words, operand, result, operand_words, given_by, node_value}
use Rattle.signal_graph.specs.GraphRules.{IsGraph}
use Rattle.signal_graph.specs.GraphSolves.{no_node, node_of, GraphSolves}
use Rattle.signal_graph.specs.Pruned.{IsUsed, output as output_used, read, IsEdgeOf, IsRenumbered, IsPruned}
use Rattle.signal_graph.proofs.Values.{edges_allowed}

-- the words of the nodes that are kept, by their new numbers
abbrev pub kept_words : List ℕ → Words → Words
kept_words kept words v n = words (slice_index_or kept v 0) n

module _ (kept : List ℕ) (words : Words) (n : ℕ) where
  edge_word : (new old : Edge)
      → IsEdgeOf kept new old
      → kept_words kept words new.node (pos n -ℤ pos new.delay) ≡ words old.node (pos n -ℤ pos old.delay)
  edge_word new old is =
      let at = position-Some _ kept new.node 0 is.node in
      let node = eqb-true (slice_index_or kept new.node 0) old.node at.1 in
      ap (λ (v : ℕ). words v (pos n -ℤ pos new.delay)) node
      ∙ ap (λ (ago : ℕ). words old.node (pos n -ℤ pos ago)) is.delay

  operands_kept : (new old : List Edge)
      → AllZip (IsEdgeOf kept) new old
      → operand_words (kept_words kept words) n new ≡ operand_words words n old
  operands_kept [] [] h = refl
  operands_kept [] (o ∷ os) h = absurd h
  operands_kept (x ∷ xs) [] h = absurd h
  operands_kept (x ∷ xs) (o ∷ os) h =
      ap (λ (v : ℤ). v ∷ operand_words (kept_words kept words) n xs) (edge_word x o h.0)
      ∙ ap (λ (vs : List ℤ). words o.node (pos n -ℤ pos o.delay) ∷ vs) (operands_kept xs os h.1)

  given_kept : (class : Class) (stream : Rows) (old : Node) (edges : List Edge)
      → operand_words (kept_words kept words) n edges ≡ operand_words words n old.edges
      → given_by class stream words n old
      ≡ given_by class stream (kept_words kept words) n (record old { edges = edges })
  given_kept input stream old edges h = refl
  given_kept output stream old edges h = ap (λ (vs : List ℤ). operand vs 0) (sym h)
  given_kept constant stream old edges h = refl
  given_kept _ stream old edges h = ap (result old.op old.fmt) (sym h)

  node_kept : (stream : Rows) (new old : Node)
      → IsRenumbered kept new old
      → node_value stream words n old ≡ node_value stream (kept_words kept words) n new
  node_kept stream new old is =
      given_kept (class_of old.op) stream old new.edges (operands_kept new.edges old.edges is.edges)
      ∙ ap (λ (node : Node). node_value stream (kept_words kept words) n node) (sym is.node)

pub used_below : (g : Graph) → IsGraph g → (v : ℕ) → IsUsed g v → v < length g.nodes
used_below g sound v (output_used below is) = below
used_below g sound v (read {v = u} ago used there) =
    (edges_allowed g (node_of g u).edges v ago (sound.nodes u no_node (used_below g sound u used)).edges there).node

module _ (g pruned : Graph) (sound : IsGraph g) (is : IsPruned g pruned) where
  pub same_count : length pruned.nodes ≡ length is.kept
  same_count =
      length_all_zip (IsRenumbered is.kept) pruned.nodes (map (node_of g) is.kept) is.nodes
      ∙ length-map is.kept (node_of g)

  pub renumbered : (v : ℕ)
      → v < length pruned.nodes
      → IsRenumbered is.kept (node_of pruned v) (node_of g (slice_index_or is.kept v 0))
  renumbered v lt =
      let count = same_count in
      subst (λ (node : Node). IsRenumbered is.kept (node_of pruned v) node)
      (get_or-map (node_of g) is.kept v 0 no_node (omega arith))
      (AllZip-get_or (IsRenumbered is.kept) pruned.nodes (map (node_of g) is.kept) v no_node no_node is.nodes lt)

  pub inside : (v : ℕ) → v < length pruned.nodes → slice_index_or is.kept v 0 < length g.nodes
  inside v lt =
      let count = same_count in
      used_below g sound (slice_index_or is.kept v 0)
      ((is.used.used (slice_index_or is.kept v 0)).0
      (v, omega arith, get_or_default is.kept v (slice_index_or is.kept v 0) 0 (omega arith)))

  pub pruned_solves : (stream : Rows) (words : Words)
      → GraphSolves g stream words
      → GraphSolves pruned stream (kept_words is.kept words)
  pruned_solves stream words solves = record {
    past = λ v j lt less.
        solves.past (slice_index_or is.kept v 0) j (inside v lt) less
        ∙ ap (λ (node : Node). word_before node.inits (j + 1)) (sym (renumbered v lt).node);
    present = λ v n lt less.
        solves.present (slice_index_or is.kept v 0) n (inside v lt) less
        ∙ node_kept is.kept words n stream (node_of pruned v) (node_of g (slice_index_or is.kept v 0))
        (renumbered v lt);
  }
