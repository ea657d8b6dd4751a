-- The piece of one node is made, as the code reads its delays and its line.
use Rattle.std.proofs.Common.{◌≡◌, refl, sym, subst, ap, ap₂, ◌∙◌, arith, ℕ, ◌+◌, ◌*◌, ◌<◌, ◌≤◌, List, [], ◌∷◌, ◌++◌}
use Rattle.std.proofs.Common.{length, slice_index_or, slice_set}
use Rattle.std.proofs.lemmas.List.{get_or_read, get_or-set_other, length-set}
use Rattle.datapath.specs.Allowed.{IsDatapath}
use Rattle.datapath.specs.declared.types.Datapath.{Datapath}
use Rattle.signal_graph.specs.GraphSolves.{no_node}
use Rattle.signal_graph.specs.declared.graph.Node.{Node}
use Rattle.signal_graph.specs.declared.graph.Graph.{Graph}
use Rattle.plan_core.specs.Operands.{node_of}
use Rattle.plan_core.specs.Lowered.{line_of, no_line}
use Rattle.plan_core.specs.declared.delay_lines.Line.{Line}
use Rattle.delay_memory.specs.Private.Delays.{delays_at}
use Rattle.delay_memory.specs.Private.Lines.{lines_before}
use Rattle.delay_memory.specs.Private.Nodes.{line_nodes, IsCopy, AreLaidOut, AreMadeBefore}
use Rattle.delay_memory.proofs.Stored.{count_yes, count_no}
use Rattle.delay_memory.proofs.NodeSteps.{next_there, number_small, offset_small, made_alone, made_with_line}

-- from node v on the nodes are still those of the graph
pub record AreLeft (g : Graph) (v : ℕ) (left : List Node) : Type 0 where
  pub count : length left ≡ length g.nodes
  pub nodes : (w : ℕ) → v ≤ w → node_of left w ≡ node_of g.nodes w

module _ (g : Graph) (v : ℕ) (left : List Node) (are : AreLeft g v left) where
  pub left_node : (node : Node) → v < length g.nodes → node ≡ slice_index_or left v node → node ≡ node_of g.nodes v
  left_node node there is =
      let count = are.count in
      get_or_read left v node (omega (arith, there, count)) is no_node ∙ are.nodes v (omega arith)

  pub left_more : (item : Node) (new : List Node) → new ≡ slice_set left v item → AreLeft g (v + 1) new
  left_more item new e =
      subst (AreLeft g (v + 1)) (sym e)
      (record {
        count = length-set left v item ∙ are.count;
        nodes = λ w le.
            get_or-set_other left v w item no_node (λ same. absurd (omega (arith, le, same)))
            ∙ are.nodes w (omega (arith, le));
      })

module _ (hold spare : ℕ) (g : Graph) (d : Datapath) (delays : List (List ℕ)) (numbers : List ℕ)
    (lines : List Line) (laid : AreLaidOut hold spare g d delays numbers lines) (v : ℕ) (there : v < length g.nodes)
    (item : List ℕ) (item_is : item ≡ slice_index_or delays v item) where
  inside : v < length delays
  inside = let count = laid.long.count in omega (arith, there, count)

  at : item ≡ delays_at delays v
  at = get_or_read delays v item inside item_is []

  has_some : 0 < length item → 0 < length (delays_at delays v)
  has_some some = subst (λ (xs : List ℕ). 0 < length xs) at some

  pub next_inside : (next : ℕ) → next ≡ lines_before delays v → 0 < length item → next < length lines
  next_inside next is some =
      subst (λ (n : ℕ). n < length lines) (sym is) (next_there hold spare g d delays numbers lines laid v there
      (has_some some))

  line_is : (next : ℕ) (line : Line)
      → next ≡ lines_before delays v
      → 0 < length item
      → line ≡ slice_index_or lines next line
      → line ≡ line_of lines (lines_before delays v)
  line_is next line is some e =
      get_or_read lines next line (next_inside next is some) e no_line ∙ ap (line_of lines) is

  pub number_fits : (next : ℕ) (line : Line)
      → next ≡ lines_before delays v
      → 0 < length item
      → line ≡ slice_index_or lines next line
      → line.node + 3 + 2 * length item < 4294967296
  number_fits next line is some e =
      subst (λ (xs : List ℕ). line.node + 3 + 2 * length xs < 4294967296) (sym at)
      (number_small hold spare g d delays numbers lines laid v there (has_some some) line (line_is next line is some e))

  pub offset_fits : IsDatapath d
      → (next : ℕ) (line : Line)
      → next ≡ lines_before delays v
      → 0 < length item
      → line ≡ slice_index_or lines next line
      → line.offset + 65536 ≤ 4294967296
  offset_fits path next line is some e =
      offset_small hold spare g d delays numbers lines laid v there (has_some some) path line (line_is next line is
      some e)

  pub next_with : (next : ℕ) → next ≡ lines_before delays v → 0 < length item
      → next + 1 ≡ lines_before delays (v + 1)
  next_with next is some =
      let more = count_yes delays v inside (has_some some) in omega (arith, is, more)

  pub next_without : (next : ℕ) → next ≡ lines_before delays v → length item ≡ 0
      → next ≡ lines_before delays (v + 1)
  next_without next is none = is ∙ sym (count_no delays v inside (ap length (sym at) ∙ none))

  module _ (old mid : List Node) (node copy : Node) (before : AreMadeBefore hold g d delays lines v old)
      (same : node ≡ node_of g.nodes v) (copied : IsCopy hold delays node copy)
      (pushed : mid ≡ old ++ copy ∷ []) where
    pub nodes_without : length item ≡ 0 → AreMadeBefore hold g d delays lines (v + 1) mid
    nodes_without none =
        subst (AreMadeBefore hold g d delays lines (v + 1)) (sym pushed)
        (made_alone hold spare g d delays numbers lines laid v there old node copy before same copied (ap length (sym
        at) ∙ none))

    pub nodes_with : (next : ℕ) (line : Line) (new : List Node)
        → next ≡ lines_before delays v
        → 0 < length item
        → line ≡ slice_index_or lines next line
        → new ≡ mid ++ line_nodes line node.width item
        → AreMadeBefore hold g d delays lines (v + 1) new
    nodes_with next line new is some e added =
        subst (AreMadeBefore hold g d delays lines (v + 1))
        (sym (added ∙ ap₂ (λ (ns : List Node) (xs : List ℕ). ns ++ line_nodes line node.width xs) pushed at))
        (made_with_line hold spare g d delays numbers lines laid v there (has_some some) old node copy line node.width
        before same
        copied (line_is next line is some e) refl)
