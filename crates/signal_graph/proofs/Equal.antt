-- The words of a flat program's solution are those of its graph's.
use Rattle.std.proofs.Common.{◌≡◌, refl, ap, ◌∙◌, arith, ℕ, ◌+◌, ◌-◌, ◌<◌, ◌≤◌, inl, inr, true, List, [], ◌∷◌, length}
use Rattle.std.specs.Prelude.{ℤ, pos, ◌-ℤ◌}
use Rattle.std.specs.List.{AllZip}
use Rattle.std.proofs.lemmas.Int.{ints}
use Rattle.std.proofs.lemmas.Bool.{false≢true}
use Rattle.lists.specs.Rows.{Rows}
use Rattle.fix_word.specs.Words.{IsWord}
use Rattle.fix_word.specs.declared.operation.Op.{Op}
use Rattle.fix_word.specs.declared.operation.Op.TheVariants as op
use Rattle.fix_word.specs.declared.types.Format.{Format}
use Rattle.fix_word.proofs.Wraps.{wrap_of_word}
use Rattle.signal_graph.specs.Rules.{plain}
use Rattle.signal_graph.specs.Flat.{Expr, raw, read, calculation, Parts, no_part, part, value, Program, size}
use Rattle.signal_graph.specs.FlatRules.{IsExpr, AreExprs}
use Rattle.signal_graph.specs.FlatSolves.{element_of}
use Rattle.signal_graph.specs.GraphSolves.{node_of, GraphSolves}
use Rattle.signal_graph.specs.Values.{Words, operand_words, result, value_of, values_of, node_value, Reads, PartsRead}
use Rattle.signal_graph.specs.declared.graph.Edge.{Edge}
use Rattle.signal_graph.specs.declared.graph.Node.{Node}
use Rattle.signal_graph.specs.declared.graph.Graph.{Graph}
use Rattle.signal_graph.specs.GraphOf.{operation, element as operand_element, operand_at, operands_from, made_by}
use Rattle.signal_graph.specs.GraphOf.{made_by_parts, Target, word_node, node_at, has_pass, pass, IsNumber, IsEdgeTo}
use Rattle.signal_graph.specs.GraphOf.{IsGraphOf}
use Rattle.signal_graph.specs.Keeps.{IsElementNode}
use Rattle.signal_graph.proofs.Places.{made_of}
use Rattle.signal_graph.proofs.Parts.{Stands, calculation_stands, parts_stand, first_stands, rest_stands}
use Rattle.signal_graph.proofs.Bodies.{its_width, pass_made}
use Rattle.signal_graph.proofs.Nodes.{operation_value, inside, at_place, at_word}

-- a Pass of a word that fits
passed : (m : ℤ) (w : ℕ) → 1 ≤ w → IsWord w m → result op.Pass (plain w) (m ∷ []) ≡ m
passed m w some is = wrap_of_word m w some is

module _ (node_words : Words) (n : ℕ) where
  pub no_delay : (v ago : ℕ) (m : ℤ) → ago ≡ 0 → node_words v (pos n) ≡ m → node_words v (pos n -ℤ pos ago) ≡ m
  no_delay v ago m none is =
      let now : pos n -ℤ pos ago ≡ pos n = omega (arith, ints) in
      ap (λ (z : ℤ). node_words v z) now ∙ is

module _ (p : Program) (g : Graph) (is : IsGraphOf p g) (stream : Rows) (node_words : Words)
    (node_solves : GraphSolves g stream node_words) where
  -- what a node gives at a sample
  pub node_gives : (t : Target) (v n : ℕ) (node : Node)
      → n < length stream
      → IsNumber p t v
      → node_of g v ≡ node
      → node_words v (pos n) ≡ node_value stream node_words n node
  node_gives t v n node lt number same =
      node_solves.present v n (inside p g is t v number) lt ∙ ap (λ (x : Node). node_value stream node_words n x) same

  pub word_equal : (m : ℤ) (v n : ℕ) → n < length stream → IsNumber p (word_node m) v → node_words v (pos n) ≡ m
  word_equal m v n lt number =
      let (s, made) = at_word p g is m v number in
      node_gives (word_node m) v n _ lt number made.1

  module _ (words : Words) (n : ℕ) (lt : n < length stream) where
    -- the words that are read are those of the nodes
    abbrev pub ReadsEqual : (ℕ → ℕ → Type 0) → Type 0
    ReadsEqual R =
        (d ago v : ℕ) → R d ago → IsElementNode p d v → node_words v (pos n -ℤ pos ago) ≡ words d (pos n -ℤ pos ago)

    pub read_equal : (e d ago : ℕ) (edge : Edge)
        → IsEdgeTo p e (operand_element d ago) edge
        → ((v : ℕ) → IsElementNode p d v → node_words v (pos n -ℤ pos ago) ≡ words d (pos n -ℤ pos ago))
        → node_words edge.node (pos n -ℤ pos edge.delay) ≡ words d (pos n -ℤ pos ago)
    read_equal e d ago edge (t, node, number, delay) equal =
        ap (λ (k : ℕ). node_words edge.node (pos n -ℤ pos k)) delay
        ∙ equal edge.node (record { target = t; node = node; number = number })

    pub calculation_equal : (e k : ℕ) (o : Op) (fmt : Format) (parts : Parts) (v : ℕ)
        → Stands (made_of p e) k (made_by k (calculation o fmt parts))
        → IsExpr p (calculation o fmt parts)
        → ((edges : List Edge)
        → AllZip (IsEdgeTo p e) (operands_from k parts) edges
        → operand_words node_words n edges ≡ values_of words n parts)
        → IsNumber p (node_at e (k + size (calculation o fmt parts) - 1)) v
        → node_words v (pos n) ≡ value_of words n (calculation o fmt parts)
    calculation_equal e k o fmt parts v stands sound operands number =
        let made =
        at_place p g is e (k + size (calculation o fmt parts) - 1) v (operation o fmt (operands_from k parts)) number
        (calculation_stands (made_of p e) k o fmt parts stands) in
        node_gives (node_at e (k + size (calculation o fmt parts) - 1)) v n _ lt number made.1
        ∙ operation_value stream node_words n o fmt (node_of g v).edges _ sound.0.calculation
        ∙ ap (λ (vs : List ℤ). result o fmt vs) (operands (node_of g v).edges made.0)

    mutual
      pub operand_equal : (x : Expr) (e k : ℕ)
          → Stands (made_of p e) k (made_by k x)
          → IsExpr p x
          → ReadsEqual (Reads x)
          → (edge : Edge)
          → IsEdgeTo p e (operand_at (k + size x - 1) x) edge
          → node_words edge.node (pos n -ℤ pos edge.delay) ≡ value_of words n x
      operand_equal (raw m) e k stands sound reads edge to =
          no_delay node_words n edge.node edge.delay m to.1 (word_equal m edge.node n lt to.0)
      operand_equal (read d ago) e k stands sound reads edge to =
          read_equal e d ago edge to (λ v node. reads d ago v (refl, refl) node)
      operand_equal (calculation o fmt parts) e k stands sound reads edge to =
          no_delay node_words n edge.node edge.delay _ to.1
          (calculation_equal e k o fmt parts edge.node stands sound
          (operands_equal parts e k (parts_stand (made_of p e) k o fmt parts stands) sound.1 reads) to.0)

      pub operands_equal : (parts : Parts) (e k : ℕ)
          → Stands (made_of p e) k (made_by_parts k parts)
          → AreExprs p parts
          → ReadsEqual (PartsRead parts)
          → (edges : List Edge)
          → AllZip (IsEdgeTo p e) (operands_from k parts) edges
          → operand_words node_words n edges ≡ values_of words n parts
      operands_equal no_part e k stands sound reads [] all = refl
      operands_equal no_part e k stands sound reads (edge ∷ edges) all = absurd all
      operands_equal (part x rest) e k stands sound reads [] all = absurd all
      operands_equal (part x rest) e k stands sound reads (edge ∷ edges) all =
          ap (λ (m : ℤ). m ∷ operand_words node_words n edges)
          (operand_equal x e k (first_stands (made_of p e) k x rest stands) sound.0 (λ d ago v r. reads d ago v (inl r))
          edge all.0)
          ∙ ap (λ (ms : List ℤ). value_of words n x ∷ ms)
          (operands_equal rest e (k + size x) (rest_stands (made_of p e) k x rest stands) sound.1
          (λ d ago v r. reads d ago v (inr r)) edges all.1)

    -- a Pass gives the word of its operand, which fits
    pub pass_equal : (e : ℕ) (x : Expr) (v : ℕ)
        → (element_of p e).body ≡ value x
        → has_pass p e x ≡ true
        → IsExpr p x
        → ReadsEqual (Reads x)
        → 1 ≤ its_width p e
        → IsWord (its_width p e) (value_of words n x)
        → IsNumber p (node_at e (size x)) v
        → node_words v (pos n) ≡ value_of words n x
    pass_equal e x v h passes sound reads some fits number =
        let w = its_width p e in
        let made = at_place p g is e (size x) v (pass w x) number (pass_made p e x h passes) in
        node_gives (node_at e (size x)) v n _ lt number made.1
        ∙ ap (λ (vs : List ℤ). result op.Pass (plain w) vs) (one x passes (node_of g v).edges made.0)
        ∙ passed (value_of words n x) w some fits
      where
        edge_equal : (y : Expr)
            → has_pass p e y ≡ true
            → IsExpr p y
            → ReadsEqual (Reads y)
            → (edge : Edge)
            → IsEdgeTo p e (operand_at 0 y) edge
            → node_words edge.node (pos n -ℤ pos edge.delay) ≡ value_of words n y
        edge_equal (raw m) b s r edge to =
            no_delay node_words n edge.node edge.delay m to.1 (word_equal m edge.node n lt to.0)
        edge_equal (read d ago) b s r edge to = read_equal e d ago edge to (λ u node. r d ago u (refl, refl) node)
        edge_equal (calculation o fmt parts) b s r edge to = absurd (false≢true b)

        one : (y : Expr)
            → has_pass p e x ≡ true
            → (edges : List Edge)
            → AllZip (IsEdgeTo p e) (operand_at 0 x ∷ []) edges
            → operand_words node_words n edges ≡ value_of words n x ∷ []
        one y b [] all = absurd all
        one y b (edge ∷ []) all = ap (λ (m : ℤ). m ∷ []) (edge_equal x b sound reads edge all.0)
        one y b (edge ∷ (f ∷ fs)) all = absurd all.1
