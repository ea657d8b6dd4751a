-- A value depends only on what is read, and what is read is allowed.
use Rattle.std.proofs.Common.{◌≡◌, refl, ap, ◌∙◌, subst, sym, arith, ℕ, suc, ◌<◌, ◌≤◌, inl, inr, List, [], ◌∷◌, length}
use Rattle.std.specs.Prelude.{ℤ, pos, ◌-ℤ◌, All, IsSomeAnd, slice_get, Option, Some, None}
use Rattle.std.proofs.lemmas.Option.{slice_get_within}
use Rattle.lists.specs.Rows.{Rows}
use Rattle.fix_word.specs.declared.types.SigType.{SigType}
use Rattle.signal_graph.specs.Flat.{Expr, raw, read, calculation, Parts, no_part, part, Body, word, value, Program}
use Rattle.signal_graph.specs.FlatRules.{IsRead, IsExpr, AreExprs, IsBodyOf}
use Rattle.signal_graph.specs.Operations.{Class, input, output, constant, class_of}
use Rattle.signal_graph.specs.GraphRules.{IsEdge}
use Rattle.signal_graph.specs.declared.graph.Edge.{Edge}
use Rattle.signal_graph.specs.declared.graph.Node.{Node}
use Rattle.signal_graph.specs.declared.graph.Graph.{Graph}
use Rattle.signal_graph.specs.Values.{Words, operand, result, value_of, values_of, body_value, Reads, PartsRead}
use Rattle.signal_graph.specs.Values.{BodyReads, operand_words, given_by, node_value, EdgesRead}

-- two maps of words agree on what is read at sample n
abbrev pub Agree : Words → Words → ℕ → (ℕ → ℕ → Type 0) → Type 0
Agree a b n R = (e ago : ℕ) → R e ago → a e (pos n -ℤ pos ago) ≡ b e (pos n -ℤ pos ago)

module _ (a b : Words) (n : ℕ) where
  mutual
    pub value_same : (x : Expr) → Agree a b n (Reads x) → value_of a n x ≡ value_of b n x
    value_same (raw m) agree = refl
    value_same (read e ago) agree = agree e ago (refl, refl)
    value_same (calculation o fmt parts) agree = ap (result o fmt) (values_same parts agree)

    pub values_same : (parts : Parts) → Agree a b n (PartsRead parts) → values_of a n parts ≡ values_of b n parts
    values_same no_part agree = refl
    values_same (part x rest) agree =
        ap (λ (v : ℤ). v ∷ values_of a n rest) (value_same x (λ e ago r. agree e ago (inl r)))
        ∙ ap (λ (vs : List ℤ). value_of b n x ∷ vs) (values_same rest (λ e ago r. agree e ago (inr r)))

  pub body_same : (stream : Rows) (body : Body)
      → Agree a b n (BodyReads body)
      → body_value stream a n body ≡ body_value stream b n body
  body_same stream (word j) agree = refl
  body_same stream (value x) agree = value_same x agree

module _ (p : Program) where
  mutual
    pub read_allowed : (x : Expr) (e ago : ℕ) → IsExpr p x → Reads x e ago → IsRead p e ago
    read_allowed (raw m) e ago is r = absurd r
    read_allowed (read d k) e ago is r =
        subst (λ (i : ℕ). IsRead p i ago) (sym r.0) (subst (λ (i : ℕ). IsRead p d i) (sym r.1) is)
    read_allowed (calculation o fmt parts) e ago is r = parts_allowed parts e ago is.1 r

    pub parts_allowed : (parts : Parts) (e ago : ℕ) → AreExprs p parts → PartsRead parts e ago → IsRead p e ago
    parts_allowed no_part e ago are r = absurd r
    parts_allowed (part x rest) e ago are (inl r) = read_allowed x e ago are.0 r
    parts_allowed (part x rest) e ago are (inr r) = parts_allowed rest e ago are.1 r

  pub body_allowed : (ty : SigType) (body : Body) (e ago : ℕ)
      → IsBodyOf p ty body
      → BodyReads body e ago
      → IsRead p e ago
  body_allowed ty (word j) e ago is r = absurd r
  body_allowed ty (value x) e ago is r = read_allowed x e ago is.sound r

module _ (a b : Words) (n : ℕ) where
  pub operands_same : (edges : List Edge)
      → Agree a b n (EdgesRead edges)
      → operand_words a n edges ≡ operand_words b n edges
  operands_same [] agree = refl
  operands_same (edge ∷ rest) agree =
      ap (λ (v : ℤ). v ∷ operand_words a n rest) (agree edge.node edge.delay (inl (refl, refl)))
      ∙ ap (λ (vs : List ℤ). b edge.node (pos n -ℤ pos edge.delay) ∷ vs)
      (operands_same rest (λ v ago r. agree v ago (inr r)))

  given_same : (class : Class) (stream : Rows) (node : Node)
      → operand_words a n node.edges ≡ operand_words b n node.edges
      → given_by class stream a n node ≡ given_by class stream b n node
  given_same input stream node h = refl
  given_same output stream node h = ap (λ (vs : List ℤ). operand vs 0) h
  given_same constant stream node h = refl
  given_same _ stream node h = ap (result node.op node.fmt) h

  pub node_same : (stream : Rows) (node : Node)
      → Agree a b n (EdgesRead node.edges)
      → node_value stream a n node ≡ node_value stream b n node
  node_same stream node agree = given_same (class_of node.op) stream node (operands_same node.edges agree)

-- a node of the graph, at a delay that is allowed
pub record IsEdgeIn (g : Graph) (v ago : ℕ) : Type 0 where
  pub node : v < length g.nodes
  pub delay : ago ≤ 1023

there : {A : Type 0} (o : Option A) (P : A → Type 0) → IsSomeAnd o P → (x : A) × (o ≡ Some x)
there None P h = absurd h
there (Some x) P h = (x, refl)

edge_in : (g : Graph) (edge : Edge) → IsEdge g edge → IsEdgeIn g edge.node edge.delay
edge_in g edge is =
    let (x, h) = there (slice_get g.nodes edge.node) _ is.node in
    record { node = slice_get_within g.nodes edge.node x h; delay = is.delay }

pub edges_allowed : (g : Graph) (edges : List Edge) (v ago : ℕ)
    → All (IsEdge g) edges
    → EdgesRead edges v ago
    → IsEdgeIn g v ago
edges_allowed g [] v ago all r = absurd r
edges_allowed g (edge ∷ rest) v ago all (inl r) =
    subst (λ (i : ℕ). IsEdgeIn g i ago) (sym r.0)
    (subst (λ (i : ℕ). IsEdgeIn g edge.node i) (sym r.1) (edge_in g edge (all 0 edge (omega arith))))
edges_allowed g (edge ∷ rest) v ago all (inr r) = edges_allowed g rest v ago (λ k d lt. all (suc k) d (omega arith)) r
