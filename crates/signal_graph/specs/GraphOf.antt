-- The graph of a flat program.
--
-- An element has places: one for each raw word, read and calculation of its body, in post-order, so that the parts of a
-- calculation come before it in port order, and one more where a Pass follows. The nodes are made at places, in their
-- order; then come the outputs.
use Rattle.std.specs.Prelude.{◌≡◌, ℕ, ◌+◌, ◌-◌, ◌≤◌, ◌==◌, nat_lt, ◌&&◌, ◌||◌, Bool, true, false, if◌then◌else◌, List}
use Rattle.std.specs.Prelude.{[], ◌∷◌, ◌++◌, length, slice_get, find, position, filter, flat_map, Option, Some, None, ℤ}
use Rattle.std.specs.Prelude.{pos}
use Rattle.std.specs.List.{enumerate_from, AllZip}
use Rattle.std.specs.Ordering.{int_eq}
use Rattle.fix_word.specs.Words.{IsWord}
use Rattle.fix_word.specs.declared.operation.Op.{Op}
use Rattle.fix_word.specs.declared.operation.Op.TheVariants as op
use Rattle.fix_word.specs.declared.types.Format.{Format}
use Rattle.signal_graph.specs.Operations.{Class, quantised, truth, class_of}
use Rattle.signal_graph.specs.Rules.{width_of, plain}
use Rattle.signal_graph.specs.Flat.{Expr, raw, read, calculation, Parts, no_part, part, Body, word, value, Element}
use Rattle.signal_graph.specs.Flat.{Program, size}
use Rattle.signal_graph.specs.FlatSolves.{element_of}
use Rattle.signal_graph.specs.GraphSolves.{node_of}
use Rattle.signal_graph.specs.declared.graph.Edge.{Edge}
use Rattle.signal_graph.specs.declared.graph.Node.{Node}
use Rattle.signal_graph.specs.declared.graph.Graph.{Graph}

-- what an operand of a node at a place names: the node of a raw word, that of another place of the same element, or
-- that of an element, with a delay
pub data Operand : Type 0 where
  number : (word : ℤ) → Operand
  place : ℕ → Operand
  element : (e ago : ℕ) → Operand

-- what is made at a place: nothing for a read, a constant unless its word was met before, an input, or an operation
pub data Made : Type 0 where
  nothing : Made
  constant : (word : ℤ) → Made
  input : (j : ℕ) → Made
  operation : Op → Format → List Operand → Made

-- the operand that an expression is, where its own place is k
abbrev pub operand_at : ℕ → Expr → Operand
operand_at k (raw m) = number m
operand_at k (read e ago) = element e ago
operand_at k (calculation o fmt parts) = place k

-- the operands that parts are, where their places begin at k
abbrev pub operands_from : ℕ → Parts → List Operand
operands_from k no_part = []
operands_from k (part x rest) = operand_at (k + size x - 1) x ∷ operands_from (k + size x) rest

-- what is made at the places of an expression, which begin at k
abbrev mutual
  pub made_by : ℕ → Expr → List Made
  made_by k (raw m) = constant m ∷ []
  made_by k (read e ago) = nothing ∷ []
  made_by k (calculation o fmt parts) = made_by_parts k parts ++ operation o fmt (operands_from k parts) ∷ []

  pub made_by_parts : ℕ → Parts → List Made
  made_by_parts k no_part = []
  made_by_parts k (part x rest) = made_by k x ++ made_by_parts (k + size x) rest

-- whether an expression reads element e with a delay
abbrev mutual
  pub delays : ℕ → Expr → Bool
  delays e (raw m) = false
  delays e (read d ago) = (d == e) && nat_lt 0 ago
  delays e (calculation o fmt parts) = parts_delay e parts

  pub parts_delay : ℕ → Parts → Bool
  parts_delay e no_part = false
  parts_delay e (part x rest) = delays e x || parts_delay e rest

abbrev pub body_delays : ℕ → Body → Bool
body_delays e (word j) = false
body_delays e (value x) = delays e x

-- whether one of the elements reads element e with a delay
abbrev pub are_delayed : ℕ → List Element → Bool
are_delayed e [] = false
are_delayed e (x ∷ xs) = body_delays e x.body || are_delayed e xs

abbrev pub is_delayed : Program → ℕ → Bool
is_delayed p e = are_delayed e p.elems

-- whether a Pass follows the body of element e: a raw word or a read where the element is read with a delay, and a read
-- with a delay
abbrev pub has_pass : Program → ℕ → Expr → Bool
has_pass p e (raw m) = is_delayed p e
has_pass p e (read d ago) = nat_lt 0 ago || is_delayed p e
has_pass p e (calculation o fmt parts) = false

-- the Pass of a value of this width
abbrev pub pass : ℕ → Expr → Made
pass width x = operation op.Pass (plain width) (operand_at 0 x ∷ [])

-- what is made at the places of an element
abbrev pub made_by_body : Program → ℕ → (width : ℕ) → Body → List Made
made_by_body p e width (word j) = input j ∷ []
made_by_body p e width (value x) = made_by 0 x ++ (if has_pass p e x then pass width x ∷ [] else [])

-- a place, with what is made there
pub record Site : Type 0 where
  pub element : ℕ
  pub place : ℕ
  pub made : Made

abbrev pub sites_from : (e k : ℕ) → List Made → List Site
sites_from e k [] = []
sites_from e k (x ∷ xs) = record { element = e; place = k; made = x } ∷ sites_from e (k + 1) xs

-- the places of element e, and of all elements in their order
abbrev pub element_sites : Program → ℕ × Element → List Site
element_sites p (e, x) = sites_from e 0 (made_by_body p e (width_of x.ty) x.body)

abbrev pub sites : Program → List Site
sites p = flat_map (element_sites p) (enumerate_from 0 p.elems)

-- which node: that of a raw word, or that made at a place of an element
pub data Target : Type 0 where
  word_node : (word : ℤ) → Target
  node_at : (element place : ℕ) → Target

abbrev pub is_constant : ℤ → Made → Bool
is_constant m (constant k) = int_eq m k
is_constant m _ = false

abbrev pub is_target : Target → Site → Bool
is_target (word_node m) s = is_constant m s.made
is_target (node_at e k) s = (s.element == e) && (s.place == k)

-- the place is this one
abbrev pub is_place : Site → Option Site → Bool
is_place s None = false
is_place s (Some t) = (s.element == t.element) && (s.place == t.place)

-- whether a node is made at the place: for a raw word at the first place of all where it is met
abbrev pub is_made_at : Program → Site → Made → Bool
is_made_at p s nothing = false
is_made_at p s (constant m) = is_place s (find (is_target (word_node m)) (sites p))
is_made_at p s _ = true

-- the places at which nodes are made, in order
abbrev pub node_sites : Program → List Site
node_sites p = filter (λ (s : Site). is_made_at p s s.made) (sites p)

-- node v is the target: its number is the rank of its place
abbrev pub IsNumber : Program → Target → (v : ℕ) → Type 0
IsNumber p t v = position (is_target t) (node_sites p) ≡ Some v

-- element e is another name for the value of its body, and makes no node of its own
pub record IsAlias (p : Program) (e : ℕ) (x : Expr) : Type 0 where
  pub body : (element_of p e).body ≡ value x
  pub pass : has_pass p e x ≡ false

-- the target is the node of element e, aliases resolved
pub data IsNodeOf (p : Program) : ℕ → Target → Type 0 where
  input_node : {e j : ℕ} → (element_of p e).body ≡ word j → IsNodeOf p e (node_at e 0)
  pass_node : {e : ℕ} {x : Expr}
      → (element_of p e).body ≡ value x
      → has_pass p e x ≡ true
      → IsNodeOf p e (node_at e (size x))
  own_node : {e : ℕ} {o : Op} {fmt : Format} {parts : Parts}
      → (element_of p e).body ≡ value (calculation o fmt parts)
      → IsNodeOf p e (node_at e (size (calculation o fmt parts) - 1))
  word_alias : {e : ℕ} {m : ℤ} → IsAlias p e (raw m) → IsNodeOf p e (word_node m)
  read_alias : {e d : ℕ} {t : Target} → IsAlias p e (read d 0) → IsNodeOf p d t → IsNodeOf p e t

-- the edge leads to this operand of a node of element e, with its delay
abbrev pub IsEdgeTo : Program → ℕ → Operand → Edge → Type 0
IsEdgeTo p e (number m) edge = IsNumber p (word_node m) edge.node × (edge.delay ≡ 0)
IsEdgeTo p e (place k) edge = IsNumber p (node_at e k) edge.node × (edge.delay ≡ 0)
IsEdgeTo p e (element d ago) edge = (t : Target) × IsNodeOf p d t × IsNumber p t edge.node × (edge.delay ≡ ago)

-- the least width that holds the word
pub record IsLeastWidth (m : ℤ) (w : ℕ) : Type 0 where
  pub bits : 1 ≤ w
  pub holds : IsWord w m
  pub least : (u : ℕ) → 1 ≤ u → IsWord u m → w ≤ u

-- the format and the width of the node of an operation
abbrev pub node_format : Class → Format → Format
node_format quantised fmt = fmt
node_format _ fmt = plain 0

abbrev pub node_width : Class → Format → ℕ
node_width truth fmt = 2
node_width _ fmt = fmt.width

-- the initial values of the node at a place: the element's at its last place
abbrev pub inits_at : Program → Site → List (ℕ × ℤ)
inits_at p s =
    if s.place + 1 == length (element_sites p (s.element, element_of p s.element))
    then (element_of p s.element).inits
    else []

-- the node that is made at a place
abbrev pub IsMade : Program → Site → Made → Node → Type 0
IsMade p s nothing node = ⊥
IsMade p s (constant m) node =
    IsLeastWidth m node.width
    × (node ≡ record { op = op.Const; fmt = plain 0; arg = m; edges = []; inits = []; width = node.width; ram = 0 })
IsMade p s (input j) node =
    node ≡ record {
      op = op.Input;
      fmt = plain 0;
      arg = pos j;
      edges = [];
      inits = inits_at p s;
      width = width_of (element_of p s.element).ty;
      ram = 0;
    }
IsMade p s (operation o fmt operands) node =
    AllZip (IsEdgeTo p s.element) operands node.edges
    × (node ≡ record {
      op = o;
      fmt = node_format (class_of o) fmt;
      arg = pos 0;
      edges = node.edges;
      inits = inits_at p s;
      width = node_width (class_of o) fmt;
      ram = 0;
    })

-- the node of output word j, which is element e: an edge to its node, with that node's width
abbrev pub IsOutputOf : Program → Graph → (j e : ℕ) → Node → Type 0
IsOutputOf p g j e node =
    (edge : Edge) × IsEdgeTo p e (element e 0) edge
    × (node ≡ record {
      op = op.Output;
      fmt = plain 0;
      arg = pos j;
      edges = edge ∷ [];
      inits = [];
      width = (node_of g edge.node).width;
      ram = 0;
    })

-- the graph is that of the flat program: a node for each place where one is made, and then one for each output word
pub record IsGraphOf (p : Program) (g : Graph) : Type 0 where
  pub inputs : g.inputs ≡ p.inputs
  pub outs : g.outs ≡ length p.outs
  pub count : length g.nodes ≡ length (node_sites p) + length p.outs
  pub made : (v : ℕ) (s : Site) → slice_get (node_sites p) v ≡ Some s → IsMade p s s.made (node_of g v)
  pub outputs : (j e : ℕ)
      → slice_get p.outs j ≡ Some e
      → IsOutputOf p g j e (node_of g (length (node_sites p) + j))
