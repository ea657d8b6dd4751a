-- The values of expressions and of nodes, over the words of elements and of nodes.
use Rattle.std.specs.Prelude.{◌≡◌, ℕ, ◌⊎◌, List, [], ◌∷◌, map, slice_index_or, ℤ, pos, ◌-ℤ◌}
use Rattle.recurrences.specs.Systems.{Signals}
use Rattle.lists.specs.Rows.{Rows}
use Rattle.fix_word.specs.Values.{apply_of}
use Rattle.fix_word.specs.declared.operation.Op.{Op}
use Rattle.fix_word.specs.declared.types.Format.{Format}
pub use Rattle.operations.specs.Ranges.{to_nat}
use Rattle.signal_graph.specs.Operations.{Class, input, output, constant, class_of}
use Rattle.signal_graph.specs.declared.graph.Edge.{Edge}
use Rattle.signal_graph.specs.declared.graph.Node.{Node}
use Rattle.signal_graph.specs.Flat.{Expr, raw, read, calculation, Parts, no_part, part, Body, word, value}

-- the word of each element, or node, by its number, at each sample
abbrev pub Words : Type 0
Words = Signals ℕ ℤ

-- word j of the input row of sample n
abbrev pub input_word : Rows → (n j : ℕ) → ℤ
input_word stream n j = slice_index_or (slice_index_or stream n []) j (pos 0)

-- operand k of a node
abbrev pub operand : List ℤ → ℕ → ℤ
operand values k = slice_index_or values k (pos 0)

-- the result of an operation from Add to Sel at the values of its operands
abbrev pub result : Op → Format → List ℤ → ℤ
result o fmt values = apply_of o fmt (operand values 0) (operand values 1) (operand values 2)

-- the value of an expression at sample n
module _ (words : Words) (n : ℕ) where
  abbrev mutual
    pub value_of : Expr → ℤ
    value_of (raw m) = m
    value_of (read e ago) = words e (pos n -ℤ pos ago)
    value_of (calculation o fmt parts) = result o fmt (values_of parts)

    pub values_of : Parts → List ℤ
    values_of no_part = []
    values_of (part x rest) = value_of x ∷ values_of rest

-- the word that a body gives at sample n
abbrev pub body_value : Rows → Words → ℕ → Body → ℤ
body_value stream words n (word j) = input_word stream n j
body_value stream words n (value x) = value_of words n x

-- an element that an expression reads, this many samples ago
abbrev mutual
  pub Reads : Expr → (element ago : ℕ) → Type 0
  Reads (raw m) e ago = ⊥
  Reads (read d k) e ago = (e ≡ d) × (ago ≡ k)
  Reads (calculation o fmt parts) e ago = PartsRead parts e ago

  pub PartsRead : Parts → (element ago : ℕ) → Type 0
  PartsRead no_part e ago = ⊥
  PartsRead (part x rest) e ago = Reads x e ago ⊎ PartsRead rest e ago

abbrev pub BodyReads : Body → (element ago : ℕ) → Type 0
BodyReads (word j) e ago = ⊥
BodyReads (value x) e ago = Reads x e ago

-- the words of operands at sample n
abbrev pub operand_words : Words → ℕ → List Edge → List ℤ
operand_words words n edges = map (λ (edge : Edge). words edge.node (pos n -ℤ pos edge.delay)) edges

-- the word that a node gives at sample n
abbrev pub given_by : Class → Rows → Words → ℕ → Node → ℤ
given_by input stream words n node = input_word stream n (to_nat node.arg)
given_by output stream words n node = operand (operand_words words n node.edges) 0
given_by constant stream words n node = node.arg
given_by _ stream words n node = result node.op node.fmt (operand_words words n node.edges)

abbrev pub node_value : Rows → Words → ℕ → Node → ℤ
node_value stream words n node = given_by (class_of node.op) stream words n node

-- a node to which one of the edges leads, this many samples ago
abbrev pub EdgesRead : List Edge → (v ago : ℕ) → Type 0
EdgesRead [] v ago = ⊥
EdgesRead (edge ∷ rest) v ago = ((v ≡ edge.node) × (ago ≡ edge.delay)) ⊎ EdgesRead rest v ago
