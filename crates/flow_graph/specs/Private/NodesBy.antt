-- The nodes that are made, by what their elements and the numbers of other nodes give.
use Rattle.std.specs.Prelude.{◌≡◌, ℕ, ◌==◌, not, Bool, true, false, All, List, [], map, take, slice_get, Option, Some}
use Rattle.std.specs.Prelude.{None, ℤ, pos}
use Rattle.std.specs.List.{AllZip}
use Rattle.fix_word.specs.Words.{IsMachineWord}
use Rattle.fix_word.specs.declared.operation.Op.TheVariants as op
use Rattle.signal_graph.specs.Operations.{class_of}
use Rattle.signal_graph.specs.Rules.{plain}
use Rattle.signal_graph.specs.Flat.{Program}
use Rattle.signal_graph.specs.GraphOf.{Operand, Made, nothing, constant, input, operation, Site, IsLeastWidth}
use Rattle.signal_graph.specs.GraphOf.{node_format, node_width, sites, node_sites, IsMade}
use Rattle.signal_graph.specs.declared.graph.Edge.{Edge}
use Rattle.signal_graph.specs.declared.graph.Node.{Node}
use Rattle.flow_graph.specs.Private.Nodes.{nodes_of}

abbrev pub IsSomething : Made → Type 0
IsSomething nothing = ⊥
IsSomething _ = Unit {0}

-- a node can be made: what its operands name has a number
abbrev pub CanBeMade : (HasNumber : Operand → Type 0) → Made → Type 0
CanBeMade HasNumber nothing = ⊥
CanBeMade HasNumber (constant m) = IsMachineWord m
CanBeMade HasNumber (input j) = Unit {0}
CanBeMade HasNumber (operation o fmt operands) = All HasNumber operands

-- the node of an element with this width, with these initial values, where each operand has this edge
abbrev pub IsNodeBy : (width : ℕ) → (inits : List (ℕ × ℤ)) → (Operand → Edge) → Made → Node → Type 0
IsNodeBy width inits edge nothing node = ⊥
IsNodeBy width inits edge (constant m) node =
    IsLeastWidth m node.width
    × (node ≡ record { op = op.Const; fmt = plain 0; arg = m; edges = []; inits = []; width = node.width; ram = 0 })
IsNodeBy width inits edge (input j) node =
    node ≡ record { op = op.Input; fmt = plain 0; arg = pos j; edges = []; inits = inits; width = width; ram = 0 }
IsNodeBy width inits edge (operation o fmt operands) node =
    node ≡ record {
      op = o;
      fmt = node_format (class_of o) fmt;
      arg = pos 0;
      edges = map edge operands;
      inits = inits;
      width = node_width (class_of o) fmt;
      ram = 0;
    }

-- whether a node is made at the place that has the number, where there are so many nodes before
abbrev pub is_made_by : (number count : ℕ) → Made → Bool
is_made_by number count nothing = false
is_made_by number count (constant m) = number == count
is_made_by number count _ = true

-- whether the next place is of another element than this one
abbrev pub is_end_before : Option Site → (element : ℕ) → Bool
is_end_before None e = true
is_end_before (Some s) e = not (s.element == e)

-- the node is that of the place at the index
abbrev pub IsMadeAt : Program → (index : ℕ) → Node → Type 0
IsMadeAt p index node = (s : Site) → slice_get (sites p) index ≡ Some s → IsMade p s s.made node

abbrev pub IsSomethingAt : Program → (index : ℕ) → Type 0
IsSomethingAt p index = (s : Site) → slice_get (sites p) index ≡ Some s → IsSomething s.made

-- the nodes are those that are made at the first places
abbrev pub AreMadeUpTo : Program → (count : ℕ) → List Node → Type 0
AreMadeUpTo p count nodes =
    AllZip (λ (s : Site) (node : Node). IsMade p s s.made node) (nodes_of (take count (sites p))) nodes

-- they are those of all places
abbrev pub AreMade : Program → List Node → Type 0
AreMade p nodes = AllZip (λ (s : Site) (node : Node). IsMade p s s.made node) (node_sites p) nodes
