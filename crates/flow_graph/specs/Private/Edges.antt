-- The edges of the operands of nodes, by the numbers of words, of places and of elements.
use Rattle.std.specs.Prelude.{ℕ, ◌+◌, ◌<◌, List, length, slice_index_or, unwrap_or, ℤ}
use Rattle.std.specs.Option.{IsSome}
use Rattle.signal_graph.specs.GraphOf.{Operand, number, place, element}
use Rattle.signal_graph.specs.declared.graph.Edge.{Edge}
use Rattle.flow_graph.specs.Private.Words.{number_in}

module _ (words : List (ℤ × ℕ)) (places elements : List ℕ) (first : ℕ) where
  -- the edge of an operand of a node of an element whose places begin at the first
  abbrev pub edge_by : Operand → Edge
  edge_by (number m) = record { node = unwrap_or (number_in words m) 0; delay = 0 }
  edge_by (place k) = record { node = slice_index_or places (first + k) 0; delay = 0 }
  edge_by (element d ago) = record { node = slice_index_or elements d 0; delay = ago }

  -- what the operand names has a number
  abbrev pub HasNumber : Operand → Type 0
  HasNumber (number m) = IsSome (number_in words m)
  HasNumber (place k) = first + k < length places
  HasNumber (element d ago) = d < length elements
