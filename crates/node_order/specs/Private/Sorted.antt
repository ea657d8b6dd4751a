-- Nodes that are in order as they stand.
use Rattle.std.specs.Prelude.{◌≡◌, ℕ, ◌<◌, List, length}
use Rattle.signal_graph.specs.declared.graph.Node.{Node}
use Rattle.node_order.specs.Topological.{nth, HasOperand}

-- each of the first n nodes comes behind its operands without a delay
abbrev pub IsSorted : List Node → ℕ → Type 0
IsSorted nodes n = (v u : ℕ) → v < n → HasOperand nodes v u → u < v

-- the numbers below n
pub record AreNumbers (n : ℕ) (numbers : List ℕ) : Type 0 where
  pub count : length numbers ≡ n
  pub each : (i : ℕ) → i < n → nth numbers i ≡ i
