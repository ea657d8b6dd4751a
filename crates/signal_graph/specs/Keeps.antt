-- What it is for a graph to keep solutions: those of its flat program, over each stream of rows in the inputs' types,
-- and those of the graph that it was pruned from.
use Rattle.std.specs.Prelude.{◌≡◌, ℕ, ◌==◌, ◌<◌, ◌≤◌, true, List, All, length, position, Some, ℤ, pos, negsuc}
use Rattle.std.specs.List.{AllZip}
use Rattle.lists.specs.Rows.{Rows}
use Rattle.recurrences.specs.Kept.{KeepsSolutions}
use Rattle.fix_word.specs.declared.types.SigType.{SigType}
use Rattle.signal_graph.specs.Rules.{max_delay, IsInType}
use Rattle.signal_graph.specs.Flat.{Program}
use Rattle.signal_graph.specs.Values.{Words}
use Rattle.signal_graph.specs.FlatSolves.{IsElementNumber, flat_system, flat_out}
use Rattle.signal_graph.specs.GraphSolves.{IsNodeNumber, graph_system, graph_out}
use Rattle.signal_graph.specs.GraphOf.{Target, is_delayed, IsNumber, IsNodeOf}
use Rattle.signal_graph.specs.Pruned.{AreUsed}
use Rattle.signal_graph.specs.declared.graph.Graph.{Graph}

-- a row has one word for each input, in the range of its type
abbrev pub IsRowOf : List SigType → List ℤ → Type 0
IsRowOf inputs row = AllZip IsInType inputs row

-- the rows of a stream are rows of these inputs
abbrev pub IsStreamOf : List SigType → Rows → Type 0
IsStreamOf inputs stream = All (IsRowOf inputs) stream

-- node v is that of element e, aliases resolved
pub record IsElementNode (p : Program) (e v : ℕ) : Type 0 where
  pub target : Target
  pub node : IsNodeOf p e target
  pub number : IsNumber p target v

-- element e has one node in the graph
pub record HasOneNode (p : Program) (g : Graph) (e : ℕ) : Type 0 where
  pub node : ℕ
  pub there : IsNodeNumber g node
  pub its : IsElementNode p e node
  pub unique : (v : ℕ) → IsElementNode p e v → v ≡ node

-- The words of elements and of nodes are equal: each element has its node's word at each sample from sample 0 on, and
-- before sample 0 too where it is read with a delay. The output rows are equal.
pub record AreEqualWords (p : Program) (g : Graph) (stream : Rows) (words node_words : Words) : Type 0 where
  pub present : (e v n : ℕ)
      → IsElementNumber p e
      → IsElementNode p e v
      → n < length stream
      → node_words v (pos n) ≡ words e (pos n)
  pub past : (e v j : ℕ)
      → IsElementNumber p e
      → IsElementNode p e v
      → is_delayed p e ≡ true
      → j < max_delay
      → node_words v (negsuc j) ≡ words e (negsuc j)
  pub rows : (count : ℕ) → count ≤ length stream → graph_out g node_words count ≡ flat_out p words count

-- the graph has a node for each element, and keeps the solutions of the flat program
pub record KeepsFlatSolutions (p : Program) (g : Graph) : Type 0 where
  pub nodes : (e : ℕ) → IsElementNumber p e → HasOneNode p g e
  pub solutions : (stream : Rows)
      → IsStreamOf p.inputs stream
      → KeepsSolutions (flat_system p stream) (graph_system g stream) (AreEqualWords p g stream)

-- node u is kept where its graph is pruned, and then it is node v
pub record IsKeptAs (g : Graph) (u v : ℕ) : Type 0 where
  pub kept : List ℕ
  pub used : AreUsed g kept
  pub number : position (λ w. w == u) kept ≡ Some v

-- the words of each node that is kept are equal, and so are the output rows
pub record AreKeptWords (g pruned : Graph) (stream : Rows) (words kept_words : Words) : Type 0 where
  pub present : (u v n : ℕ) → IsKeptAs g u v → n < length stream → kept_words v (pos n) ≡ words u (pos n)
  pub past : (u v j : ℕ) → IsKeptAs g u v → j < max_delay → kept_words v (negsuc j) ≡ words u (negsuc j)
  pub rows : (count : ℕ) → count ≤ length stream → graph_out pruned kept_words count ≡ graph_out g words count

-- the pruned graph keeps the solutions of the graph
pub record KeepsGraphSolutions (g pruned : Graph) : Type 0 where
  pub solutions : (stream : Rows)
      → KeepsSolutions (graph_system g stream) (graph_system pruned stream) (AreKeptWords g pruned stream)
