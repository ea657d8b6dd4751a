-- Edges and graphs with equal fields are equal.
use Rattle.std.proofs.Common.{◌≡◌, ap, ◌∙◌, ℕ, List}
use Rattle.std.specs.Prelude.{Option, Some}
use Rattle.fix_word.specs.declared.types.SigType.{SigType}
use Rattle.signal_graph.specs.declared.graph.Edge.{Edge}
use Rattle.signal_graph.specs.declared.graph.Node.{Node}
use Rattle.signal_graph.specs.declared.graph.Graph.{Graph}

pub some_once : {A : Type 0} (o : Option A) (x y : A) → o ≡ Some x → o ≡ Some y → x ≡ y
some_once o x y a b = cc

abbrev edge_of : ℕ → ℕ → Edge
edge_of v ago = record { node = v; delay = ago }

pub same_edge : (a b : Edge) → a.node ≡ b.node → a.delay ≡ b.delay → a ≡ b
same_edge a b h k = ap (λ (v : ℕ). edge_of v a.delay) h ∙ ap (λ (ago : ℕ). edge_of b.node ago) k

abbrev graph_of : List Node → List SigType → ℕ → Graph
graph_of nodes inputs outs = record { nodes = nodes; inputs = inputs; outs = outs }

pub same_graph : (a b : Graph) → a.nodes ≡ b.nodes → a.inputs ≡ b.inputs → a.outs ≡ b.outs → a ≡ b
same_graph a b h i k =
    ap (λ (nodes : List Node). graph_of nodes a.inputs a.outs) h
    ∙ ap (λ (inputs : List SigType). graph_of b.nodes inputs a.outs) i
    ∙ ap (λ (outs : ℕ). graph_of b.nodes b.inputs outs) k
