-- A constant that no output reads is pruned, and the nodes after it have new numbers.
use Rattle.std.proofs.Common.{◌≡◌, refl, subst, arith, ℕ, zero, suc, ◌+◌, ◌<◌, inl, inr, List, [], ◌∷◌}
use Rattle.std.specs.Prelude.{pos, Contains, slice_index, slice_index_or}
use Rattle.fix_word.specs.declared.operation.Op.TheVariants as op
use Rattle.signal_graph.specs.declared.graph.Node.{Node}
use Rattle.signal_graph.specs.declared.graph.Graph.{Graph}
use Rattle.signal_graph.specs.Rules.{plain}
use Rattle.signal_graph.specs.GraphSolves.{node_of, HasEdge}
use Rattle.signal_graph.specs.Pruned.{IsUsed, output, read, AreUsed, IsPruned}
use Rattle.signal_graph.proofs.Examples.{byte, edge, input_node}

abbrev seven : Node
seven = record { op = op.Const; fmt = plain 0; arg = pos 7; edges = []; inits = []; width = 4; ram = 0 }

-- the input three samples ago
abbrev pass_node : Node
pass_node = record { op = op.Pass; fmt = plain 8; arg = pos 0; edges = edge 0 3 ∷ []; inits = []; width = 8; ram = 0 }

abbrev output_of : ℕ → Node
output_of k =
    record { op = op.Output; fmt = plain 0; arg = pos 0; edges = edge k 0 ∷ []; inits = []; width = 8; ram = 0 }

abbrev before : Graph
before = record { nodes = input_node ∷ seven ∷ pass_node ∷ output_of 2 ∷ []; inputs = byte ∷ []; outs = 1 }

abbrev after : Graph
after = record { nodes = input_node ∷ pass_node ∷ output_of 1 ∷ []; inputs = byte ∷ []; outs = 1 }

abbrev kept : List ℕ
kept = 0 ∷ 2 ∷ 3 ∷ []

output_used : IsUsed before 3
output_used = output (omega arith) refl

pass_used : IsUsed before 2
pass_used = read 0 output_used (inl (refl, refl))

input_used : IsUsed before 0
input_used = read 3 pass_used (inl (refl, refl))

-- no node reads the constant
unread : (v ago : ℕ) → HasEdge before v 1 ago → ⊥
unread zero ago h = absurd h
unread (suc zero) ago h = absurd h
unread (suc (suc zero)) ago (inl h) = let e = h.0 in omega arith
unread (suc (suc zero)) ago (inr h) = absurd h
unread (suc (suc (suc zero))) ago (inl h) = let e = h.0 in omega arith
unread (suc (suc (suc zero))) ago (inr h) = absurd h
unread (suc (suc (suc (suc v)))) ago h = absurd h

inside : (v u ago : ℕ) → HasEdge before v u ago → u < 4
inside zero u ago h = absurd h
inside (suc zero) u ago h = absurd h
inside (suc (suc zero)) u ago (inl h) = let e = h.0 in omega arith
inside (suc (suc zero)) u ago (inr h) = absurd h
inside (suc (suc (suc zero))) u ago (inl h) = let e = h.0 in omega arith
inside (suc (suc (suc zero))) u ago (inr h) = absurd h
inside (suc (suc (suc (suc v)))) u ago h = absurd h

constant_is_none : op.Const ≡ op.Output → ⊥
constant_is_none h = cc

apart : (v : ℕ) → IsUsed before v → v ≡ 1 → ⊥
apart v (output below is) e = constant_is_none (subst (λ (i : ℕ). (node_of before i).op ≡ op.Output) e is)
apart v (read {v = u} ago used there) e = unread u ago (subst (λ (i : ℕ). HasEdge before u i ago) e there)

below : (v : ℕ) → IsUsed before v → v < 4
below v (output lt is) = lt
below v (read {v = u} ago used there) = inside u v ago there

to_kept : (v : ℕ) → v < 4 → (v ≡ 1 → ⊥) → Contains kept v
to_kept zero lt other = (0, omega arith, refl)
to_kept (suc zero) lt other = absurd (other refl)
to_kept (suc (suc zero)) lt other = (1, omega arith, refl)
to_kept (suc (suc (suc zero))) lt other = (2, omega arith, refl)
to_kept (suc (suc (suc (suc v)))) lt other = absurd (omega arith)

from_kept : (v k : ℕ) → k < 3 → slice_index_or kept k v ≡ v → IsUsed before v
from_kept v zero lt h = subst (λ (i : ℕ). IsUsed before i) h input_used
from_kept v (suc zero) lt h = subst (λ (i : ℕ). IsUsed before i) h pass_used
from_kept v (suc (suc zero)) lt h = subst (λ (i : ℕ). IsUsed before i) h output_used
from_kept v (suc (suc (suc k))) lt h = absurd (omega arith)

rise : (k : ℕ) → k + 1 < 3 → slice_index kept k < slice_index kept (k + 1)
rise zero lt = omega arith
rise (suc zero) lt = omega arith
rise (suc (suc k)) lt = absurd (omega arith)

kept_used : AreUsed before kept
kept_used = record {
  rise = rise;
  used = λ v. (λ h. from_kept v h.0 h.1 h.2, λ h. to_kept v (below v h) (apart v h));
}

pruned : IsPruned before after
pruned = record {
  kept = kept;
  used = kept_used;
  inputs = refl;
  outs = refl;
  nodes = (
    record { edges = tt {0}; node = refl },
    (
      record { edges = (record { node = refl; delay = refl }, tt {0}); node = refl },
      (record { edges = (record { node = refl; delay = refl }, tt {0}); node = refl }, tt {0}),
    ),
  );
}
