-- Chains of arcs.
use Rattle.std.proofs.Common.{ℕ, ◌<◌, List, length}
use Rattle.std.proofs.lemmas.Option.{slice_get_within}
use Rattle.digraph.specs.Arcs.{HasArc, Reaches, by_arc, by_arcs}

-- a chain of arcs is one of other arcs that stand for them
pub carried : (Arc Other : ℕ → ℕ → Type 0)
    → ((v w : ℕ) → Arc v w → Other v w)
    → (v w : ℕ)
    → Reaches Arc v w
    → Reaches Other v w
carried Arc Other same v w (by_arc a) = by_arc (same v w a)
carried Arc Other same v x (by_arcs {w = w} a rest) = by_arcs (same v w a) (carried Arc Other same w x rest)

-- arcs lead from vertices alone
pub leaves : {arcs : List (List ℕ)} {v w : ℕ} → Reaches (HasArc arcs) v w → v < length arcs
leaves {arcs = arcs} (by_arc a) = slice_get_within arcs _ a.heads a.stands
leaves {arcs = arcs} (by_arcs a r) = slice_get_within arcs _ a.heads a.stands
