-- Directed graphs: vertices are numbers, and the list at position v has the heads of the arcs from v.
use Rattle.std.specs.Prelude.{◌≡◌, ℕ, ◌<◌, ◌≤◌, List, Contains, length, slice_get, Option, Some, None}

-- an arc leads from v to w
pub record HasArc (arcs : List (List ℕ)) (v w : ℕ) : Type 0 where
  pub heads : List ℕ
  pub stands : slice_get arcs v ≡ Some heads
  pub has : Contains heads w

-- all arcs lead to vertices
abbrev pub IsWithin : List (List ℕ) → Type 0
IsWithin arcs = (v w : ℕ) → HasArc arcs v w → w < length arcs

-- one arc or more lead from v to w
pub data Reaches (Arc : ℕ → ℕ → Type 0) : ℕ → ℕ → Type 0 where
  by_arc : {v w : ℕ} → Arc v w → Reaches Arc v w
  by_arcs : {v w x : ℕ} → Arc v w → Reaches Arc w x → Reaches Arc v x

-- no vertex reaches itself
abbrev pub HasNoCycle : (ℕ → ℕ → Type 0) → Type 0
HasNoCycle Arc = (v : ℕ) → ¬ Reaches Arc v v

-- v is the first vertex that reaches itself
pub record IsFirstCyclic (Arc : ℕ → ℕ → Type 0) (v : ℕ) : Type 0 where
  pub cyclic : Reaches Arc v v
  pub first : (w : ℕ) → Reaches Arc w w → v ≤ w

-- the first vertex that reaches itself, if there is one
abbrev pub IsCycleIn : (ℕ → ℕ → Type 0) → Option ℕ → Type 0
IsCycleIn Arc None = HasNoCycle Arc
IsCycleIn Arc (Some v) = IsFirstCyclic Arc v
