-- The first element of a flat program that depends on itself without a delay.
use Rattle.std.specs.Prelude.{ℕ, ◌≤◌, Option, Some, None}
use Rattle.recurrences.specs.Systems.{DependsNow}
use Rattle.signal_graph.specs.Flat.{Program}
use Rattle.signal_graph.specs.FlatSolves.{IsElementNumber, ElementReads, IsFlatLoopless}

-- element e depends on itself without a delay, and no element before it does
pub record IsFirstLoop (p : Program) (e : ℕ) : Type 0 where
  pub element : IsElementNumber p e
  pub loops : DependsNow (ElementReads p) e e
  pub first : (d : ℕ) → IsElementNumber p d → DependsNow (ElementReads p) d d → e ≤ d

-- the first such element, if there is one
abbrev pub IsLoopIn : Program → Option ℕ → Type 0
IsLoopIn p None = IsFlatLoopless p
IsLoopIn p (Some e) = IsFirstLoop p e
