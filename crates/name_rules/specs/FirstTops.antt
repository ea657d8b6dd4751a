-- The first table or function with a duplicate name, and the first function that reaches itself.
use Rattle.std.specs.Prelude.{◌≡◌, ℕ, ◌≤◌, Bool, false, List, slice_get, Some, bytes_eq, codes}
use Rattle.silage_syntax.specs.Tree.{Top, table, function, Program}
use Rattle.name_rules.specs.TopNames.{top_at, top_names, IsDuplicate}
use Rattle.digraph.specs.Arcs.{IsFirstCyclic}
use Rattle.name_rules.specs.Calls.{Calls}
use Rattle.name_rules.specs.declared.fault.NameFault.{NameFault}
use Rattle.name_rules.specs.declared.fault.NameFault.TheVariants.{Twice, Recursive}

-- no name has two places
abbrev pub IsDistinct : List (List ℕ) → Type 0
IsDistinct names = (k : ℕ) → ¬ IsDuplicate names k

-- the fault is that of the first table or function with a duplicate name
pub record IsFirstDuplicate (p : Program) (fault : NameFault) : Type 0 where
  pub place : ℕ
  pub duplicate : IsDuplicate (top_names p) place
  pub first : (k : ℕ) → IsDuplicate (top_names p) k → place ≤ k
  pub top : Top
  pub stands : slice_get p.tops place ≡ Some top
  pub told : fault ≡ Twice (top_at top)

-- the fault is that of the first function that reaches itself
pub record IsRecursive (p : Program) (fault : NameFault) : Type 0 where
  pub place : ℕ
  pub first : IsFirstCyclic (Calls p) place
  pub top : Top
  pub stands : slice_get p.tops place ≡ Some top
  pub told : fault ≡ Recursive (top_at top)

abbrev pub is_main : Top → Bool
is_main (table t) = false
is_main (function f) = bytes_eq f.name (codes "main")
