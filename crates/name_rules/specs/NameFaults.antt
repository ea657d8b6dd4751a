-- The faults of the names of a program, each with its rank.
use Rattle.std.specs.Prelude.{◌≡◌, ℕ, [], ◌∷◌, slice_get, Some, None}
use Rattle.fault_order.specs.Ranked.{FaultSet, FaultRow, faults_in, fault_where, no_faults, ◌before◌}
use Rattle.fault_order.specs.Rules.{faults}
use Rattle.silage_syntax.specs.Tree.{Func, Top, function, Program}
use Rattle.silage_syntax.specs.Names.{main_of}
use Rattle.name_rules.specs.TopNames.{top_at, top_names, IsDuplicate}
use Rattle.digraph.specs.Arcs.{Reaches}
use Rattle.name_rules.specs.Calls.{Calls}
use Rattle.name_rules.specs.NameRules.{all_top_rules}
use Rattle.name_rules.specs.declared.fault.NameFault.{NameFault}
use Rattle.name_rules.specs.declared.fault.NameFault.TheVariants.{Twice, Recursive, NoMain}

-- the fault of each table or function of which this holds, by its position
abbrev pub faults_of_tops : Program → (IsBroken : ℕ → Type 0) → (at : ℕ → NameFault) → FaultRow NameFault
faults_of_tops p IsBroken at k [] f = (t : Top) × (slice_get p.tops k ≡ Some t) × IsBroken k × (f ≡ at (top_at t))
faults_of_tops p IsBroken at k (_ ∷ _) f = ⊥

-- duplicate names of tables and functions, then the faults inside each of these, then functions that reach themselves
-- by calls, then that there is no main
abbrev pub name_faults : Program → FaultSet NameFault
name_faults p = faults_in (
    faults_in (faults_of_tops p (IsDuplicate (top_names p)) Twice)
    before faults (all_top_rules p)
    before faults_in (faults_of_tops p (λ k. Reaches (Calls p) k k) Recursive)
    before fault_where (main_of p ≡ None) NoMain
    before no_faults)

-- k is the position of the function main
pub record IsMain (p : Program) (k : ℕ) : Type 0 where
  pub func : Func
  pub is_main : main_of p ≡ Some func
  pub stands : slice_get p.tops k ≡ Some (function func)
