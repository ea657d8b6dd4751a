-- The registers of a file that are in use, and the place of one copy more.
use Rattle.std.specs.Prelude.{◌≡◌, ℕ, ◌<◌, List, ◌∷◌, [], None, slice_index_or, refl}
use Rattle.plan_core.specs.declared.registers.Arc.{Arc}
use Rattle.reg_alloc.specs.declared.circle.Occupancy.{Occupancy}
use Rattle.reg_alloc.specs.declared.fault.FileFault.{FileFault}
use Rattle.reg_alloc.specs.declared.fault.FileFault.TheVariants.{Full}
use Rattle.reg_alloc.specs.Private.Occupancies.{IsOfCopy, IsFree, IsJoined}

-- that of a register that is not in use
abbrev pub no_occupancy : Occupancy
no_occupancy = record { spans = None ∷ None ∷ None ∷ None ∷ []; full = refl }

-- register q
abbrev pub register_in : List Occupancy → ℕ → Occupancy
register_in registers q = slice_index_or registers q no_occupancy

abbrev pub full_at : Arc → FileFault
full_at arc = Full arc.port.unit arc.port.port arc.node

module _ (period samples : ℕ) where
  -- register q is the first that is free for the other one's words
  pub record IsFirstFree (registers : List Occupancy) (other : Occupancy) (q : ℕ) : Type 0 where
    pub free : IsFree period samples (register_in registers q) other
    pub least : (p : ℕ) → p < q → IsFree period samples (register_in registers p) other → ⊥

  module _ (arc : Arc) (copy size : ℕ) (old : List Occupancy) where
    -- the copy gets register q, which is below `size`
    pub record IsPlaced (q : ℕ) (new : List Occupancy) : Type 0 where
      pub other : Occupancy
      pub other_is : IsOfCopy period samples arc copy other
      pub first : IsFirstFree old other q
      pub within : q < size
      pub same : (p : ℕ) → (p ≡ q → ⊥) → register_in new p ≡ register_in old p
      pub joined : IsJoined (register_in old q) other (register_in new q)

    -- no register below `size` is free for the copy
    pub record IsFullFor : Type 0 where
      pub other : Occupancy
      pub other_is : IsOfCopy period samples arc copy other
      pub none : (q : ℕ) → q < size → IsFree period samples (register_in old q) other → ⊥
