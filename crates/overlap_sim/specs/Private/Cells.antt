-- The cells of the first delay lines, with the words with which they start.
use Rattle.std.specs.Prelude.{◌≡◌, ℕ, ◌<◌, List, pos, slice_index_or}
use Rattle.datapath.specs.declared.types.Datapath.{Datapath}
use Rattle.signal_graph.specs.Rules.{word_before}
use Rattle.plan_core.specs.declared.plan.Plan.{Plan}
use Rattle.micro_image.specs.declared.image.UnitDesc.{UnitDesc}
use Rattle.micro_image.specs.Log.{Register, Cell}
use Rattle.plan_soundness.specs.Parts.{node_at, line_at}
use Rattle.plan_soundness.specs.ImageOf.{IsCellPreload}
use Rattle.microcode_asm.specs.Units.{held}
use Rattle.microcode_asm.specs.Private.Starts.{AreUnitsOf, inits_of, no_init}

module _ (d : Datapath) (p : Plan) where
  -- The units are those of the datapath. Of the first lines each cell that is read for a word of before sample 0 holds
  -- it. All other places hold 0.
  pub record AreCellsStarted (lines : ℕ) (units : List UnitDesc) : Type 0 where
    pub are : AreUnitsOf d units
    pub cell : (ram cell l ago : ℕ)
        → l < lines
        → IsCellPreload p ram cell l ago
        → held units (Cell ram cell) ≡ word_before (node_at p (line_at p l).node).inits ago
    pub other : (ram cell : ℕ)
        → ((l ago : ℕ) → l < lines → IsCellPreload p ram cell l ago → ⊥)
        → held units (Cell ram cell) ≡ pos 0
    pub register : (u q r : ℕ) → held units (Register u q r) ≡ pos 0

  -- and of the next line each cell whose word is one of its node's first initial values
  pub record AreCellsPut (l values : ℕ) (units : List UnitDesc) : Type 0 where
    pub are : AreUnitsOf d units
    pub before : (ram cell k ago : ℕ)
        → k < l
        → IsCellPreload p ram cell k ago
        → held units (Cell ram cell) ≡ word_before (node_at p (line_at p k).node).inits ago
    pub cell : (ram cell ago i : ℕ)
        → i < values
        → (slice_index_or (inits_of p l) i no_init).0 ≡ ago
        → IsCellPreload p ram cell l ago
        → held units (Cell ram cell) ≡ word_before (node_at p (line_at p l).node).inits ago
    pub other : (ram cell : ℕ)
        → ((k ago : ℕ) → k < l → IsCellPreload p ram cell k ago → ⊥)
        → ((ago i : ℕ)
        → i < values
        → (slice_index_or (inits_of p l) i no_init).0 ≡ ago
        → IsCellPreload p ram cell l ago
        → ⊥)
        → held units (Cell ram cell) ≡ pos 0
    pub register : (u q r : ℕ) → held units (Register u q r) ≡ pos 0
