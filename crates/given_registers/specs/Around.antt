-- Registers by first fit around those that are given: in each register file, in the order of the lifetimes and of
-- their copies, each copy for which none is given gets the least register in which no copy shares a cycle with it,
-- neither one for which it is given nor one before.
use Rattle.std.specs.Prelude.{◌≡◌, ◌⊎◌, ℕ, ◌<◌, List, [], length, slice_index_or}
use Rattle.datapath.specs.declared.types.Datapath.{Datapath}
use Rattle.plan_core.specs.Hardware.{port_of, file_size}
use Rattle.plan_core.specs.Arcs.{arc_of, IsArcFor, IsUnroll}
use Rattle.plan_core.specs.Circle.{AreApart}
use Rattle.plan_core.specs.FirstFit.{register_of, IsListedBefore}
use Rattle.plan_core.specs.declared.registers.Arc.{Arc}
use Rattle.given_registers.specs.declared.given.GivenRegister.{GivenRegister}

-- what stands in the place of a register that is not given
abbrev pub none_given : GivenRegister
none_given = record { node = 0; port = port_of 0 0; copy = 0; register = 0 }

-- number n of the given registers
abbrev pub given_at : List GivenRegister → ℕ → GivenRegister
given_at given n = slice_index_or given n none_given

-- the register is given for this copy of the lifetime
pub record IsForCopy (g : GivenRegister) (arc : Arc) (i : ℕ) : Type 0 where
  pub arc_is : IsArcFor g.node g.port arc
  pub copy_is : g.copy ≡ i

-- it is given for copy i of arc k, which is there
pub record IsFor (arcs : List Arc) (g : GivenRegister) (k i : ℕ) : Type 0 where
  pub there : k < length arcs
  pub copy : i < (arc_of arcs k).copies
  pub its : IsForCopy g (arc_of arcs k) i

-- if copy i of arc k and copy j of arc l are in one file, they share no cycle
abbrev pub AreBeside : (period unroll : ℕ) → List Arc → (k i l j : ℕ) → Type 0
AreBeside period unroll arcs k i l j =
    (arc_of arcs k).port ≡ (arc_of arcs l).port → AreApart period unroll (arc_of arcs k) i (arc_of arcs l) j

module _ (given : List GivenRegister) (arcs : List Arc) where
  -- number n of the given registers is for copy i of arc k
  pub record IsGivenAt (n k i : ℕ) : Type 0 where
    pub number : n < length given
    pub its : IsFor arcs (given_at given n) k i

  abbrev pub IsGiven : (k i : ℕ) → Type 0
  IsGiven k i = (n : ℕ) × IsGivenAt n k i

module _ (d : Datapath) (unroll : ℕ) (given : List GivenRegister) (arcs : List Arc) where
  -- copy i of arc k can have number n, beside those before it
  pub record CanHave (n k i : ℕ) : Type 0 where
    pub its : IsFor arcs (given_at given n) k i
    pub within : (given_at given n).register < file_size d (arc_of arcs k).port
    pub once : (m : ℕ) → m < n → IsFor arcs (given_at given m) k i → ⊥
    pub apart : (m l j : ℕ)
        → m < n
        → IsFor arcs (given_at given m) l j
        → (given_at given m).register ≡ (given_at given n).register
        → AreBeside d.period unroll arcs l j k i

  -- the copies of the first n of them can have them
  abbrev pub CanBeHad : (n : ℕ) → Type 0
  CanBeHad n = (m : ℕ) → m < n → (k : ℕ) × (i : ℕ) × CanHave m k i

  module _ (regs : List (List ℕ)) where
    -- the register is free for copy j of arc l
    pub record IsFree (l j register : ℕ) : Type 0 where
      pub from_given : (n k i : ℕ)
          → IsGivenAt given arcs n k i
          → (given_at given n).register ≡ register
          → AreBeside d.period unroll arcs k i l j
      pub from_before : (k i : ℕ)
          → IsListedBefore k i l j
          → i < (arc_of arcs k).copies
          → register_of regs k i ≡ register
          → AreBeside d.period unroll arcs k i l j

    -- copy j of arc l has a register that is given for it
    abbrev pub HasGiven : (l j : ℕ) → Type 0
    HasGiven l j = (n : ℕ) × IsGivenAt given arcs n l j × (register_of regs l j ≡ (given_at given n).register)

    -- none is given for it, and it has the least register that is free for it, in its file
    pub record HasFirst (l j : ℕ) : Type 0 where
      pub ungiven : IsGiven given arcs l j → ⊥
      pub free : IsFree l j (register_of regs l j)
      pub least : (register : ℕ) → register < register_of regs l j → IsFree l j register → ⊥
      pub within : register_of regs l j < file_size d (arc_of arcs l).port

    abbrev pub HasRegister : (l j : ℕ) → Type 0
    HasRegister l j = HasGiven l j ⊎ HasFirst l j

    pub record AreRegisters : Type 0 where
      pub count : length regs ≡ length arcs
      pub copies : (k : ℕ) → k < length arcs → length (slice_index_or regs k []) ≡ (arc_of arcs k).copies
      pub each : (k i : ℕ) → k < length arcs → i < (arc_of arcs k).copies → HasRegister k i

-- The registers of the lifetimes' copies around those that are given, each of which its copy can have. The circle has
-- as many samples as the greatest count of copies.
pub record AreAllottedAround (d : Datapath) (given : List GivenRegister) (arcs : List Arc) (regs : List (List ℕ)) :
    Type 0 where
  pub unroll : ℕ
  pub unroll_is : IsUnroll arcs unroll
  pub can : CanBeHad d unroll given arcs (length given)
  pub registers : AreRegisters d unroll given arcs regs
