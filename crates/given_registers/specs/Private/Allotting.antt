-- The copies that have their registers, one after another.
use Rattle.std.specs.Prelude.{◌≡◌, ◌⊎◌, ℕ, ◌<◌, List, [], length, slice_index_or}
use Rattle.datapath.specs.declared.types.Datapath.{Datapath}
use Rattle.plan_core.specs.Hardware.{file_size}
use Rattle.plan_core.specs.Arcs.{arc_of}
use Rattle.plan_core.specs.FirstFit.{register_of, IsListedBefore}
use Rattle.plan_core.specs.declared.registers.Arc.{Arc}
use Rattle.reg_alloc.specs.Private.Spans.{IsOnCircle}
use Rattle.given_registers.specs.Around.{given_at, IsForCopy, IsFor, AreBeside, IsGiven, IsGivenAt, HasRegister}
use Rattle.given_registers.specs.declared.fault.RegisterFault.{RegisterFault}
use Rattle.given_registers.specs.declared.fault.RegisterFault.TheVariants.{Full}
use Rattle.given_registers.specs.declared.given.GivenRegister.{GivenRegister}
use Rattle.given_registers.specs.declared.circle.Allotted.{Allotted}

abbrev pub none_allotted : Allotted
none_allotted = record { arc = 0; copy = 0; register = 0 }

abbrev pub allotted_at : List Allotted → ℕ → Allotted
allotted_at allotted t = slice_index_or allotted t none_allotted

-- each is a copy of one of the lifetimes
abbrev pub AreCopies : List Arc → List Allotted → Type 0
AreCopies arcs allotted = (t : ℕ) → t < length allotted → (allotted_at allotted t).arc < length arcs

-- each lifetime begins in the period and has ended when its last copy is written again
abbrev pub AreOnCircle : (period : ℕ) → List Arc → Type 0
AreOnCircle period arcs = (l : ℕ) → l < length arcs → IsOnCircle period (arc_of arcs l)

-- the register is given for one of the copies of the lifetime
pub record IsForOne (g : GivenRegister) (arc : Arc) : Type 0 where
  pub there : g.copy < arc.copies
  pub its : IsForCopy g arc g.copy

-- the register is given for copy i of arc k
abbrev pub IsGivenRegister : List GivenRegister → List Arc → (k i register : ℕ) → Type 0
IsGivenRegister given arcs k i register =
    (n : ℕ) × IsGivenAt given arcs n k i × (register ≡ (given_at given n).register)

-- the other copy has another register, or is in another file, or shares no cycle with copy i of arc k
abbrev pub Leaves : (period unroll : ℕ) → List Arc → Allotted → (k i register : ℕ) → Type 0
Leaves period unroll arcs other k i register =
    other.register ≡ register → AreBeside period unroll arcs other.arc other.copy k i

-- none of them that has the register in this file shares a cycle with copy i of arc k
abbrev pub IsClear : (period unroll : ℕ) → List Arc → List Allotted → (k i register : ℕ) → Type 0
IsClear period unroll arcs allotted k i register =
    (t : ℕ) → t < length allotted → Leaves period unroll arcs (allotted_at allotted t) k i register

-- one of them that has the register in this file shares a cycle with copy i of arc k
pub record IsMet (period unroll : ℕ) (arcs : List Arc) (allotted : List Allotted) (k i register : ℕ) : Type 0 where
  pub t : ℕ
  pub there : t < length allotted
  pub meet : Leaves period unroll arcs (allotted_at allotted t) k i register → ⊥

-- it is the first below `size` with which none does
pub record IsFirstClear (period unroll : ℕ) (arcs : List Arc) (allotted : List Allotted) (k i size register : ℕ) :
    Type 0 where
  pub within : register < size
  pub clear : IsClear period unroll arcs allotted k i register
  pub least : (q : ℕ) → q < register → IsClear period unroll arcs allotted k i q → ⊥

-- there is none below `size`
abbrev pub IsNoneClear : (period unroll : ℕ) → List Arc → List Allotted → (k i size : ℕ) → Type 0
IsNoneClear period unroll arcs allotted k i size =
    (register : ℕ) → register < size → IsClear period unroll arcs allotted k i register → ⊥

module _ (d : Datapath) (unroll : ℕ) (given : List GivenRegister) (arcs : List Arc) (allotted : List Allotted)
    (k i : ℕ) where
  -- copy i of arc k gets the register: it is given for it, or it is the first that is clear
  abbrev pub IsItsRegister : (register : ℕ) → Type 0
  IsItsRegister register =
      IsGivenRegister given arcs k i register
      ⊎ ((IsGiven given arcs k i → ⊥)
      × IsFirstClear d.period unroll arcs allotted k i (file_size d (arc_of arcs k).port) register)

  -- none is given for it, and none is clear
  pub record IsFullFor : Type 0 where
    pub ungiven : IsGiven given arcs k i → ⊥
    pub none : IsNoneClear d.period unroll arcs allotted k i (file_size d (arc_of arcs k).port)

-- the fault where a file is full
abbrev pub full_at : Arc → RegisterFault
full_at arc = Full arc.port.unit arc.port.port arc.node

module _ (given : List GivenRegister) (arcs : List Arc) where
  -- these are the copies of the first given registers
  pub record AreOfGiven (allotted : List Allotted) : Type 0 where
    pub each : (m : ℕ)
        → m < length allotted
        → IsFor arcs (given_at given m) (allotted_at allotted m).arc (allotted_at allotted m).copy
    pub register : (m : ℕ)
        → m < length allotted
        → (allotted_at allotted m).register ≡ (given_at given m).register

  module _ (regs : List (List ℕ)) (k i : ℕ) where
    -- copy j of arc l has the register: it is given for it, or the copy is before copy i of arc k
    pub record IsBefore (l j register : ℕ) : Type 0 where
      pub listed : IsListedBefore l j k i
      pub copy : j < (arc_of arcs l).copies
      pub its : register_of regs l j ≡ register

    pub record IsOfGiven (l j register : ℕ) : Type 0 where
      pub n : ℕ
      pub at : IsGivenAt given arcs n l j
      pub its : (given_at given n).register ≡ register

    -- these are the copies with given registers, and those before copy i of arc k
    pub record AreTaken (allotted : List Allotted) : Type 0 where
      pub each : (t : ℕ)
          → t < length allotted
          → IsOfGiven (allotted_at allotted t).arc (allotted_at allotted t).copy (allotted_at allotted t).register
          ⊎ IsBefore (allotted_at allotted t).arc (allotted_at allotted t).copy (allotted_at allotted t).register
      pub given_in : (l j register : ℕ)
          → IsOfGiven l j register
          → (t : ℕ)
          × (t < length allotted)
          × (allotted_at allotted t ≡ record { arc = l; copy = j; register = register })
      pub before_in : (l j register : ℕ)
          → IsBefore l j register
          → (t : ℕ)
          × (t < length allotted)
          × (allotted_at allotted t ≡ record { arc = l; copy = j; register = register })

-- each copy that stands in the list before copy i of arc k has its register
abbrev pub HaveRegistersBefore : (d : Datapath) (unroll : ℕ)
    → List GivenRegister
    → List Arc
    → List (List ℕ)
    → (k i : ℕ)
    → Type 0
HaveRegistersBefore d unroll given arcs regs k i =
    (l j : ℕ) → IsListedBefore l j k i → j < (arc_of arcs l).copies → HasRegister d unroll given arcs regs l j

-- the arcs before arc k have registers for their copies
pub record AreRowsOf (arcs : List Arc) (k : ℕ) (regs : List (List ℕ)) : Type 0 where
  pub count : length regs ≡ k
  pub copies : (l : ℕ) → l < k → length (slice_index_or regs l []) ≡ (arc_of arcs l).copies

-- the copies of the arcs before arc k have theirs, and these are all that do, beside those with given registers
pub record AreAllottedUpTo (d : Datapath) (unroll : ℕ) (given : List GivenRegister) (arcs : List Arc) (k : ℕ)
    (allotted : List Allotted) (regs : List (List ℕ)) : Type 0 where
  pub rows : AreRowsOf arcs k regs
  pub have : HaveRegistersBefore d unroll given arcs regs k 0
  pub taken : AreTaken given arcs regs k 0 allotted
