-- Why lifetimes have no registers around those that are given.
use Rattle.std.specs.Prelude.{◌≡◌, ℕ, ◌<◌, ◌≤◌, List, length}
use Rattle.operations.specs.declared.units.PortRef.{PortRef}
use Rattle.datapath.specs.declared.types.Datapath.{Datapath}
use Rattle.plan_core.specs.Hardware.{port_of, file_size}
use Rattle.plan_core.specs.Arcs.{arc_of, IsUnroll}
use Rattle.plan_core.specs.FirstFit.{IsListedBefore}
use Rattle.plan_core.specs.declared.registers.Arc.{Arc}
use Rattle.given_registers.specs.Around.{given_at, IsFor, IsGiven, AreBeside, CanBeHad, IsFree, HasRegister}
use Rattle.given_registers.specs.declared.given.GivenRegister.{GivenRegister}
use Rattle.given_registers.specs.declared.fault.GivenCause.{GivenCause}
use Rattle.given_registers.specs.declared.fault.GivenCause.TheVariants.{NoCopy, NoRegister, Twice, Taken}
use Rattle.given_registers.specs.declared.fault.RegisterFault.{RegisterFault}
use Rattle.given_registers.specs.declared.fault.RegisterFault.TheVariants.{Given, Full, Memory}

module _ (d : Datapath) (unroll : ℕ) (given : List GivenRegister) (arcs : List Arc) where
  -- number n is for copy i of arc k, but the file has fewer registers
  pub record IsOutside (n k i : ℕ) : Type 0 where
    pub its : IsFor arcs (given_at given n) k i
    pub past : file_size d (arc_of arcs k).port ≤ (given_at given n).register

  -- it is in the file, but number m before it is for the same copy
  pub record IsSecond (n k i m : ℕ) : Type 0 where
    pub its : IsFor arcs (given_at given n) k i
    pub within : (given_at given n).register < file_size d (arc_of arcs k).port
    pub before : m < n
    pub same : IsFor arcs (given_at given m) k i

  -- it is the first for its copy, but number m before it gives the register to one that shares a cycle with this one
  pub record IsShared (n k i m l j : ℕ) : Type 0 where
    pub its : IsFor arcs (given_at given n) k i
    pub within : (given_at given n).register < file_size d (arc_of arcs k).port
    pub once : (p : ℕ) → p < n → IsFor arcs (given_at given p) k i → ⊥
    pub before : m < n
    pub other : IsFor arcs (given_at given m) l j
    pub same : (given_at given m).register ≡ (given_at given n).register
    pub meet : AreBeside d.period unroll arcs l j k i → ⊥

  -- why its copy cannot have number n
  abbrev pub IsCause : (n : ℕ) → GivenCause → Type 0
  IsCause n NoCopy = (k i : ℕ) → IsFor arcs (given_at given n) k i → ⊥
  IsCause n NoRegister = (k : ℕ) × (i : ℕ) × IsOutside n k i
  IsCause n Twice = (k : ℕ) × (i : ℕ) × (m : ℕ) × IsSecond n k i m
  IsCause n Taken = (k : ℕ) × (i : ℕ) × (m : ℕ) × (l : ℕ) × (j : ℕ) × IsShared n k i m l j

  -- number n is the first that its copy cannot have
  pub record IsFirstBad (n : ℕ) (cause : GivenCause) : Type 0 where
    pub there : n < length given
    pub before : CanBeHad d unroll given arcs n
    pub why : IsCause n cause

  -- The copies of all can have them, and copy i of arc k is given none and finds none: those before it in the list have
  -- theirs, and no register of its file is free for it.
  pub record IsWithoutRegister (port : PortRef) (node : ℕ) : Type 0 where
    pub can : CanBeHad d unroll given arcs (length given)
    pub regs : List (List ℕ)
    pub k : ℕ
    pub i : ℕ
    pub there : k < length arcs
    pub copy : i < (arc_of arcs k).copies
    pub ungiven : IsGiven given arcs k i → ⊥
    pub before : (l j : ℕ)
        → IsListedBefore l j k i
        → j < (arc_of arcs l).copies
        → HasRegister d unroll given arcs regs l j
    pub full : (register : ℕ)
        → register < file_size d (arc_of arcs k).port
        → IsFree d unroll given arcs regs k i register
        → ⊥
    pub port_is : port ≡ (arc_of arcs k).port
    pub node_is : node ≡ (arc_of arcs k).node

module _ (d : Datapath) (given : List GivenRegister) (arcs : List Arc) where
  -- where the circle has as many samples as the greatest count of copies
  pub record IsBad (n : ℕ) (cause : GivenCause) : Type 0 where
    pub unroll : ℕ
    pub unroll_is : IsUnroll arcs unroll
    pub first : IsFirstBad d unroll given arcs n cause

  pub record IsFull (port : PortRef) (node : ℕ) : Type 0 where
    pub unroll : ℕ
    pub unroll_is : IsUnroll arcs unroll
    pub none : IsWithoutRegister d unroll given arcs port node

  -- The fault is that of the first given register that its copy cannot have, else that of the first copy without one.
  -- To be out of memory is none.
  abbrev pub IsRegisterFault : RegisterFault → Type 0
  IsRegisterFault (Given n cause) = IsBad n cause
  IsRegisterFault (Full unit port node) = IsFull (port_of unit port) node
  IsRegisterFault Memory = ⊥
