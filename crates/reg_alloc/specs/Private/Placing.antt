-- The registers of the first copies, and when the registers of a file hold their words.
use Rattle.std.specs.Prelude.{◌≡◌, ℕ, ◌+◌, ◌%◌, ◌<◌, ◌≤◌, ◌⊎◌, List, length, slice_index_or, [], Option, Some, None}
use Rattle.operations.specs.declared.units.PortRef.{PortRef}
use Rattle.datapath.specs.declared.types.Datapath.{Datapath}
use Rattle.plan_core.specs.Arcs.{arc_of}
use Rattle.plan_core.specs.FirstFit.{register_of}
use Rattle.plan_core.specs.Refusals.{HaveRegistersBefore}
use Rattle.plan_core.specs.declared.registers.Arc.{Arc}
use Rattle.reg_alloc.specs.declared.circle.Span.{Span}
use Rattle.reg_alloc.specs.declared.circle.Occupancy.{Occupancy}
use Rattle.reg_alloc.specs.Private.Spans.{span_of}
use Rattle.reg_alloc.specs.Private.Occupancies.{span_at}
use Rattle.reg_alloc.specs.Private.Files.{register_in}

-- which copies of lifetimes have which registers: copy j of arc l has register q
module _ (period samples : ℕ) (arcs : List Arc) (Has : (l j q : ℕ) → Type 0) where
  -- the word of sample n of arc l comes into register q
  abbrev pub Comes : (q n l : ℕ) → Type 0
  Comes q n l = Has l (n % (arc_of arcs l).copies) q

  -- the span of the words of sample n in register q: from the first write to the last read
  pub record IsHull (q n : ℕ) (span : Span) : Type 0 where
    pub begins : (l : ℕ) → Comes q n l → span.after ≤ (span_of period (arc_of arcs l) n).after
    pub ends : (l : ℕ) → Comes q n l → (span_of period (arc_of arcs l) n).upto ≤ span.upto
    pub first : (l : ℕ) × Comes q n l × (span.after ≡ (span_of period (arc_of arcs l) n).after)
    pub last : (l : ℕ) × Comes q n l × (span.upto ≡ (span_of period (arc_of arcs l) n).upto)

  -- it is this one, or no word of sample n comes into register q
  abbrev pub IsHullOrNone : (q n : ℕ) → Option Span → Type 0
  IsHullOrNone q n None = (l : ℕ) → Comes q n l → ⊥
  IsHullOrNone q n (Some span) = IsHull q n span

  -- the registers hold the words of the copies that have them
  abbrev pub AreOccupied : List Occupancy → Type 0
  AreOccupied registers =
      (q n : ℕ) → n < samples → IsHullOrNone q n (span_at (register_in registers q) n)

-- copy j of arc l is before copy i of arc k in the list, in the file of this port, and has register q
pub record HasBefore (arcs : List Arc) (regs : List (List ℕ)) (port : PortRef) (k i l j q : ℕ) : Type 0 where
  pub before : (l < k) ⊎ ((l ≡ k) × (j < i))
  pub copy : j < (arc_of arcs l).copies
  pub file : (arc_of arcs l).port ≡ port
  pub its_register : register_of regs l j ≡ q

-- The copies before copy i of arc k have their registers, and this is when the registers in the file of the port
-- hold words.
pub record AreAllottedBefore (d : Datapath) (samples : ℕ) (arcs : List Arc) (regs : List (List ℕ)) (port : PortRef)
    (registers : List Occupancy) (k i : ℕ) : Type 0 where
  pub have : HaveRegistersBefore d samples arcs regs k i
  pub occupied : AreOccupied d.period samples arcs (HasBefore arcs regs port k i) registers

-- the arcs before arc k have registers for their copies, and the last of them is in the file of this port
pub record AreRegistersOf (arcs : List Arc) (regs : List (List ℕ)) (port : PortRef) (k : ℕ) : Type 0 where
  pub count : length regs ≡ k
  pub copies : (l : ℕ) → l < k → length (slice_index_or regs l []) ≡ (arc_of arcs l).copies
  pub last : (l : ℕ) → l + 1 ≡ k → (arc_of arcs l).port ≡ port
