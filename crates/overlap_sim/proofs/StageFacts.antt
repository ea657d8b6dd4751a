-- Facts of a plan of several stages whose guarded image is made.
use Rattle.std.proofs.Common.{◌≡◌, ℕ, ◌+◌, ◌*◌, ◌/◌, ◌%◌, ◌<◌, ◌≤◌, ap, ◌∙◌, arith, length}
use Rattle.std.proofs.Common.{pos}
use Rattle.std.specs.Prelude.{◌+ℤ◌}
use Rattle.std.specs.Int.{int_rem_euclid}
use Rattle.std.proofs.Math.Nat.{mod-lt, mod-add-mod}
use Rattle.datapath.specs.declared.types.Datapath.{Datapath}
use Rattle.datapath.specs.declared.types.Unit as of_unit
use Rattle.datapath.specs.Allowed.{IsUnit}
use Rattle.datapath.proofs.DescribedKeys.{some_at}
use Rattle.fix_word.specs.declared.operation.Op.TheVariants as op
use Rattle.operations.specs.Units.{ports}
use Rattle.operations.specs.declared.units.Kind.TheVariants as kind
use Rattle.plan_core.specs.Hardware.{unit_of, no_unit, latency_on, gap_on, cells_on, tie_of, kind_of}
use Rattle.plan_core.specs.declared.plan.Plan.{Plan}
use Rattle.plan_soundness.specs.Machine.{IsMachine}
use Rattle.plan_soundness.specs.Parts.{nodes_of, node_at, unit_at, cycle_at, ends_at}
use Rattle.plan_soundness.specs.Units.{AreOnRightUnits}
use Rattle.plan_soundness.specs.Feasible.{IsFeasibleOver}
use Rattle.plan_soundness.proofs.Samples.{split, below_count}
use Rattle.plan_soundness.proofs.SomeWord.{enough_ports}
use Rattle.microcode_asm.proofs.PlanFacts.{latency_some}
use Rattle.overlap_plan.specs.IsStagePlan.{plan_of}
use Rattle.overlap_plan.specs.declared.plan.StagePlan.{StagePlan}
use Rattle.overlap_sim.specs.GuardedOf.{overlap_of}
use Rattle.overlap_sim.specs.Private.Staged.{IsStageReady}

-- an offset that is slid twice around its ram
pub slid_again : (o stage cells : ℕ)
    → int_rem_euclid (int_rem_euclid (pos o) (pos cells) +ℤ pos stage) (pos cells)
    ≡ int_rem_euclid (pos o +ℤ pos stage) (pos cells)
slid_again o stage cells = ap pos (mod-add-mod o cells stage)

-- the unit of an address is tied to a ram with cells
pub tied : (d : Datapath) (p : Plan)
    → IsMachine d
    → AreOnRightUnits d p.assigned
    → (v : ℕ)
    → v < length (nodes_of p)
    → (node_at p v).op ≡ op.Addr
    → (tie_of d (unit_at p v) < length d.units)
    × (0 < cells_on d (tie_of d (unit_at p v)))
    × (cells_on d (tie_of d (unit_at p v)) ≤ 65536)
tied d p machine assigned v in-v is =
    let of = (assigned.right v in-v).kind in
    let unit : IsUnit d.units (unit_of d (unit_at p v)) = machine.units (unit_at p v) no_unit of.there in
    let ram = some_at (λ (other : of_unit.Unit). other.kind ≡ kind.Ram) d.units (tie_of d (unit_at p v)) no_unit
    (unit.ram (of.kind ∙ ap kind_of is)) in
    let its : IsUnit d.units (unit_of d (tie_of d (unit_at p v))) =
    machine.units (tie_of d (unit_at p v)) no_unit ram.0 in
    let cells = its.cells ram.1 in
    (ram.0, omega (arith, cells.0), cells.1)

module _ (d : Datapath) (sp : StagePlan) (ready : IsStageReady d sp) where
  abbrev p : Plan
  p = plan_of sp

  feasible : IsFeasibleOver (overlap_of sp.stages) d p
  feasible = ready.ready.plan.feasible

  -- what is in one cycle of the period is in one cycle of the run, in some samples
  meet : (a b : ℕ)
      → a % d.period ≡ b % d.period
      → a + b / d.period * d.period ≡ b + a / d.period * d.period
  meet a b same =
      let of-a : a ≡ a / d.period * d.period + a % d.period = split a d.period in
      let of-b : b ≡ b / d.period * d.period + b % d.period = split b d.period in
      omega (arith, of-a, of-b, same)

  -- a unit is issued one node in a cycle of the period
  pub one_node : (u v : ℕ)
      → u < length (nodes_of p)
      → v < length (nodes_of p)
      → unit_at p u ≡ unit_at p v
      → cycle_at p u % d.period ≡ cycle_at p v % d.period
      → u ≡ v
  one_node u v in-u in-v unit same =
      let gap : 0 < gap_on d (unit_at p u) = (feasible.gaps (unit_at p u)).0 in
      let at = meet (cycle_at p u) (cycle_at p v) same in
      (feasible.unit_free u v (cycle_at p v / d.period) (cycle_at p u / d.period) in-u in-v unit
      (omega (arith, at)) (omega (arith, at, gap))).0

  -- and the result of one node is there on it in a cycle of the period
  pub one_end : (u v : ℕ)
      → u < length (nodes_of p)
      → v < length (nodes_of p)
      → unit_at p u ≡ unit_at p v
      → ends_at d p u % d.period ≡ ends_at d p v % d.period
      → u ≡ v
  one_end u v in-u in-v unit same =
      let gap : 0 < gap_on d (unit_at p u) = (feasible.gaps (unit_at p u)).0 in
      let latency : latency_on d (unit_at p u) ≡ latency_on d (unit_at p v) = ap (latency_on d) unit in
      let some : 0 < latency_on d (unit_at p u) = latency_some d p ready.ready (unit_at p u) in
      let at = meet (ends_at d p u) (ends_at d p v) same in
      (feasible.unit_free u v (ends_at d p v / d.period) (ends_at d p u / d.period) in-u in-v unit
      (omega (arith, at, latency, some)) (omega (arith, at, latency, some, gap))).0

  pub in_period : (t : ℕ) → t % d.period < d.period
  in_period t = mod-lt t feasible.period

  pub period_some : 0 < d.period
  period_some = feasible.period

  few_stages : (t : ℕ) → t < sp.stages * d.period → t / d.period < 256
  few_stages t below =
      let stage : t / d.period < sp.stages =
      below_count (t / d.period) d.period t sp.stages (omega (arith, split t d.period)) below in
      omega (arith, stage, ready.few)

  -- a stage is a small number
  pub end_stage : (v : ℕ) → v < length (nodes_of p) → ends_at d p v / d.period < 256
  end_stage v in-v = few_stages (ends_at d p v) (feasible.fits v in-v)

  pub issue_stage : (v : ℕ) → v < length (nodes_of p) → cycle_at p v / d.period < 256
  issue_stage v in-v =
      let end : ends_at d p v < sp.stages * d.period = feasible.fits v in-v in
      few_stages (cycle_at p v) (omega (arith, end))

  -- a unit has a port for each operand of a node that is on it
  pub ports_for : (v : ℕ)
      → v < length (nodes_of p)
      → length (node_at p v).edges ≤ length (unit_of d (unit_at p v)).files
  ports_for v in-v =
      let unit : IsUnit d.units (unit_of d (unit_at p v)) =
      ready.ready.machine.units (unit_at p v) no_unit (feasible.units v in-v) in
      let same = (ready.ready.plan.assigned.right v in-v).kind.kind in
      omega (
        arith,
        feasible.operand_count v in-v,
        enough_ports (node_at p v).op,
        unit.file_count,
        ap ports same,
      )

  -- the unit of an address is tied to a ram with cells
  pub tied_cells : (v : ℕ)
      → v < length (nodes_of p)
      → (node_at p v).op ≡ op.Addr
      → (tie_of d (unit_at p v) < length d.units)
      × (0 < cells_on d (tie_of d (unit_at p v)))
      × (cells_on d (tie_of d (unit_at p v)) ≤ 65536)
  tied_cells v in-v is = tied d p ready.ready.machine ready.ready.plan.assigned v in-v is
