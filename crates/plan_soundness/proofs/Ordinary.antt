-- A feasible plan whose samples do not overlap: its facts within a period, and how they give those over all samples.
use Rattle.std.proofs.Common.{◌≡◌, ℕ, ◌+◌, ◌*◌, ◌%◌, ◌<◌, ◌≤◌, ap, arith, ⊎_elim, length, Contains}
use Rattle.std.proofs.lemmas.Bool.{cases_order}
use Rattle.std.proofs.Math.Nat.{div-eq_of_lt, mul-le-mul_right}
use Rattle.datapath.specs.declared.types.Datapath.{Datapath}
use Rattle.plan_core.specs.Hardware.{latency_on, gap_on, cells_on}
use Rattle.plan_core.specs.declared.schedule.Transfer.{Transfer}
use Rattle.plan_core.specs.declared.plan.Plan.{Plan}
use Rattle.plan_soundness.specs.Parts.{nodes_of, lines_of, edge_at, node_at, unit_at, cycle_at, transfers_at, arc_at}
use Rattle.plan_soundness.specs.Parts.{line_at}
use Rattle.plan_soundness.specs.Parts.{register_at, ends_at}
use Rattle.plan_soundness.specs.Samples.{past}
use Rattle.plan_soundness.specs.Overlap.{shift_of}
use Rattle.plan_soundness.specs.Feasible.{IsFeasible}
use Rattle.plan_soundness.specs.Executes.{register_in}
use Rattle.plan_soundness.proofs.Samples.{one_more, one_place}

-- Within a period.

-- what ends in the first period has no shift
pub no_shift : (d : Datapath) (p : Plan) (k : ℕ) → ends_at d p (arc_at p k).node < d.period → shift_of d p k ≡ 0
no_shift d p k below = div-eq_of_lt below

module _ (d : Datapath) (p : Plan) (plan : IsFeasible d p) where
  pub ends_in : (v : ℕ) → v < length (nodes_of p) → ends_at d p v < d.period
  ends_in v in-v = omega (arith, plan.fits v in-v)

  pub in_period : (v : ℕ) → v < length (nodes_of p) → cycle_at p v < d.period
  in_period v in-v = omega (arith, ends_in v in-v, plan.gaps (unit_at p v))

  -- two nodes of a sample on one unit are issued its gap apart
  pub unit_free : (u v : ℕ)
      → u < length (nodes_of p)
      → v < length (nodes_of p)
      → unit_at p u ≡ unit_at p v
      → cycle_at p u ≤ cycle_at p v
      → cycle_at p v < cycle_at p u + gap_on d (unit_at p u)
      → u ≡ v
  unit_free u v in-u in-v unit le below =
      (plan.unit_free u v 0 0 in-u in-v unit (omega (arith, le)) (omega (arith, below))).0

  pub bus_free : (u v : ℕ) (s t : Transfer)
      → u < length (nodes_of p)
      → v < length (nodes_of p)
      → Contains (transfers_at p u) s
      → Contains (transfers_at p v) t
      → ends_at d p u ≡ ends_at d p v
      → s.bus ≡ t.bus
      → u ≡ v
  bus_free u v s t in-u in-v in-s in-t ends bus =
      plan.bus_free u v 0 0 s t in-u in-v in-s in-t (omega (arith, ends)) bus

  pub shift_none : (k : ℕ) → k < length p.arcs → shift_of d p k ≡ 0
  shift_none k in-k = no_shift d p k (ends_in (arc_at p k).node (plan.arcs k in-k).node)

  pub written : (k : ℕ) → k < length p.arcs → (arc_at p k).w ≡ ends_at d p (arc_at p k).node
  written k in-k =
      omega (arith, (plan.arcs k in-k).written, ap (λ n. n * d.period) (shift_none k in-k))

  pub register_now : (k s : ℕ)
      → k < length p.arcs
      → register_in d p k s ≡ register_at p k (s % (arc_at p k).copies)
  register_now k s in-k =
      ap (λ n. register_at p k (n % (arc_at p k).copies)) (whole s (shift_of d p k) (shift_none k in-k))
    where
      whole : (s n : ℕ) → n ≡ 0 → s + n ≡ s
      whole s n e = omega (arith, e)

  pub delay_in : (v q : ℕ)
      → v < length (nodes_of p)
      → q < length (node_at p v).edges
      → (edge_at p v q).delay ≤ past
  delay_in v q in-v in-q = omega (arith, (plan.edges v q in-v in-q).1)

  -- a line has a cell more than its depth
  pub room : (l : ℕ)
      → l < length (lines_of p)
      → (line_at p l).offset + (line_at p l).depth < cells_on d (line_at p l).ram
  room l in-l = omega (arith, (plan.memory.lines l in-l).room)

-- Over all samples.

-- where operations end in the period, samples do not meet on a unit
samples_apart : (c e gap latency q s n : ℕ)
    → gap ≤ latency
    → c + latency ≤ q
    → s < n
    → e + n * q < c + s * q + gap
    → ⊥
samples_apart c e gap latency q s n most fits less near =
    let le : (s + 1) * q ≤ n * q = mul-le-mul_right q (omega (arith, less)) in
    omega (arith, le, one_more s q, most, fits, near)

-- and a later one is issued later
samples_rise : (c e q s n : ℕ) → e < q → n < s → c + s * q ≤ e + n * q → ⊥
samples_rise c e q s n below less le =
    let later : (n + 1) * q ≤ s * q = mul-le-mul_right q (omega (arith, less)) in
    omega (arith, later, one_more n q, below, le)

module _ (d : Datapath) (p : Plan) (gaps : (u : ℕ) → (0 < gap_on d u) × (gap_on d u ≤ latency_on d u))
    (fits : (v : ℕ) → v < length (nodes_of p) → cycle_at p v + latency_on d (unit_at p v) ≤ d.period) where
  pub end_below : (v : ℕ) → v < length (nodes_of p) → ends_at d p v < d.period
  end_below v in-v = omega (arith, fits v in-v, gaps (unit_at p v))

  -- what is its gap apart in a sample is so in all
  pub unit_free_in_all :
      ((u v : ℕ)
      → u < length (nodes_of p)
      → v < length (nodes_of p)
      → unit_at p u ≡ unit_at p v
      → cycle_at p u ≤ cycle_at p v
      → cycle_at p v < cycle_at p u + gap_on d (unit_at p u)
      → u ≡ v)
      → (u v s n : ℕ)
      → u < length (nodes_of p)
      → v < length (nodes_of p)
      → unit_at p u ≡ unit_at p v
      → cycle_at p u + s * d.period ≤ cycle_at p v + n * d.period
      → cycle_at p v + n * d.period < cycle_at p u + s * d.period + gap_on d (unit_at p u)
      → (u ≡ v) × (s ≡ n)
  unit_free_in_all free u v s n in-u in-v unit le near =
      ⊎_elim
      (λ (same : s ≡ n).
      let start : s * d.period ≡ n * d.period = ap (λ n. n * d.period) same in
      (free u v in-u in-v unit (omega (arith, le, start)) (omega (arith, near, start)), same))
      (λ other.
      ⊎_elim
      (λ (less : s < n).
      absurd (samples_apart (cycle_at p u) (cycle_at p v) (gap_on d (unit_at p u)) (latency_on d (unit_at p u)) d.period
      s n (gaps (unit_at p u)).1 (fits u in-u) less near))
      (λ (less : n < s).
      absurd (samples_rise (cycle_at p u) (cycle_at p v) d.period s n
      (omega (arith, fits v in-v, gaps (unit_at p v))) less le))
      other)
      (cases_order s n)

  -- what ends in one cycle of the run ends in one of the period
  pub ends_same : (u v m n : ℕ)
      → u < length (nodes_of p)
      → v < length (nodes_of p)
      → ends_at d p u + m * d.period ≡ ends_at d p v + n * d.period
      → ends_at d p u ≡ ends_at d p v
  ends_same u v m n in-u in-v e =
      (one_place (ends_at d p u) (ends_at d p v) m n d.period (end_below u in-u) (end_below v in-v) e).0

  -- what was written for a sample before sample 0 was written before the run
  pub ends_early : (v s : ℕ)
      → v < length (nodes_of p)
      → s < past
      → ends_at d p v + s * d.period < past * d.period
  ends_early v s in-v early =
      let le : (s + 1) * d.period ≤ past * d.period = mul-le-mul_right d.period (omega (arith, early)) in
      omega (arith, le, one_more s d.period, end_below v in-v)

  -- what a later sample reads ends before
  pub ends_before : (v ago : ℕ) → v < length (nodes_of p) → 0 < ago → ends_at d p v < ago * d.period
  ends_before v ago in-v some =
      let le : 1 * d.period ≤ ago * d.period = mul-le-mul_right d.period some in
      omega (arith, le, end_below v in-v)
