-- The guarded image of a plan of several stages: what each microword holds and of which stage, and what registers and
-- cells hold at the start.
use Rattle.std.specs.Prelude.{◌≡◌, ℕ, ◌+◌, ◌*◌, ◌/◌, ◌%◌, ◌<◌, ◌≤◌, length, map, Contains, ℤ, pos, ◌+ℤ◌}
use Rattle.std.specs.Int.{int_rem_euclid}
use Rattle.std.specs.List.{AllPairs}
use Rattle.fix_word.specs.declared.operation.Op.{Op}
use Rattle.fix_word.specs.declared.operation.Op.TheVariants as op
use Rattle.datapath.specs.declared.types.Datapath.{Datapath}
use Rattle.plan_core.specs.Hardware.{unit_of, cells_on, tie_of}
use Rattle.plan_core.specs.declared.schedule.Transfer.{Transfer}
use Rattle.plan_core.specs.declared.plan.Plan.{Plan}
use Rattle.micro_image.specs.declared.image.Enable.{Enable}
use Rattle.micro_image.specs.declared.image.Issue.{Issue}
use Rattle.micro_image.specs.declared.image.Take.{Take}
use Rattle.micro_image.specs.Fields.{nth, no_unit}
use Rattle.micro_image.specs.Valid.{EnableBefore, TakeBefore}
use Rattle.plan_soundness.specs.Parts.{nodes_of, node_at, edge_at, unit_at, cycle_at, transfers_at, arc_at, register_at}
use Rattle.plan_soundness.specs.Parts.{ReadsThrough, IsTransferOf, ends_at, IsCopy}
use Rattle.plan_soundness.specs.ImageOf.{IsUnitOf, StartsWithOver, enable_of, take_of, width_of}
use Rattle.plan_soundness.specs.Samples.{past}
use Rattle.plan_soundness.specs.Overlap.{Overlap, shift_of}
use Rattle.overlap_sim.specs.declared.guarded.Guarded.{Guarded}
use Rattle.overlap_sim.specs.declared.guarded.GuardedWord.{GuardedWord}
use Rattle.overlap_sim.specs.declared.guarded.Staged.{Staged}
use Rattle.overlap_sim.specs.Guarded.{no_guarded, of_guarded, whole}

-- samples that are issued over so many stages, where no register keeps a word of before sample 0
abbrev pub overlap_of : (stages : ℕ) → Overlap
overlap_of stages = record { stages = stages; first = past }

-- the stage of a cycle of a sample
abbrev pub stage_of : Datapath → (cycle : ℕ) → ℕ
stage_of d cycle = cycle / d.period

-- The argument of the issue of node v. A machine slides the offset of an address by its own sample, and the issue is of
-- the sample so many stages before.
abbrev pub arg_by : Op → Datapath → Plan → (v : ℕ) → ℤ
arg_by op.Addr d p v =
    int_rem_euclid ((node_at p v).arg +ℤ pos (stage_of d (cycle_at p v))) (pos (cells_on d (tie_of d (unit_at p v))))
arg_by _ d p v = (node_at p v).arg

-- the issue of node v in machine sample m
pub record IsStagedIssueOf (d : Datapath) (p : Plan) (v m : ℕ) (staged : Staged Issue) : Type 0 where
  pub stage : staged.stage ≡ stage_of d (cycle_at p v)
  pub unit : staged.part.unit ≡ unit_at p v
  pub op : staged.part.op ≡ (node_at p v).op
  pub fmt : staged.part.fmt ≡ (node_at p v).fmt
  pub arg : staged.part.arg ≡ arg_by (node_at p v).op d p v
  pub count : length staged.part.regs ≡ length (unit_of d (unit_at p v)).files
  -- at a port that is read, the register with the word of the sample of the issue, or of so many before
  pub read : (q k i : ℕ)
      → ReadsThrough p v q k
      → IsCopy (arc_at p k).copies (m + shift_of d p k) ((edge_at p v q).delay + stage_of d (cycle_at p v)) i
      → nth staged.part.regs q 0 ≡ register_at p k i
  pub unread : (q : ℕ) → length (node_at p v).edges ≤ q → nth staged.part.regs q 0 ≡ 0

-- the bus drive of a transfer of the result of node v, in the stage in which the result is there
abbrev pub staged_enable_of : Datapath → Plan → (v : ℕ) → Transfer → Staged Enable
staged_enable_of d p v transfer = record { part = enable_of p v transfer; stage = stage_of d (ends_at d p v) }

-- the register-file write of a transfer to lifetime k in machine sample m
abbrev pub staged_take_of : Datapath → Plan → (k : ℕ) → Transfer → (m : ℕ) → Staged Take
staged_take_of d p k transfer m = record { part = take_of p k transfer m; stage = shift_of d p k }

-- The microword of cycle c of machine sample m. It has the issue of each node that is issued in this cycle of a period,
-- and the enable and the take of each transfer of a result that is there in it. Nothing else is in it, and its
-- lists rise.
pub record IsStagedWordOf (d : Datapath) (p : Plan) (m c : ℕ) (word : GuardedWord) : Type 0 where
  pub issue : (v : ℕ)
      → v < length (nodes_of p)
      → cycle_at p v % d.period ≡ c
      → (staged : Staged Issue) × Contains word.issues staged × IsStagedIssueOf d p v m staged
  pub issue_only : (staged : Staged Issue)
      → Contains word.issues staged
      → (v : ℕ) × (v < length (nodes_of p)) × (cycle_at p v % d.period ≡ c) × IsStagedIssueOf d p v m staged
  pub enable : (v : ℕ) (transfer : Transfer)
      → v < length (nodes_of p)
      → ends_at d p v % d.period ≡ c
      → Contains (transfers_at p v) transfer
      → Contains word.enables (staged_enable_of d p v transfer)
  pub enable_only : (staged : Staged Enable)
      → Contains word.enables staged
      → (v : ℕ)
      × (transfer : Transfer)
      × (v < length (nodes_of p))
      × (ends_at d p v % d.period ≡ c)
      × Contains (transfers_at p v) transfer
      × (staged ≡ staged_enable_of d p v transfer)
  pub take : (k : ℕ) (transfer : Transfer)
      → IsTransferOf p k transfer
      → (arc_at p k).w ≡ c
      → Contains word.takes (staged_take_of d p k transfer m)
  pub take_only : (staged : Staged Take)
      → Contains word.takes staged
      → (k : ℕ)
      × (transfer : Transfer)
      × IsTransferOf p k transfer
      × ((arc_at p k).w ≡ c)
      × (staged ≡ staged_take_of d p k transfer m)
  pub issues_rise : AllPairs (λ (a b : Issue). a.unit < b.unit) (whole word.issues)
  pub enables_rise : AllPairs EnableBefore (whole word.enables)
  pub takes_rise : AllPairs TakeBefore (whole word.takes)

-- the guarded image of the plan, of samples over so many stages, on the datapath
pub record IsGuardedOf (stages : ℕ) (d : Datapath) (p : Plan) (guarded : Guarded) : Type 0 where
  pub period : guarded.period ≡ d.period
  pub unroll : guarded.unroll ≡ p.unroll
  pub inputs : guarded.inputs ≡ map width_of p.inputs
  pub outs : guarded.outs ≡ p.outs
  pub buses : guarded.buses ≡ length d.buses
  pub unit_count : length guarded.units ≡ length d.units
  pub units : (u : ℕ) → u < length d.units → IsUnitOf d u (nth guarded.units u no_unit)
  pub starts : StartsWithOver (overlap_of stages) d p (of_guarded guarded)
  pub word_count : length guarded.words ≡ p.unroll * d.period
  pub words : (m c : ℕ)
      → m < p.unroll
      → c < d.period
      → IsStagedWordOf d p m c (nth guarded.words (m * d.period + c) no_guarded)
