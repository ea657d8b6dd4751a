-- The guarded words of a plan of several stages, as they are made.
use Rattle.std.specs.Prelude.{◌≡◌, ℕ, ◌+◌, ◌*◌, ◌%◌, ◌<◌, ◌≤◌, List, length, Contains, pos}
use Rattle.std.specs.List.{AllPairs}
use Rattle.fix_word.specs.declared.operation.Op.TheVariants as op
use Rattle.datapath.specs.declared.types.Datapath.{Datapath}
use Rattle.plan_core.specs.declared.schedule.Transfer.{Transfer}
use Rattle.plan_core.specs.declared.plan.Plan.{Plan}
use Rattle.micro_image.specs.declared.image.Enable.{Enable}
use Rattle.micro_image.specs.declared.image.Issue.{Issue}
use Rattle.micro_image.specs.declared.image.Take.{Take}
use Rattle.micro_image.specs.Fields.{nth}
use Rattle.micro_image.specs.Valid.{EnableBefore, TakeBefore}
use Rattle.plan_soundness.specs.Parts.{nodes_of, node_at, edge_at, unit_at, cycle_at, transfers_at, arc_at, register_at}
use Rattle.plan_soundness.specs.Parts.{ReadsThrough, IsTransferOf, ends_at, IsCopy}
use Rattle.plan_soundness.specs.Overlap.{shift_of}
use Rattle.bucket_sort.specs.Linked.{AreBuckets}
use Rattle.bucket_sort.specs.declared.Buckets.{Buckets}
use Rattle.microcode_asm.specs.Lifetimes.{AreKept, AreWritten}
use Rattle.microcode_asm.specs.Order.{IsUnitOrder}
use Rattle.microcode_asm.specs.Private.Linked.{IsReached}
use Rattle.microcode_asm.specs.Private.Ready.{IsReadyOver}
use Rattle.microcode_asm.specs.Private.Words.{node_in}
use Rattle.overlap_plan.specs.IsStagePlan.{plan_of}
use Rattle.overlap_plan.specs.declared.plan.StagePlan.{StagePlan}
use Rattle.overlap_sim.specs.declared.guarded.GuardedWord.{GuardedWord}
use Rattle.overlap_sim.specs.declared.guarded.Staged.{Staged}
use Rattle.overlap_sim.specs.declared.issues.Bound.{Bound}
use Rattle.overlap_sim.specs.declared.issues.Issuer.{Issuer}
use Rattle.overlap_sim.specs.Guarded.{no_guarded, whole}
use Rattle.overlap_sim.specs.GuardedOf.{overlap_of, stage_of, staged_enable_of, staged_take_of, IsStagedIssueOf}
use Rattle.overlap_sim.specs.GuardedOf.{IsStagedWordOf}

-- what is known of a plan whose guarded image is made
pub record IsStageReady (d : Datapath) (p : StagePlan) : Type 0 where
  pub ready : IsReadyOver (overlap_of p.stages) 0 p.stages d (plan_of p)
  pub few : p.stages ≤ 4
  -- the offsets of addresses are natural numbers
  pub offsets : (v : ℕ)
      → v < length (nodes_of (plan_of p))
      → (node_at (plan_of p) v).op ≡ op.Addr
      → (offset : ℕ) × ((node_at (plan_of p) v).arg ≡ pos offset)

-- by unit, by unit and bus, and by port, bus and register
abbrev pub IssueBefore : Staged Issue → Staged Issue → Type 0
IssueBefore a b = a.part.unit < b.part.unit

abbrev pub DriveBefore : Staged Enable → Staged Enable → Type 0
DriveBefore a b = EnableBefore a.part b.part

abbrev pub WriteBefore : Staged Take → Staged Take → Type 0
WriteBefore a b = TakeBefore a.part b.part

-- the drive of a bus in a stage
abbrev pub drive_in : (unit stage bus : ℕ) → Staged Enable
drive_in unit stage bus = record { part = record { unit = unit; bus = bus }; stage = stage }

module _ (d : Datapath) (p : Plan) where
  -- a node, with its unit and the stage in which it is issued
  pub record IsBound (bound : Bound) : Type 0 where
    pub node : bound.node < length (nodes_of p)
    pub unit : bound.unit ≡ unit_at p bound.node
    pub stage : bound.stage ≡ stage_of d (cycle_at p bound.node)

  -- the register of an issue of node v in machine sample m at port q
  pub record IsPortRegister (v m q register : ℕ) : Type 0 where
    pub read : (k i : ℕ)
        → ReadsThrough p v q k
        → IsCopy (arc_at p k).copies (m + shift_of d p k) ((edge_at p v q).delay + stage_of d (cycle_at p v)) i
        → register ≡ register_at p k i
    pub unread : length (node_at p v).edges ≤ q → register ≡ 0

  abbrev pub ArePortRegisters : (v m : ℕ) → List ℕ → Type 0
  ArePortRegisters v m registers = (q : ℕ) → q < length registers → IsPortRegister v m q (nth registers q 0)

  -- the cycles of the period in which the i-th node in order is issued, and in which its result is there
  abbrev pub issued_in : List ℕ → ℕ → ℕ
  issued_in order i = cycle_at p (node_in order i) % d.period

  abbrev pub ended_in : List ℕ → ℕ → ℕ
  ended_in order i = ends_at d p (node_in order i) % d.period

  abbrev pub written_in : ℕ → ℕ
  written_in k = (arc_at p k).w

  -- the issues in machine sample m of the cycle's nodes before the i-th one in order, which is the cycle's next
  abbrev pub AreIssuesTo : List ℕ → (m c i : ℕ) → List (Staged Issue) → Type 0
  AreIssuesTo order m c i issues =
      IsReached (issued_in order)
      (λ (j : ℕ) (issues : List (Staged Issue)).
      (issue : Staged Issue) × Contains issues issue × IsStagedIssueOf d p (node_in order j) m issue)
      (λ (j : ℕ) (issue : Staged Issue). IsStagedIssueOf d p (node_in order j) m issue)
      IssueBefore (length order) c i issues

  -- the drives of the nodes before the i-th one in order whose result is there in the cycle, as is next that one's
  abbrev pub AreEnablesTo : List ℕ → (c i : ℕ) → List (Staged Enable) → Type 0
  AreEnablesTo order c i enables =
      IsReached (ended_in order)
      (λ (j : ℕ) (enables : List (Staged Enable)). (transfer : Transfer)
      → Contains (transfers_at p (node_in order j)) transfer
      → Contains enables (staged_enable_of d p (node_in order j) transfer))
      (λ (j : ℕ) (enable : Staged Enable). (transfer : Transfer)
      × Contains (transfers_at p (node_in order j)) transfer
      × (enable ≡ staged_enable_of d p (node_in order j) transfer))
      DriveBefore (length order) c i enables

  -- the take of lifetime k in machine sample m
  pub record IsTakeFor (k m : ℕ) (take : Staged Take) : Type 0 where
    pub transfer : Transfer
    pub of : IsTransferOf p k transfer
    pub is : take ≡ staged_take_of d p k transfer m

  -- the takes in machine sample m of the cycle's lifetimes before lifetime k, which is the cycle's next
  abbrev pub AreTakesTo : (m c k : ℕ) → List (Staged Take) → Type 0
  AreTakesTo m c k takes =
      IsReached written_in
      (λ (j : ℕ) (takes : List (Staged Take)). (transfer : Transfer)
      → IsTransferOf p j transfer → Contains takes (staged_take_of d p j transfer m))
      (λ (j : ℕ) (take : Staged Take). IsTakeFor j m take)
      WriteBefore (length p.arcs) c k takes

  -- the issues of cycle c of machine sample m
  pub record HasIssues (m c : ℕ) (issues : List (Staged Issue)) : Type 0 where
    pub all : (v : ℕ)
        → v < length (nodes_of p)
        → cycle_at p v % d.period ≡ c
        → (staged : Staged Issue) × Contains issues staged × IsStagedIssueOf d p v m staged
    pub only : (staged : Staged Issue)
        → Contains issues staged
        → (v : ℕ) × (v < length (nodes_of p)) × (cycle_at p v % d.period ≡ c) × IsStagedIssueOf d p v m staged
    pub rise : AllPairs (λ (a b : Issue). a.unit < b.unit) (whole issues)

  -- the drives of cycle c of each machine sample
  pub record HasEnables (c : ℕ) (enables : List (Staged Enable)) : Type 0 where
    pub all : (v : ℕ) (transfer : Transfer)
        → v < length (nodes_of p)
        → ends_at d p v % d.period ≡ c
        → Contains (transfers_at p v) transfer
        → Contains enables (staged_enable_of d p v transfer)
    pub only : (staged : Staged Enable)
        → Contains enables staged
        → (v : ℕ)
        × (transfer : Transfer)
        × (v < length (nodes_of p))
        × (ends_at d p v % d.period ≡ c)
        × Contains (transfers_at p v) transfer
        × (staged ≡ staged_enable_of d p v transfer)
    pub rise : AllPairs EnableBefore (whole enables)

  -- the takes of cycle c of machine sample m
  pub record HasTakes (m c : ℕ) (takes : List (Staged Take)) : Type 0 where
    pub all : (k : ℕ) (transfer : Transfer)
        → IsTransferOf p k transfer
        → (arc_at p k).w ≡ c
        → Contains takes (staged_take_of d p k transfer m)
    pub only : (staged : Staged Take)
        → Contains takes staged
        → (k : ℕ)
        × (transfer : Transfer)
        × IsTransferOf p k transfer
        × ((arc_at p k).w ≡ c)
        × (staged ≡ staged_take_of d p k transfer m)
    pub rise : AllPairs TakeBefore (whole takes)

  -- a word for each cycle of the first machine samples
  pub record AreWords (samples : ℕ) (words : List GuardedWord) : Type 0 where
    pub count : length words ≡ samples * d.period
    pub each : (m c : ℕ)
        → m < samples
        → c < d.period
        → IsStagedWordOf d p m c (nth words (m * d.period + c) no_guarded)

  -- the words of the first cycles of machine sample m stand behind the old ones
  pub record AreBehind (m cycles : ℕ) (old new : List GuardedWord) : Type 0 where
    pub count : length new ≡ length old + cycles
    pub before : (x : ℕ) → x < length old → nth new x no_guarded ≡ nth old x no_guarded
    pub behind : (c : ℕ) → c < cycles → IsStagedWordOf d p m c (nth new (length old + c) no_guarded)

  -- the nodes in order by the cycle of the period in which they are issued, and by that in which their result is there
  abbrev pub AreIssued : List ℕ → Buckets → Type 0
  AreIssued order by = AreBuckets (issued_in order) d.period (length order) by

  abbrev pub AreEnded : List ℕ → Buckets → Type 0
  AreEnded order by = AreBuckets (ended_in order) d.period (length order) by

-- a plan with its nodes by unit, and these and its lifetimes by cycle, and lifetimes by node
pub record IsIssuer (issuer : Issuer) : Type 0 where
  pub ready : IsStageReady issuer.datapath.now issuer.plan.now
  pub order : IsUnitOrder issuer.plan.now.assigned issuer.order.now
  pub kept : AreKept (length issuer.plan.now.assigned.lowered.nodes) issuer.plan.now.arcs issuer.kept.now
  pub issued : AreIssued issuer.datapath.now (plan_of issuer.plan.now) issuer.order.now issuer.issued.now
  pub ended : AreEnded issuer.datapath.now (plan_of issuer.plan.now) issuer.order.now issuer.ended.now
  pub written : AreWritten issuer.datapath.now.period issuer.plan.now.arcs issuer.written.now
