-- What the words of a sample hold.
use Rattle.std.specs.Prelude.{◌≡◌, ℕ, ◌+◌, ◌*◌, ◌<◌, ◌≤◌, List, length, Contains}
use Rattle.std.specs.List.{AllPairs}
use Rattle.datapath.specs.declared.types.Datapath.{Datapath}
use Rattle.plan_core.specs.declared.schedule.Transfer.{Transfer}
use Rattle.plan_core.specs.declared.plan.Plan.{Plan}
use Rattle.micro_image.specs.declared.image.Enable.{Enable}
use Rattle.micro_image.specs.declared.image.Issue.{Issue}
use Rattle.micro_image.specs.declared.image.Take.{Take}
use Rattle.micro_image.specs.declared.image.Word.{Word}
use Rattle.micro_image.specs.Fields.{nth, no_word}
use Rattle.micro_image.specs.Valid.{EnableBefore, TakeBefore}
use Rattle.plan_soundness.specs.Parts.{nodes_of, node_at, edge_at, cycle_at, transfers_at, arc_at, register_at}
use Rattle.plan_soundness.specs.Parts.{ReadsThrough}
use Rattle.plan_soundness.specs.Parts.{IsTransferOf, ends_at, IsCopy}
use Rattle.plan_soundness.specs.ImageOf.{IsIssueOf, IsWordOf, enable_of, take_of}
use Rattle.microcode_asm.specs.Private.Ready.{IsReady}
use Rattle.bucket_sort.specs.Linked.{AreBuckets}
use Rattle.microcode_asm.specs.Private.Linked.{IsReached}
use Rattle.microcode_asm.specs.Order.{IsUnitOrder}
use Rattle.microcode_asm.specs.Lifetimes.{AreKept, AreWritten}
use Rattle.bucket_sort.specs.declared.Buckets.{Buckets}
use Rattle.microcode_asm.specs.declared.issues.Issuer.{Issuer}

-- the node that is the i-th one in order
abbrev pub node_in : List ℕ → ℕ → ℕ
node_in order i = nth order i 0

module _ (d : Datapath) (p : Plan) where
  -- the register of an issue of node v in sample n at port q
  pub record IsPortRegister (v n q register : ℕ) : Type 0 where
    pub read : (k i : ℕ)
        → ReadsThrough p v q k
        → IsCopy (arc_at p k).copies n (edge_at p v q).delay i
        → register ≡ register_at p k i
    pub unread : length (node_at p v).edges ≤ q → register ≡ 0

  -- the registers of an issue of node v in sample n
  abbrev pub ArePortRegisters : (v n : ℕ) → List ℕ → Type 0
  ArePortRegisters v n registers = (q : ℕ) → q < length registers → IsPortRegister v n q (nth registers q 0)

  -- the issues of cycle c of sample n
  pub record HasIssues (n c : ℕ) (issues : List Issue) : Type 0 where
    pub all : (v : ℕ)
        → v < length (nodes_of p)
        → cycle_at p v ≡ c
        → (issue : Issue) × Contains issues issue × IsIssueOf d p v n issue
    pub only : (issue : Issue)
        → Contains issues issue
        → (v : ℕ) × (v < length (nodes_of p)) × (cycle_at p v ≡ c) × IsIssueOf d p v n issue
    pub rise : AllPairs (λ (a b : Issue). a.unit < b.unit) issues

  -- the drives of cycle c of each sample
  pub record HasEnables (c : ℕ) (enables : List Enable) : Type 0 where
    pub all : (v : ℕ) (transfer : Transfer)
        → v < length (nodes_of p)
        → ends_at d p v ≡ c
        → Contains (transfers_at p v) transfer
        → Contains enables (enable_of p v transfer)
    pub only : (enable : Enable)
        → Contains enables enable
        → (v : ℕ)
        × (transfer : Transfer)
        × (v < length (nodes_of p))
        × (ends_at d p v ≡ c)
        × Contains (transfers_at p v) transfer
        × (enable ≡ enable_of p v transfer)
    pub rise : AllPairs EnableBefore enables

  -- the issues in sample n of the cycle's nodes before the i-th one in order, which is the cycle's next
  abbrev pub AreIssuesTo : List ℕ → (n c i : ℕ) → List Issue → Type 0
  AreIssuesTo order n c i issues =
      IsReached (λ (j : ℕ). cycle_at p (node_in order j))
      (λ (j : ℕ) (issues : List Issue).
      (issue : Issue) × Contains issues issue × IsIssueOf d p (node_in order j) n issue)
      (λ (j : ℕ) (issue : Issue). IsIssueOf d p (node_in order j) n issue)
      (λ (a b : Issue). a.unit < b.unit)
      (length order) c i issues

  -- the drives of the nodes before the i-th one in order whose result is there in the cycle, as is next that one's
  abbrev pub AreEnablesTo : List ℕ → (c i : ℕ) → List Enable → Type 0
  AreEnablesTo order c i enables =
      IsReached (λ (j : ℕ). ends_at d p (node_in order j))
      (λ (j : ℕ) (enables : List Enable). (transfer : Transfer)
      → Contains (transfers_at p (node_in order j)) transfer
      → Contains enables (enable_of p (node_in order j) transfer))
      (λ (j : ℕ) (enable : Enable). (transfer : Transfer)
      × Contains (transfers_at p (node_in order j)) transfer
      × (enable ≡ enable_of p (node_in order j) transfer))
      EnableBefore (length order) c i enables

  -- a word for each cycle of the first samples
  pub record AreWords (samples : ℕ) (words : List Word) : Type 0 where
    pub count : length words ≡ samples * d.period
    pub each : (n c : ℕ) → n < samples → c < d.period → IsWordOf d p n c (nth words (n * d.period + c) no_word)

-- the take of lifetime k in sample n
pub record IsTakeFor (p : Plan) (k n : ℕ) (take : Take) : Type 0 where
  pub transfer : Transfer
  pub of : IsTransferOf p k transfer
  pub is : take ≡ take_of p k transfer n

-- the takes in sample n of the cycle's lifetimes before lifetime k, which is the cycle's next
abbrev pub AreTakesTo : Plan → (n c k : ℕ) → List Take → Type 0
AreTakesTo p n c k takes =
    IsReached (λ (j : ℕ). (arc_at p j).w)
    (λ (j : ℕ) (takes : List Take). (transfer : Transfer)
    → IsTransferOf p j transfer → Contains takes (take_of p j transfer n))
    (λ (j : ℕ) (take : Take). IsTakeFor p j n take)
    TakeBefore (length p.arcs) c k takes

-- the takes of cycle c of sample n
pub record HasTakes (p : Plan) (n c : ℕ) (takes : List Take) : Type 0 where
  pub all : (k : ℕ) (transfer : Transfer)
      → IsTransferOf p k transfer
      → (arc_at p k).w ≡ c
      → Contains takes (take_of p k transfer n)
  pub only : (take : Take)
      → Contains takes take
      → (k : ℕ)
      × (transfer : Transfer)
      × IsTransferOf p k transfer
      × ((arc_at p k).w ≡ c)
      × (take ≡ take_of p k transfer n)
  pub rise : AllPairs TakeBefore takes

-- the words of the first cycles of sample n stand behind the old ones
pub record AreBehind (d : Datapath) (p : Plan) (n cycles : ℕ) (old new : List Word) : Type 0 where
  pub count : length new ≡ length old + cycles
  pub before : (x : ℕ) → x < length old → nth new x no_word ≡ nth old x no_word
  pub behind : (c : ℕ) → c < cycles → IsWordOf d p n c (nth new (length old + c) no_word)

-- the nodes in order by the cycle in which they are issued, and by that in which their result is there
abbrev pub IsIssued : Datapath → Plan → List ℕ → Buckets → Type 0
IsIssued d p order by = AreBuckets (λ (i : ℕ). cycle_at p (node_in order i)) d.period (length order) by

abbrev pub IsEnded : Datapath → Plan → List ℕ → Buckets → Type 0
IsEnded d p order by = AreBuckets (λ (i : ℕ). ends_at d p (node_in order i)) d.period (length order) by

-- the lifetimes by the cycle of their write
abbrev pub IsWritten : Datapath → Plan → Buckets → Type 0
IsWritten d p by = AreWritten d.period p.arcs by

-- a plan with its nodes by unit, and these and its lifetimes by cycle, and lifetimes by node
pub record IsIssuer (issuer : Issuer) : Type 0 where
  pub ready : IsReady issuer.datapath.now issuer.plan.now
  pub order : IsUnitOrder issuer.plan.now.assigned issuer.order.now
  pub kept : AreKept (length (nodes_of issuer.plan.now)) issuer.plan.now.arcs issuer.kept.now
  pub issued : IsIssued issuer.datapath.now issuer.plan.now issuer.order.now issuer.issued.now
  pub ended : IsEnded issuer.datapath.now issuer.plan.now issuer.order.now issuer.ended.now
  pub rooms : length issuer.rooms.now ≡ issuer.datapath.now.period
  pub written : IsWritten issuer.datapath.now issuer.plan.now issuer.written.now
