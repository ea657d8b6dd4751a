-- The image of a plan: what each microword holds, and what registers and cells hold at the start.
use Rattle.std.specs.Prelude.{◌≡◌, ℕ, ◌+◌, ◌-◌, ◌*◌, ◌%◌, ◌<◌, ◌≤◌, length, map, Contains, pos}
use Rattle.std.specs.List.{AllPairs}
use Rattle.fix_word.specs.declared.types.SigType.{SigType}
use Rattle.fix_word.specs.declared.types.SigType.TheVariants.{Fix, Bool}
use Rattle.operations.specs.declared.units.PortRef.{PortRef}
use Rattle.datapath.specs.declared.types.Datapath.{Datapath}
use Rattle.signal_graph.specs.Rules.{word_before}
use Rattle.plan_core.specs.Hardware.{unit_of}
use Rattle.plan_core.specs.declared.schedule.Transfer.{Transfer}
use Rattle.plan_core.specs.declared.plan.Plan.{Plan}
use Rattle.micro_image.specs.declared.image.Enable.{Enable}
use Rattle.micro_image.specs.declared.image.Issue.{Issue}
use Rattle.micro_image.specs.declared.image.Take.{Take}
use Rattle.micro_image.specs.declared.image.UnitDesc.{UnitDesc}
use Rattle.micro_image.specs.declared.image.Word.{Word}
use Rattle.micro_image.specs.declared.image.Image.{Image}
use Rattle.micro_image.specs.Fields.{Microprogram, microprogram_of, nth, no_word, unit_of as described}
use Rattle.micro_image.specs.Log.{Register, Cell, initial}
use Rattle.micro_image.specs.Valid.{EnableBefore, TakeBefore}
use Rattle.plan_soundness.specs.Parts.{nodes_of, lines_of, node_at, edge_at, unit_at, cycle_at, transfers_at, arc_at}
use Rattle.plan_soundness.specs.Parts.{line_at}
use Rattle.plan_soundness.specs.Parts.{register_at, ReadsThrough, IsTransferOf, ends_at, IsCopy}
use Rattle.plan_soundness.specs.Samples.{past}
use Rattle.plan_soundness.specs.Overlap.{Overlap, one_by_one}

-- the unit of the image is unit u of the datapath; what its registers and cells hold is said apart
pub record IsUnitOf (d : Datapath) (u : ℕ) (unit : UnitDesc) : Type 0 where
  pub kind : unit.kind ≡ (unit_of d u).kind
  pub latency : unit.latency ≡ (unit_of d u).latency
  pub gap : unit.gap ≡ (unit_of d u).gap
  pub files : map length unit.files ≡ (unit_of d u).files
  pub cells : length unit.cells ≡ (unit_of d u).cells
  pub ram : unit.ram ≡ (unit_of d u).ram

-- the issue of node v in sample n
pub record IsIssueOf (d : Datapath) (p : Plan) (v n : ℕ) (issue : Issue) : Type 0 where
  pub unit : issue.unit ≡ unit_at p v
  pub op : issue.op ≡ (node_at p v).op
  pub fmt : issue.fmt ≡ (node_at p v).fmt
  pub arg : issue.arg ≡ (node_at p v).arg
  pub count : length issue.regs ≡ length (unit_of d (unit_at p v)).files
  -- at a port that is read, the register with the word of so many samples ago
  pub read : (q k i : ℕ)
      → ReadsThrough p v q k
      → IsCopy (arc_at p k).copies n (edge_at p v q).delay i
      → nth issue.regs q 0 ≡ register_at p k i
  pub unread : (q : ℕ) → length (node_at p v).edges ≤ q → nth issue.regs q 0 ≡ 0

-- the bus drive of a transfer of the result of node v
abbrev pub enable_of : Plan → (v : ℕ) → Transfer → Enable
enable_of p v transfer = record { unit = unit_at p v; bus = transfer.bus }

-- the register-file write of a transfer to lifetime k in sample n: its register is that of the copy whose turn it is
abbrev pub take_of : Plan → (k : ℕ) → Transfer → (n : ℕ) → Take
take_of p k transfer n = record {
  port = transfer.port;
  bus = transfer.bus;
  reg = register_at p k (n % (arc_at p k).copies);
}

-- The microword of cycle c of sample n. It has the issue of each node that is issued in this cycle, and the enable and
-- the take of each transfer of a result that is there in it. Nothing else is in it, and its lists rise.
pub record IsWordOf (d : Datapath) (p : Plan) (n c : ℕ) (word : Word) : Type 0 where
  pub issue : (v : ℕ)
      → v < length (nodes_of p)
      → cycle_at p v ≡ c
      → (issue : Issue) × Contains word.issues issue × IsIssueOf d p v n issue
  pub issue_only : (issue : Issue)
      → Contains word.issues issue
      → (v : ℕ) × (v < length (nodes_of p)) × (cycle_at p v ≡ c) × IsIssueOf d p v n issue
  pub enable : (v : ℕ) (transfer : Transfer)
      → v < length (nodes_of p)
      → ends_at d p v ≡ c
      → Contains (transfers_at p v) transfer
      → Contains word.enables (enable_of p v transfer)
  pub enable_only : (enable : Enable)
      → Contains word.enables enable
      → (v : ℕ)
      × (transfer : Transfer)
      × (v < length (nodes_of p))
      × (ends_at d p v ≡ c)
      × Contains (transfers_at p v) transfer
      × (enable ≡ enable_of p v transfer)
  pub take : (k : ℕ) (transfer : Transfer)
      → IsTransferOf p k transfer
      → (arc_at p k).w ≡ c
      → Contains word.takes (take_of p k transfer n)
  pub take_only : (take : Take)
      → Contains word.takes take
      → (k : ℕ)
      × (transfer : Transfer)
      × IsTransferOf p k transfer
      × ((arc_at p k).w ≡ c)
      × (take ≡ take_of p k transfer n)
  pub issues_rise : AllPairs (λ (a b : Issue). a.unit < b.unit) word.issues
  pub enables_rise : AllPairs EnableBefore word.enables
  pub takes_rise : AllPairs TakeBefore word.takes

-- Copy i of lifetime k is read in the run for its word of this many samples before sample 0, where lifetimes keep words
-- of that sample.
pub record IsPreloadOver (o : Overlap) (d : Datapath) (p : Plan) (k i ago : ℕ) : Type 0 where
  pub there : k < length p.arcs
  pub before : 1 ≤ ago
  pub kept : o.first ≤ past - ago
  pub lives : ago * d.period ≤ (arc_at p k).r
  pub copy : IsCopy (arc_at p k).copies 0 ago i

-- and its register is this one
pub record IsPreloadOfOver (o : Overlap) (d : Datapath) (p : Plan) (port : PortRef) (reg k i ago : ℕ) : Type 0 where
  pub preload : IsPreloadOver o d p k i ago
  pub port_is : (arc_at p k).port ≡ port
  pub reg_is : register_at p k i ≡ reg

-- a cell of line l is read in the run for its word of this many samples before sample 0
pub record IsCellPreload (p : Plan) (ram cell l ago : ℕ) : Type 0 where
  pub there : l < length (lines_of p)
  pub before : 1 ≤ ago
  pub lives : ago ≤ (line_at p l).depth
  pub ram_is : (line_at p l).ram ≡ ram
  pub cell_is : (line_at p l).offset + ago ≡ cell

-- Each register and cell that is read for a word of a sample before sample 0 starts with it. All others start with 0.
pub record StartsWithOver (o : Overlap) (d : Datapath) (p : Plan) (micro : Microprogram) : Type 0 where
  pub register : (port : PortRef) (reg k i ago : ℕ)
      → IsPreloadOfOver o d p port reg k i ago
      → initial micro (Register port.unit port.port reg) ≡ word_before (node_at p (arc_at p k).node).inits ago
  pub other_register : (port : PortRef) (reg : ℕ)
      → ((k i ago : ℕ) → IsPreloadOfOver o d p port reg k i ago → ⊥)
      → initial micro (Register port.unit port.port reg) ≡ pos 0
  pub cell : (ram cell l ago : ℕ)
      → IsCellPreload p ram cell l ago
      → initial micro (Cell ram cell) ≡ word_before (node_at p (line_at p l).node).inits ago
  pub other_cell : (ram cell : ℕ)
      → ((l ago : ℕ) → IsCellPreload p ram cell l ago → ⊥)
      → initial micro (Cell ram cell) ≡ pos 0

-- the same where samples do not overlap: lifetimes keep words of every sample
abbrev pub IsPreload : Datapath → Plan → (k i ago : ℕ) → Type 0
IsPreload d p k i ago = IsPreloadOver one_by_one d p k i ago

abbrev pub IsPreloadOf : Datapath → Plan → PortRef → (reg k i ago : ℕ) → Type 0
IsPreloadOf d p port reg k i ago = IsPreloadOfOver one_by_one d p port reg k i ago

abbrev pub StartsWith : Datapath → Plan → Microprogram → Type 0
StartsWith d p micro = StartsWithOver one_by_one d p micro

-- the width of a word of the type in a microcode file
abbrev pub width_of : SigType → ℕ
width_of (Fix fix) = fix.shape.w
width_of Bool = 0

-- the image of the plan on the datapath
pub record IsImageOf (d : Datapath) (p : Plan) (image : Image) : Type 0 where
  pub period : image.period ≡ d.period
  pub unroll : image.unroll ≡ p.unroll
  pub inputs : image.inputs ≡ map width_of p.inputs
  pub outs : image.outs ≡ p.outs
  pub buses : image.buses ≡ length d.buses
  pub unit_count : length image.units ≡ length d.units
  pub units : (u : ℕ) → u < length d.units → IsUnitOf d u (described (microprogram_of image) u)
  pub starts : StartsWith d p (microprogram_of image)
  pub word_count : length image.words ≡ p.unroll * d.period
  pub words : (n c : ℕ) → n < p.unroll → c < d.period → IsWordOf d p n c (nth image.words (n * d.period + c) no_word)
