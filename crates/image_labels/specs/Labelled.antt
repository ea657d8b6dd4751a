-- A labelled image: its labels fit the graph, and its words have no conflict by themselves.
use Rattle.std.specs.Prelude.{◌≡◌, ℕ, ◌+◌, ◌-◌, ◌/◌, ◌%◌, ◌<◌, ◌==◌, ◌⊎◌, true, [], length, ℤ, pos, All, count_by}
use Rattle.std.specs.Prelude.{Some, None, find, IsSome}
use Rattle.fix_word.specs.Words.{IsWidth}
use Rattle.fix_word.specs.declared.operation.Op.TheVariants as op
use Rattle.operations.specs.Operations.{operands}
use Rattle.operations.specs.Ranges.{to_nat}
use Rattle.signal_graph.specs.Rules.{word_before}
use Rattle.signal_graph.specs.GraphRules.{first_output}
use Rattle.signal_graph.specs.GraphSolves.{node_of}
use Rattle.signal_graph.specs.declared.graph.Graph.{Graph}
use Rattle.signal_graph.specs.declared.graph.Node.{Node}
use Rattle.plan_core.specs.Operands.{edge_of}
use Rattle.micro_image.specs.declared.image.Enable.{Enable}
use Rattle.micro_image.specs.declared.image.Issue.{Issue}
use Rattle.micro_image.specs.declared.image.Take.{Take}
use Rattle.micro_image.specs.declared.image.Image.{Image}
use Rattle.micro_image.specs.declared.image.Word.{Word}
use Rattle.micro_image.specs.Conflict.{IsMemory, file_of}
use Rattle.micro_image.specs.Fields.{nth, microprogram_of, unit_of}
use Rattle.micro_image.specs.Log.{Place, Register, Cell, initial, modulus_of}
use Rattle.micro_image.specs.Operations.{gives}
use Rattle.plan_soundness.specs.Samples.{past}
use Rattle.plan_soundness.specs.Private.Cells.{cell_in}
use Rattle.image_labels.specs.declared.label.Label.{Label}
use Rattle.image_labels.specs.declared.label.Label.TheVariants.{Unknown, Signal, Address, Constant}
use Rattle.image_labels.specs.declared.label.Certificate.{Certificate}
use Rattle.image_labels.specs.Rules.{IsCommutative, AreCopies, Tells, IsNarrow, passed, IsFold}
use Rattle.image_labels.specs.Labels.{turn_of, word_in, delay_on, issued_in, ended_in, issue_label, register_label}
use Rattle.image_labels.specs.Labels.{operand_label, cell_label}

module _ (image : Image) where
  -- the number of the sample of a turn in which its cycle c is
  abbrev pub sample_at : (c : ℕ) → ℕ
  sample_at c = past + c / image.period

  -- the issue of cycle c gives the address of the cell, in a ram of so many
  pub record IsAddress (c : ℕ) (issue : Issue) (cells x : ℕ) : Type 0 where
    pub op : issue.op ≡ op.Addr
    pub size : cells ≡ modulus_of (microprogram_of image) issue.unit
    pub some : 0 < cells
    pub cell : x ≡ cell_in cells 0 (to_nat issue.arg) (c / image.period)

  -- unit u is not busy in cycle c with an issue of an earlier cycle of the turn
  abbrev pub IsFree : (c u : ℕ) → Type 0
  IsFree c u =
      (b : ℕ) → b < c → c < b + (unit_of (microprogram_of image) u).gap → issued_in (word_in image b) u ≡ None

  -- unit u has a result in cycle c
  abbrev pub HasResult : (c u : ℕ) → Type 0
  HasResult c u = (issue : Issue) × (ended_in image c u ≡ Some issue) × (gives issue.op ≡ true)

  -- an enable of cycle c drives its bus alone, with a result
  pub record IsDrive (c : ℕ) (enable : Enable) : Type 0 where
    pub alone : count_by (λ (other : Enable). other.bus == enable.bus) (word_in image c).enables < 2
    pub result : HasResult c enable.unit

  -- a take of cycle c has a driver, and is the only one into its file
  pub record IsTaken (c : ℕ) (take : Take) : Type 0 where
    pub driver : IsSome (find (λ (enable : Enable). enable.bus == take.bus) (word_in image c).enables)
    pub alone : count_by (λ (other : Take). file_of other == file_of take) (word_in image c).takes < 2

-- unit u is issued the output of word j
abbrev pub PutsOn : Word → (u j : ℕ) → Type 0
PutsOn word u j =
    (issue : Issue) × (issued_in word u ≡ Some issue) × (issue.op ≡ op.Output) × (to_nat issue.arg ≡ j)

-- the issue gives this word
abbrev pub IsConst : Issue → (word : ℤ) → Type 0
IsConst issue word = (issue.op ≡ op.Const) × (issue.arg ≡ word)

-- an output of this number is issued in this sample of a turn
pub record IsRowWord (image : Image) (sample j : ℕ) : Type 0 where
  pub cycle : ℕ
  pub unit : ℕ
  pub there : cycle < turn_of image
  pub on : unit < length image.units
  pub now : cycle / image.period ≡ sample
  pub puts : PutsOn (word_in image cycle) unit j

-- the word is that of node v in a sample before the run
pub record IsWordBefore (g : Graph) (v sample : ℕ) (word : ℤ) : Type 0 where
  pub there : v < length g.nodes
  pub some : 0 < sample
  pub early : sample < past
  pub is : word ≡ word_before (node_of g v).inits (past - sample)

module _ (image : Image) (certificate : Certificate) where
  -- the issue of cycle c loads a cell with this label
  pub record IsLoad (c : ℕ) (issue : Issue) (label : Label) : Type 0 where
    pub op : issue.op ≡ op.Load
    pub cells : ℕ
    pub cell : ℕ
    pub address : operand_label image certificate c issue 0 ≡ Address cells cell
    pub holds : cell_label image certificate issue.unit cell c ≡ label

  -- the issue of cycle c addresses a cell of its ram
  abbrev pub IsInRam : (c : ℕ) → Issue → Type 0
  IsInRam c issue =
      (x : ℕ)
      × (x < length (unit_of (microprogram_of image) issue.unit).cells)
      × (operand_label image certificate c issue 0
      ≡ Address (length (unit_of (microprogram_of image) issue.unit).cells) x)

module _ (g : Graph) (image : Image) (certificate : Certificate) where
  -- in this sample the issue of cycle c reads operand q of the node at this port
  abbrev pub ReadsOperand : (sample c : ℕ) → Issue → Node → (port q : ℕ) → Type 0
  ReadsOperand sample c issue node port q =
      Tells g certificate.representatives (operand_label image certificate c issue port) (edge_of node q).node
      (sample - (edge_of node q).delay)

  -- the issue of cycle c reads the operands of the node, each at its port
  abbrev pub ReadsInOrder : (sample c : ℕ) → Issue → Node → Type 0
  ReadsInOrder sample c issue node =
      (q : ℕ) → q < operands issue.op → ReadsOperand sample c issue node q q

  -- it reads its two operands exchanged, and gives the same
  pub record ReadsExchanged (sample c : ℕ) (issue : Issue) (node : Node) : Type 0 where
    pub commutes : IsCommutative issue.op
    pub first : ReadsOperand sample c issue node 0 1
    pub second : ReadsOperand sample c issue node 1 0

  -- the issue of cycle c does what node v does in its sample, and reads that node's operands
  pub record IsOfNode (c : ℕ) (issue : Issue) (v sample : ℕ) : Type 0 where
    pub there : v < length g.nodes
    pub op : issue.op ≡ (node_of g v).op
    pub fmt : issue.fmt ≡ (node_of g v).fmt
    pub arg : issue.arg ≡ (node_of g v).arg
    pub now : sample ≡ sample_at image c
    pub operands : ReadsInOrder (sample_at image c) c issue (node_of g v)
        ⊎ ReadsExchanged (sample_at image c) c issue (node_of g v)

  -- the issue of cycle c is a product that gives at once what node v makes of a product in its sample
  pub record IsFolded (c : ℕ) (issue : Issue) (v sample : ℕ) : Type 0 where
    pub op : issue.op ≡ op.Mul
    pub fold : IsFold g v issue.fmt
    pub now : sample ≡ sample_at image c
    pub operands : ReadsInOrder (sample_at image c) c issue (node_of g (passed g v))
        ⊎ ReadsExchanged (sample_at image c) c issue (node_of g (passed g v))

  -- the issue of cycle c does what node v does in its sample, or gives its word at once
  pub record IsDone (c : ℕ) (issue : Issue) (v sample : ℕ) : Type 0 where
    pub way : IsOfNode c issue v sample ⊎ IsFolded c issue v sample

  -- the issue of cycle c is a pass that keeps all bits of a word with this label
  pub record IsKept (c : ℕ) (issue : Issue) (label : Label) : Type 0 where
    pub op : issue.op ≡ op.Pass
    pub shift : issue.fmt.shift ≡ pos 0
    pub width : IsWidth issue.fmt.width
    pub operand : operand_label image certificate c issue 0 ≡ label
    pub bits : IsNarrow g (sample_at image c) issue.fmt.width label

  -- the issue of cycle c loads or keeps a word with this label
  abbrev pub IsMoved : (c : ℕ) → Issue → Label → Type 0
  IsMoved c issue label = IsLoad image certificate c issue label ⊎ IsKept c issue label

  -- the label is one of the issue of cycle c
  abbrev pub IsLabelOf : (c : ℕ) → Issue → Label → Type 0
  IsLabelOf c issue Unknown = Unit {0}
  IsLabelOf c issue (Signal v sample) = IsDone c issue v sample ⊎ IsMoved c issue (Signal v sample)
  IsLabelOf c issue (Address cells x) = IsAddress image c issue cells x
  IsLabelOf c issue (Constant word) = IsConst issue word ⊎ IsMoved c issue (Constant word)

  -- an output puts the word of its node, in its sample
  pub record IsPut (c : ℕ) (issue : Issue) : Type 0 where
    pub label : issue_label certificate c issue.unit
        ≡ Signal (first_output g + to_nat issue.arg) (sample_at image c)
    pub ends : c % image.period + delay_on image issue.unit < image.period

  -- the issue of cycle c has its label, ends in its turn, and its unit is not busy
  pub record IsFit (c : ℕ) (issue : Issue) : Type 0 where
    pub label : IsLabelOf c issue (issue_label certificate c issue.unit)
    pub ends : c + delay_on image issue.unit < turn_of image
    pub free : IsFree image c issue.unit
    pub in_ram : IsMemory issue.op → IsInRam image certificate c issue
    pub put : issue.op ≡ op.Output → IsPut c issue

  -- the microword of cycle c
  pub record IsFitCycle (c : ℕ) : Type 0 where
    pub issues : All (IsFit c) (word_in image c).issues
    pub enables : All (IsDrive image c) (word_in image c).enables
    pub takes : All (IsTaken image c) (word_in image c).takes

  -- the label of a place that the run starts with, whose label at the end of a turn is this
  abbrev pub IsStart : Place → (first last : Label) → Type 0
  IsStart place Unknown last = Unit {0}
  IsStart place (Signal v sample) last =
      IsWordBefore g v sample (initial (microprogram_of image) place) × (last ≡ Signal v (sample + image.unroll))
  IsStart place (Address cells x) last = ⊥
  IsStart place (Constant word) last = (initial (microprogram_of image) place ≡ word) × (last ≡ Constant word)

  -- a register comes round after so many cycles
  abbrev pub IsRegisterStart : (turn u p r : ℕ) → Type 0
  IsRegisterStart turn u p r =
      IsStart (Register u p r) (register_label image certificate u p r 0) (register_label image certificate u p r turn)

  -- a cell of a ram of so many does, by a place on for each sample
  abbrev pub IsCellStart : (turn cells u x : ℕ) → Type 0
  IsCellStart turn cells u x =
      IsStart (Cell u x) (cell_label image certificate u x 0)
      (cell_label image certificate u (cell_in cells 0 x image.unroll) turn)

  -- the labels of the certificate fit
  pub record IsLabelled : Type 0 where
    pub outs : image.outs ≡ g.outs
    pub copies : AreCopies g certificate.representatives (length g.nodes)
    pub cycles : (c : ℕ) → c < turn_of image → IsFitCycle c
    pub registers : (u p r : ℕ)
        → u < length image.units
        → p < length (unit_of (microprogram_of image) u).files
        → r < length (nth (unit_of (microprogram_of image) u).files p [])
        → IsRegisterStart (turn_of image) u p r
    pub cells : (u x : ℕ)
        → u < length image.units
        → x < length (unit_of (microprogram_of image) u).cells
        → IsCellStart (turn_of image) (length (unit_of (microprogram_of image) u).cells) u x
    pub rows : (sample j : ℕ) → sample < image.unroll → j < image.outs → IsRowWord image sample j
