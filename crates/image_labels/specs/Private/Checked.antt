-- The parts of a labelled image that are looked at one after another, as far as they are.
use Rattle.std.specs.Prelude.{◌≡◌, ℕ, ◌-◌, ◌/◌, ◌<◌, ◌≤◌, ◌⊎◌, List, [], length, IsSome}
use Rattle.fix_word.specs.declared.operation.Op.TheVariants.{Mul}
use Rattle.operations.specs.Operations.{operands}
use Rattle.signal_graph.specs.GraphSolves.{node_of}
use Rattle.signal_graph.specs.declared.graph.Graph.{Graph}
use Rattle.signal_graph.specs.declared.graph.Node.{Node}
use Rattle.plan_core.specs.Operands.{edge_of}
use Rattle.micro_image.specs.declared.image.Image.{Image}
use Rattle.micro_image.specs.declared.image.Issue.{Issue}
use Rattle.micro_image.specs.Fields.{nth, microprogram_of, unit_of}
use Rattle.image_labels.specs.declared.label.Certificate.{Certificate}
use Rattle.image_labels.specs.Labels.{word_in, issued_in}
use Rattle.image_labels.specs.Rules.{representative, AreSameOperands, IsCopy, passed, IsFold}
use Rattle.image_labels.specs.Labelled.{IsFitCycle, IsRegisterStart, IsCellStart, IsRowWord, PutsOn}

module _ (g : Graph) (image : Image) (certificate : Certificate) where
  -- the microwords of the first cycles fit
  abbrev pub AreCyclesFit : (count : ℕ) → Type 0
  AreCyclesFit count = (c : ℕ) → c < count → IsFitCycle g image certificate c

  -- the first registers of a file come round
  abbrev pub IsFileStart : (turn u p count : ℕ) → Type 0
  IsFileStart turn u p count =
      (r : ℕ)
      → r < count
      → r < length (nth (unit_of (microprogram_of image) u).files p [])
      → IsRegisterStart g image certificate turn u p r

  -- those of the first files of a unit do
  abbrev pub AreFilesStart : (turn u count : ℕ) → Type 0
  AreFilesStart turn u count =
      (p : ℕ) → p < count → p < length (unit_of (microprogram_of image) u).files → IsFileStart turn u p 256

  -- those of the first units do
  abbrev pub AreRegistersStart : (turn count : ℕ) → Type 0
  AreRegistersStart turn count = (u : ℕ) → u < count → u < length image.units → AreFilesStart turn u 3

  -- the first cells of a ram of so many do
  abbrev pub IsRamStart : (turn cells u count : ℕ) → Type 0
  IsRamStart turn cells u count = (x : ℕ) → x < count → IsCellStart g image certificate turn cells u x

  -- those of the first units do
  abbrev pub AreCellsStart : (turn count : ℕ) → Type 0
  AreCellsStart turn count =
      (u : ℕ)
      → u < count
      → u < length image.units
      → IsRamStart turn (length (unit_of (microprogram_of image) u).cells) u
      (length (unit_of (microprogram_of image) u).cells)

-- the issue has the operation, the format and the argument of node v
pub record DoesAt (g : Graph) (issue : Issue) (v : ℕ) : Type 0 where
  pub there : v < length g.nodes
  pub op_is : issue.op ≡ (node_of g v).op
  pub fmt_is : issue.fmt ≡ (node_of g v).fmt
  pub arg_is : issue.arg ≡ (node_of g v).arg

-- the issue is a product that gives at once what node v makes of a product
pub record DoesFold (g : Graph) (issue : Issue) (v : ℕ) : Type 0 where
  pub op_is : issue.op ≡ Mul
  pub fold : IsFold g v issue.fmt

-- on the operands of node u the issue gives the word of node v
abbrev pub DoesBy : Graph → Issue → (v u : ℕ) → Type 0
DoesBy g issue v u = (DoesAt g issue v × (u ≡ v)) ⊎ (DoesFold g issue v × (u ≡ passed g v))

-- it gives the word of node v on no operands
pub record DoesOther (g : Graph) (issue : Issue) (v : ℕ) : Type 0 where
  pub not_at : DoesAt g issue v → ⊥
  pub no_fold : DoesFold g issue v → ⊥

-- unit u has an issue so many cycles before cycle c of a turn
abbrev pub IsIssuedBefore : Image → (c back u : ℕ) → Type 0
IsIssuedBefore image c back u = (back ≤ c) × IsSome (issued_in (word_in image (c - back)) u)

-- a unit that is there is issued the output of word j in cycle c
abbrev pub PutsAt : Image → (c u j : ℕ) → Type 0
PutsAt image c u j = (u < length image.units) × PutsOn (word_in image c) u j

-- some unit is
abbrev pub PutsIn : Image → (c j : ℕ) → Type 0
PutsIn image c j = (u : ℕ) × PutsAt image c u j

-- some unit is, and the cycle is in this sample
abbrev pub PutsInSample : Image → (c sample j : ℕ) → Type 0
PutsInSample image c sample j = (c / image.period ≡ sample) × PutsIn image c j

-- the first output words are put in a sample
abbrev pub IsRowPut : Image → (sample count : ℕ) → Type 0
IsRowPut image sample count = (j : ℕ) → j < count → IsRowWord image sample j

-- all are in the first samples
abbrev pub AreRowsPut : Image → (count : ℕ) → Type 0
AreRowsPut image count = (sample : ℕ) → sample < count → IsRowPut image sample image.outs

-- the operands of two nodes are the same
abbrev pub HasSameOperands : (nodes : List ℕ) → (v u : ℕ) → (a b : Node) → Type 0
HasSameOperands nodes v u a b =
    (q : ℕ) → q < operands a.op → AreSameOperands nodes v u (edge_of a q) (edge_of b q)

-- the node stands for itself, or is a copy of the one that does
abbrev pub IsOwnOrCopy : Graph → (nodes : List ℕ) → (v : ℕ) → Type 0
IsOwnOrCopy g nodes v = (representative nodes v ≡ v) ⊎ IsCopy g nodes v (representative nodes v)
