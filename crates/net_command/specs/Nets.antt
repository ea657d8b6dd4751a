-- What a net has by its files: whether they describe a net that can be run, and which rows the net's programs put.
use Rattle.std.specs.Prelude.{◌≡◌, ◌⊎◌, ℕ, List, [], length, map, Some, slice_get}
use Rattle.lists.specs.Rows.{Rows}
use Rattle.desk_core.specs.View.{Name, Content, Files}
use Rattle.fault_order.specs.Ranked.{IsClear, IsFirst}
use Rattle.fault_order.specs.Rules.{faults}
use Rattle.micro_image.specs.Fields.{nth}
use Rattle.micro_image.specs.declared.image.Image.{Image}
use Rattle.net_command.specs.Processors.{ProcPlan, HavePlans, IsFirstRefused, files_of, ports_of}
use Rattle.net_core.specs.Allowed.{IsNetFile}
use Rattle.net_core.specs.declared.fault.NetFault.{NetFault}
use Rattle.net_core.specs.declared.types.NetFile.{NetFile}
use Rattle.net_file.specs.Described.{IsNetOf}
use Rattle.net_file.specs.NetRules.{IsNetFileFault, HasNoFault}
use Rattle.net_fit.specs.Joints.{joint_rules, net_channels}
use Rattle.net_fit.specs.Names.{name_rules}
use Rattle.net_solution.specs.Solutions.{Parts, fed}
use Rattle.sample_commands.specs.Eval.{IsSolutionRows}
use Rattle.sample_io.specs.declared.channel.Channel.{Channel}
use Rattle.silage_syntax.specs.Tree.{Program}
use Rattle.statuses.specs.declared.status.Status.{Status}

-- the text describes the net and has no fault
pub record HasNet (text : Content) (file : NetFile) : Type 0 where
  pub described : IsNetOf text file
  pub allowed : IsNetFile file
  pub clear : HasNoFault text

-- and each word of the net's row is read, and OUT has the name of no file of a processor
pub record HasNamedNet (text : Content) (out : Name) (file : NetFile) : Type 0 where
  pub has : HasNet text file
  pub names : IsClear (faults (name_rules file out))

-- one of these is not so, and this is the first
pub record HasNameFault (text : Content) (out : Name) (fault : NetFault) : Type 0 where
  pub file : NetFile
  pub has : HasNet text file
  pub first : IsFirst (faults (name_rules file out)) fault

-- each processor has a plan by its files
pub record HasPlannedNet (text : Content) (out : Name) (files : Files) (file : NetFile) (plans : List ProcPlan)
    : Type 0 where
  pub named : HasNamedNet text out file
  pub planned : HavePlans (files_of files file.procs) plans

-- one has none, and this is why the first of these has none
pub record HasRefusedProc (text : Content) (out : Name) (files : Files) (status : Status) : Type 0 where
  pub file : NetFile
  pub named : HasNamedNet text out file
  pub first : IsFirstRefused status (files_of files file.procs)

-- each processor has a wire for each input word of its program, from a word of the same shape
pub record HasFitNet (text : Content) (out : Name) (files : Files) (file : NetFile) (plans : List ProcPlan)
    : Type 0 where
  pub planned : HasPlannedNet text out files file plans
  pub joints : IsClear (faults (joint_rules file.procs (ports_of plans)))

-- one has not, and this is the first
pub record HasJointFault (text : Content) (out : Name) (files : Files) (fault : NetFault) : Type 0 where
  pub file : NetFile
  pub plans : List ProcPlan
  pub planned : HasPlannedNet text out files file plans
  pub first : IsFirst (faults (joint_rules file.procs (ports_of plans))) fault

-- what NET has against it: its text, what it names, or its wires
abbrev pub HasNetFault : (text : Content) → (out : Name) → Files → NetFault → Type 0
HasNetFault text out files fault =
    IsNetFileFault text fault ⊎ (HasNameFault text out fault ⊎ HasJointFault text out files fault)

-- the channel of each word of the net's row
abbrev pub row_channels : NetFile → List ProcPlan → List Channel
row_channels file plans = net_channels file.inputs file.procs (ports_of plans)

-- the net of these images over the stream
abbrev pub net_parts : NetFile → List Image → Rows → Parts
net_parts file images stream = record {
  images = images;
  feeds = map (λ proc. proc.feed) file.procs;
  capacity = file.capacity;
  stream = stream;
}

-- each program puts the output rows of its one solution over the rows that its wires bring
pub record IsSolvedNet (programs : List Program) (parts : Parts) (puts : List Rows) : Type 0 where
  pub count : length puts ≡ length programs
  pub solved : (p : ℕ) (program : Program)
      → slice_get programs p ≡ Some program
      → IsSolutionRows program (fed parts puts p) (nth puts p [])
