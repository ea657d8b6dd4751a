-- Which plan the program of a source has over frames, on the datapath of a file, or why it has none.
use Rattle.std.specs.Prelude.{ℕ, List}
use Rattle.datapath.specs.PathRules.{IsPathFault}
use Rattle.datapath.specs.declared.types.Datapath.{Datapath}
use Rattle.desk_core.specs.View.{Name, View}
use Rattle.frame_command.specs.FrameGraphs.{IsFrameGraph}
use Rattle.front_end.specs.ProgramFlat.{IsProgramFlat}
use Rattle.plan_commands.specs.Plans.{IsPlanOverBy, IsPlannedOverBy, IsUnplanned, IsUnplannedBy}
use Rattle.plan_commands.specs.Refusals.{IsRefusal, IsErrorOf}
use Rattle.plan_core.specs.IsPlan.{IsPlan}
use Rattle.plan_core.specs.declared.plan.Plan.{Plan}
use Rattle.rate_faults.specs.declared.FrameFault.{FrameFault}
use Rattle.rate_faults.specs.declared.FrameFault.TheVariants as frame
use Rattle.rate_unfold.specs.Faults.{IsFrameFault, HasNoFrameFault}
use Rattle.rate_unfold.specs.Frames.{Rates}
use Rattle.signal_graph.specs.Flat as flat
use Rattle.silage_syntax.specs.Tree.{Program}
use Rattle.source_faults.specs.Faults.{HasProgram, IsFrontFault}
use Rattle.statuses.specs.declared.status.Status.{Status}
use Rattle.statuses.specs.declared.status.Status.TheVariants.{FrontEnd, Frame, Path}

-- the fault is one of frames; want of memory is a status of its own
abbrev pub IsOfFrame : FrameFault → Type 0
IsOfFrame frame.Memory = ⊥
IsOfFrame fault = Unit {0}

-- the status tells why a source has no plan over frames
abbrev pub IsFrameRefusal : Status → Type 0
IsFrameRefusal (Frame fault) = IsOfFrame fault
IsFrameRefusal status = IsRefusal status

module _ (r : Rates) where
  -- the source has a program, whose frames have this fault
  pub record HasFrameFault (source : List ℕ) (fault : FrameFault) : Type 0 where
    pub program : Program
    pub read : HasProgram source program
    pub flat_program : flat.Program
    pub flat_of : IsProgramFlat program flat_program
    pub fault_is : IsFrameFault r flat_program fault

  -- the source has a program, whose frames have none
  pub record HasFrames (source : List ℕ) : Type 0 where
    pub program : Program
    pub read : HasProgram source program
    pub flat_program : flat.Program
    pub flat_of : IsProgramFlat program flat_program
    pub fits : HasNoFrameFault r flat_program

  -- the source has this program and no other, the file describes this datapath, and the program's graph over frames has
  -- the plan
  abbrev pub IsFramedOver : (source datapath : List ℕ) → Program → Datapath → Plan → Type 0
  IsFramedOver = IsPlannedOverBy (IsFrameGraph r) IsPlan

  -- the program of the source has a plan over frames, on the datapath of the file
  abbrev pub IsFrameable : (source datapath : List ℕ) → Type 0
  IsFrameable source datapath =
      (program : Program) × (d : Datapath) × (plan : Plan)
      × IsPlanOverBy (IsFrameGraph r) IsPlan source datapath program d plan

  -- the program's graph over frames has no plan, and this is why
  abbrev pub IsUnframed : Status → (source datapath : List ℕ) → Type 0
  IsUnframed = IsUnplannedBy (IsFrameGraph r) IsUnplanned

  -- what a status tells of a source that has no plan over frames: a fault comes only where nothing before it has one
  abbrev pub IsFrameRefused : Status → (source datapath : List ℕ) → Type 0
  IsFrameRefused (FrontEnd fault) source datapath = IsFrontFault source fault
  IsFrameRefused (Frame fault) source datapath = HasFrameFault source fault
  IsFrameRefused (Path fault) source datapath = HasFrames source × IsPathFault datapath fault
  IsFrameRefused status source datapath = IsUnframed status source datapath

  -- why `frame` ends before it makes anything
  abbrev pub IsFrameError : Name → Name → View → View → Status → Type 0
  IsFrameError = IsErrorOf IsFrameRefusal IsFrameRefused
