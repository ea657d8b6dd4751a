-- The statuses that faults of other crates come to.
use Rattle.datapath.specs.declared.fault.PathFault.{PathFault}
use Rattle.datapath.specs.declared.fault.PathFault.TheVariants as path
use Rattle.delay_memory.specs.declared.fault.LineFault.TheVariants as line
use Rattle.source_faults.specs.declared.fault.FrontError.{FrontError}
use Rattle.source_faults.specs.declared.fault.FrontError.TheVariants.{Fault}
use Rattle.source_faults.specs.declared.fault.FrontError.TheVariants as front
use Rattle.micro_file.specs.declared.fault.FormFault.{FormFault}
use Rattle.micro_file.specs.declared.fault.FormFault.TheVariants as form
use Rattle.net_core.specs.declared.fault.NetFault.{NetFault}
use Rattle.net_core.specs.declared.fault.NetFault.TheVariants as net
use Rattle.planner.specs.declared.fault.PlanFault.{PlanFault}
use Rattle.planner.specs.declared.fault.PlanFault.TheVariants as plan
use Rattle.rate_faults.specs.declared.FrameFault.{FrameFault}
use Rattle.rate_faults.specs.declared.FrameFault.TheVariants as frame
use Rattle.statuses.specs.declared.status.ImageFault.TheVariants.{File}
use Rattle.statuses.specs.declared.status.Status.{Status}
use Rattle.statuses.specs.declared.status.Status.TheVariants.{Memory, FrontEnd, Path, Image, Net, Frame}
use Rattle.statuses.specs.declared.status.Status.TheVariants as status
use Rattle.statuses.specs.declared.status.UnitRefusal.TheVariants.{NoUnit, NoRoute, TooWide, NoRam, NoAcu}
use Rattle.unit_assign.specs.declared.fault.UnitFault.TheVariants as unit

-- the status where a source has no program
abbrev pub of_front : FrontError → Status
of_front (Fault fault) = FrontEnd fault
of_front front.Memory = Memory

-- the status where a file describes no datapath
abbrev pub of_path : PathFault → Status
of_path path.Memory = Memory
of_path fault = Path fault

-- the status where a graph has no plan
abbrev pub of_plan : PlanFault → Status
of_plan (plan.Line (line.NoRam v)) = status.Unit (NoRam v)
of_plan (plan.Line (line.NoAcu ram v)) = status.Unit (NoAcu ram v)
of_plan (plan.Line (line.LinesFull v)) = status.LinesFull v
of_plan (plan.Line line.Memory) = Memory
of_plan (plan.Unit (unit.TooWide v)) = status.Unit (TooWide v)
of_plan (plan.Unit (unit.NoUnit kind v)) = status.Unit (NoUnit kind v)
of_plan (plan.Unit (unit.NoRoute u port v)) = status.Unit (NoRoute u port v)
of_plan (plan.Unit unit.Memory) = Memory
of_plan (plan.Period v) = status.Period v
of_plan (plan.FileFull u port v) = status.FileFull u port v
of_plan plan.Memory = Memory

-- the status where microcode is not decoded
abbrev pub of_form : FormFault → Status
of_form form.Memory = Memory
of_form fault = Image (File fault)

-- the status where a net is not run
abbrev pub of_net : NetFault → Status
of_net net.Memory = Memory
of_net fault = Net fault

-- the status where a program has no frames
abbrev pub of_frame : FrameFault → Status
of_frame frame.Memory = Memory
of_frame fault = Frame fault
