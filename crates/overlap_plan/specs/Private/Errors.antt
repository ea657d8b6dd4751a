-- The fault of a plan over stages that the fault of a pass comes to.
use Rattle.delay_memory.specs.declared.fault.LineFault.{LineFault}
use Rattle.delay_memory.specs.declared.fault.LineFault.TheVariants as line
use Rattle.list_schedule.specs.declared.fault.PeriodFault.{PeriodFault}
use Rattle.list_schedule.specs.declared.fault.PeriodFault.TheVariants as period
use Rattle.reg_alloc.specs.declared.fault.FileFault.{FileFault}
use Rattle.reg_alloc.specs.declared.fault.FileFault.TheVariants as file
use Rattle.unit_assign.specs.declared.fault.UnitFault.{UnitFault}
use Rattle.unit_assign.specs.declared.fault.UnitFault.TheVariants as unit
use Rattle.overlap_plan.specs.declared.fault.StageFault.{StageFault}
use Rattle.overlap_plan.specs.declared.fault.StageFault.TheVariants.{Line as Unstored, Unit as Unbound, Period, File}
use Rattle.overlap_plan.specs.declared.fault.StageFault.TheVariants.{Memory}

abbrev pub of_line : LineFault → StageFault
of_line line.Memory = Memory
of_line fault = Unstored fault

abbrev pub of_unit : UnitFault → StageFault
of_unit unit.Memory = Memory
of_unit fault = Unbound fault

abbrev pub of_period : PeriodFault → StageFault
of_period (period.Period node) = Period node
of_period period.Memory = Memory

abbrev pub of_file : FileFault → StageFault
of_file file.Memory = Memory
of_file fault = File fault
