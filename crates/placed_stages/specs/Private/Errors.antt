-- The fault of places over stages that the fault of a pass comes to.
use Rattle.delay_memory.specs.declared.fault.LineFault.{LineFault}
use Rattle.delay_memory.specs.declared.fault.LineFault.TheVariants as line
use Rattle.reg_alloc.specs.declared.fault.FileFault.{FileFault}
use Rattle.reg_alloc.specs.declared.fault.FileFault.TheVariants as file
use Rattle.placed_stages.specs.declared.fault.StagePlaceFault.{StagePlaceFault}
use Rattle.placed_stages.specs.declared.fault.StagePlaceFault.TheVariants.{Line as Unstored, FileFull, Memory}

abbrev pub of_line : LineFault → StagePlaceFault
of_line line.Memory = Memory
of_line fault = Unstored fault

abbrev pub of_file : FileFault → StagePlaceFault
of_file (file.Full unit port node) = FileFull unit port node
of_file file.Memory = Memory
