use Rattle.std.proofs.Common.{◌∙◌, ap, subst, []}
use Rattle.micro_image.specs.Fields.{Microprogram}
use Rattle.micro_image.specs.Run.{Stands}
use Rattle.cycle_sim.specs.Machine.{state_of}
use Rattle.cycle_sim.specs.Microcode.{micro_of}
use Rattle.overlap_sim.proofs.machine.GuardedMachine.load.Goals as goal

pub returns-in-Ok-clause-obeys : goal.returns-in-Ok-clause-obeys
returns-in-Ok-clause-obeys c = ap micro_of c.in-Ok.ensures.code ∙ c.in_ok-parts.ensures.obeys

pub returns-in-Ok-clause-stands : goal.returns-in-Ok-clause-stands
returns-in-Ok-clause-stands c =
    subst (λ (micro : Microprogram). Stands (state_of c.in-Ok.machine) micro []) c.in_ok-parts.ensures.obeys
    c.in-Ok.ensures.stands
