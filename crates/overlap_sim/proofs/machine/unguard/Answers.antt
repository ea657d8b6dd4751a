use Rattle.std.proofs.Common.{refl, sym, subst}
use Rattle.micro_image.specs.declared.image.Image.{Image}
use Rattle.cycle_sim.specs.Microcode.{code_after, IsSound}
use Rattle.overlap_sim.proofs.Guards.{code_obeys, prologue_sound}
use Rattle.overlap_sim.proofs.machine.unguard.Goals as goal

pub returns-clause-sound : goal.returns-clause-sound
returns-clause-sound c =
    subst (λ (image : Image). IsSound (code_after c.in_ok-prologue.prologue image)) (sym c.in_ok-image.ensures)
    (prologue_sound c.args.guarded c.in_ok-prologue.prologue c.in_ok-prologue.ensures c.requires)

pub returns-clause-obeys : goal.returns-clause-obeys
returns-clause-obeys c =
    code_obeys c.args.guarded c.in_ok-prologue.prologue c.in_ok-prologue.ensures
    (code_after c.in_ok-prologue.prologue c.in_ok-image.image) c.in_ok-image.image refl c.in_ok-image.ensures
