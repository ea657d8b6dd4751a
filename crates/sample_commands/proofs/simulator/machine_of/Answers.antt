use Rattle.std.proofs.Common.{◌≡◌, [], sym, subst}
use Rattle.cycle_sim.specs.declared.microcode.Microcode.{Microcode}
use Rattle.cycle_sim.specs.Machine.{state_of}
use Rattle.cycle_sim.specs.Microcode.{micro_of, code_of, IsSound}
use Rattle.micro_image.specs.Run.{Stands}
use Rattle.micro_image.specs.Spells.{Spells}
use Rattle.cycle_sim.proofs.ValidImage.{image_sound}
use Rattle.sample_commands.proofs.simulator.machine_of.Goals as goal

pub returns-clause-ok : goal.returns-clause-ok
returns-clause-ok c =
    let machine = c.in_ok-load.field-0 in
    let image = c.in_ok-image.image in
    let code : machine.code ≡ code_of image = c.in_ok-load.ensures.code in
    let spelled : Spells c.args.microcode.now image = rw (← c.deref.ensures) c.in_ok-image.ensures.spelled in
    record {
      fresh = record {
        sound = subst IsSound (sym code) (image_sound image spelled.valid);
        stands =
            subst (λ (code : Microcode). Stands (state_of machine) (micro_of code) []) (sym code)
            c.in_ok-load.ensures.stands;
      };
      image = image;
      code = code;
      spells = spelled;
    }
