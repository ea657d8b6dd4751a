use Rattle.std.proofs.Common.{length, subst, sym}
use Rattle.std.specs.List.{range_with_len}
use Rattle.std.specs.List.Sorted.{IsPermutation}
use Rattle.std.proofs.lemmas.List.Sorted.{IsPermutation-refl}
use Rattle.cycle_sim.specs.declared.microcode.Microcode.{Microcode}
use Rattle.silc_show.proofs.trace.run_of.Goals as goal

pub returns : goal.returns
returns c =
    let units = length c.in_ok-machine.machine.code.image.units in
    record {
      sound = c.microcode.ensures.sound;
      all_units =
          subst (IsPermutation (range_with_len 0 units)) (sym c.in-Ok.ensures)
          (subst
          (λ (code : Microcode). IsPermutation (range_with_len 0 units) (range_with_len 0 (length code.image.units)))
          (sym c.microcode.ensures.same)
          (IsPermutation-refl (range_with_len 0 units)));
      time = c.in_ok-machine.ensures;
    }
