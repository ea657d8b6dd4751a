use Rattle.std.proofs.Common.{◌≡◌, ◌++◌, ◌∷◌, take}
use Rattle.std.specs.Prelude.{decimal}
use Rattle.std.specs.List.{flat_map}
use Rattle.microcode_asm.specs.ScheduleText.{comma}
use Rattle.microcode_asm.proofs.text.put_registers.Given as goal

abbrev pub invariant-loop-register : goal.invariant-loop-register
invariant-loop-register l =
    l.out ≡ l.initial.out ++ flat_map (λ register. comma ∷ decimal register) (take l.register-index l.rest)
