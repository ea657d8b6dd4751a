use Rattle.std.proofs.Common.{◌∙◌, ap, arith, ℕ, ◌++◌}
use Rattle.std.specs.Prelude.{decimal}
use Rattle.microcode_asm.proofs.RegisterLists.{all_registers}
use Rattle.microcode_asm.proofs.text.put_registers.Goals as goal

pub returns : goal.returns
returns c =
    all_registers c.args.out.now c.put_number.new.out c.loop-register.out c.args.registers.now c.in-Some.rest.now
    c.in-Some.first.now c.loop-register.register-index c.in-Some.ensures.cases.0
    (c.in_ok-put_number.ensures ∙ ap (λ (n : ℕ). c.args.out.now ++ decimal n) c.from.ensures)
    c.loop-register.invariant (omega arith)
