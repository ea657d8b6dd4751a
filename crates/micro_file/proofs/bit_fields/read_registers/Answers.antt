use Rattle.std.proofs.Common.{◌≡◌, ℕ, ◌-◌, List, [], ◌++◌, length, replicate, Ok, refl, arith}
use Rattle.micro_file.specs.Private.Bits.{register_at, registers_at}
use Rattle.micro_file.specs.Private.Fields.{many_at}
use Rattle.micro_file.proofs.Readers.{joined}
use Rattle.micro_file.proofs.bit_fields.read_registers.Goals as goal

pub returns : goal.returns
unfolding registers_at
returns c =
    let filled : c.loop.counter - c.args.read ≡ length c.args.files.now - c.args.read =
    omega (arith, c.loop.invariant.1, c.loop-test.false, c.len-end.ensures) in
    joined (many_at (register_at c.args.files.now) [] c.args.read c.args.reader.now)
    (λ (regs : List ℕ × List ℕ). Ok (regs.0 ++ replicate (length c.args.files.now - c.args.read) 0, regs.1))
    (c.in_ok-regs.regs, c.read_some_registers.new.reader) (Ok (c.loop.regs, c.read_some_registers.new.reader))
    c.in_ok-regs.ensures (rw (c.loop.invariant.0, filled) refl)
