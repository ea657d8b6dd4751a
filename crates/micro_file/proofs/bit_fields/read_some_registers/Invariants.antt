use Rattle.std.proofs.Common.{◌≡◌, ◌-◌, []}
use Rattle.micro_file.specs.Private.Bits.{register_at}
use Rattle.micro_file.specs.Private.Fields.{many_at}
use Rattle.micro_file.proofs.bit_fields.read_some_registers.Given as goal

abbrev pub invariant-loop : goal.invariant-loop
invariant-loop l =
    many_at (register_at l.files) l.regs (l.read - l.counter) l.reader
    ≡ many_at (register_at l.files) [] l.read l.fn.reader
