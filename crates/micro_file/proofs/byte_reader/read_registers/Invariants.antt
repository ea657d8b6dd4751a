use Rattle.std.proofs.Common.{◌≡◌, ◌-◌, []}
use Rattle.micro_file.specs.Private.Fields.{many_at}
use Rattle.micro_file.specs.Private.Bytes.{register_at}
use Rattle.micro_file.proofs.byte_reader.read_registers.Given as goal

abbrev pub invariant-loop : goal.invariant-loop
invariant-loop l =
    many_at (register_at l.files l.read) l.regs (l.count - l.counter) l.reader
    ≡ many_at (register_at l.files l.read) [] l.count l.fn.reader
