use Rattle.std.proofs.Common.{◌≡◌, ◌-◌, ◌≤◌, ◌++◌, length, replicate}
use Rattle.micro_file.proofs.bit_fields.read_registers.Given as goal

abbrev pub invariant-loop : goal.invariant-loop
invariant-loop l =
    (l.regs ≡ l.initial.regs ++ replicate (l.counter - l.read) 0)
    × (l.counter - l.read ≤ length l.files - l.read)
