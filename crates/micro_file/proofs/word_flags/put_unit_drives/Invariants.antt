use Rattle.std.proofs.Common.{◌≡◌, ◌++◌}
use Rattle.micro_file.specs.Private.WordFlags.{unit_drives}
use Rattle.micro_file.proofs.word_flags.put_unit_drives.Given as goal

abbrev pub invariant-loop-bus : goal.invariant-loop-bus
invariant-loop-bus l = l.drives ≡ l.fn.drives ++ unit_drives l.bus l.unit
