-- The sets of no numbers, and of all.
use Rattle.std.specs.Prelude.{◌-◌, ◌^◌}
use Rattle.bit_sets.specs.declared.set32.Set32.{Set32}
use Rattle.bit_sets.specs.declared.set128.Set128.{Set128}

abbrev pub none_of_32 : Set32
none_of_32 = record { bits = 0 }

abbrev pub all_of_32 : Set32
all_of_32 = record { bits = 2 ^ 32 - 1 }

abbrev pub none_of_128 : Set128
none_of_128 = record { bits = 0 }
