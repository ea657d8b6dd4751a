use Rattle.std.proofs.Common.{◌≡◌}
use Rattle.std.specs.List.{flat_map, range_with_len}
use Rattle.micro_image.specs.Fields.{nth, no_unit}
use Rattle.micro_file.specs.Private.WordFlags.{unit_files}
use Rattle.micro_file.proofs.word_flags.files_of.Given as goal

abbrev pub invariant-loop-k : goal.invariant-loop-k
invariant-loop-k l =
    l.files ≡ flat_map (λ number. unit_files (nth l.image.units number no_unit) number) (range_with_len 0 l.k)
