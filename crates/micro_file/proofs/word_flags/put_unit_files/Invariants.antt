use Rattle.std.proofs.Common.{◌≡◌, ◌++◌, ◌∷◌, []}
use Rattle.std.specs.List.{flat_map, range_with_len}
use Rattle.micro_file.specs.Private.WordFlags.{file_of}
use Rattle.micro_file.proofs.word_flags.put_unit_files.Given as goal

abbrev pub invariant-loop-k : goal.invariant-loop-k
invariant-loop-k l =
    l.files ≡ l.fn.files ++ flat_map (λ port. file_of l.unit l.number port ∷ []) (range_with_len 0 l.k)
