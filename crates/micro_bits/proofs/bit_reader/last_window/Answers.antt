use Rattle.std.proofs.Common.{◌≡◌, ℕ, List, ◌++◌, length, drop, replicate, ap, ◌∙◌, arith}
use Rattle.std.specs.Int.{w64, from_be_bytes}
use Rattle.micro_bits.proofs.BitNumbers.{filled}
use Rattle.micro_bits.proofs.bit_reader.last_window.Goals as goal

pub returns : goal.returns
returns c =
    let read : c.from_be_bytes.result
    ≡ from_be_bytes w64 (c.copy_from_slice.new.self ++ drop (length c.args.rest.now) (replicate 8 0)) =
    c.from_be_bytes.ensures in
    read
    ∙ ap (λ (xs : List ℕ). from_be_bytes w64 (xs ++ drop (length c.args.rest.now) (replicate 8 0)))
    c.copy_from_slice.ensures.after
    ∙ ap (from_be_bytes w64) (filled 8 c.args.rest.now (omega arith))
