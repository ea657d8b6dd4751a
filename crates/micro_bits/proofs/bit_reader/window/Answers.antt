use Rattle.std.proofs.Common.{◌≡◌, ℕ, ◌<◌, ◌++◌, get_or, take, drop, replicate, rules}
use Rattle.std.specs.Int.{w64, from_be_bytes}
use Rattle.micro_bits.proofs.BitWindow.{window_bits}
use Rattle.micro_bits.proofs.bit_reader.window.Goals as goal

pub returns-then-rest-ge-WINDOW : goal.returns-then-rest-ge-WINDOW
returns-then-rest-ge-WINDOW c =
    let read : c.from_be_bytes.result
    ≡ from_be_bytes w64 (take 8 (drop c.args.from c.args.bytes.now ++ replicate 8 0)) = search rules in
    let small : (i : ℕ) → get_or c.args.bytes.now i 0 < 256 = search rules in
    window_bits c.args.bytes.now c.args.from c.from_be_bytes.result small read

pub returns-else-rest-ge-WINDOW : goal.returns-else-rest-ge-WINDOW
returns-else-rest-ge-WINDOW c =
    let read : c.last_window.result
    ≡ from_be_bytes w64 (take 8 (drop c.args.from c.args.bytes.now ++ replicate 8 0)) = search rules in
    let small : (i : ℕ) → get_or c.args.bytes.now i 0 < 256 = search rules in
    window_bits c.args.bytes.now c.args.from c.last_window.result small read
