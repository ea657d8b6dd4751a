use Rattle.std.proofs.Common.{◌≡◌, ℕ, ◌+◌, ◌-◌, ◌*◌, ◌/◌, ◌%◌, ◌^◌, ◌≤◌, List, ◌++◌, sym, ap, ◌∙◌, arith}
use Rattle.std.specs.Int.{w64, to_be_bytes}
use Rattle.micro_image.specs.Bits.{bits}
use Rattle.micro_image.specs.Spells.{bits_of}
use Rattle.micro_bits.proofs.Writing.{joined_word, put_bits, full_bits, one_shifted}
use Rattle.micro_bits.proofs.bit_writer.BitWriter.put.Goals as goal

pub returns-then-count-free : goal.returns-then-count-free
returns-then-count-free c =
    let n = c.args.count in
    let power : (1 * 2 ^ n) % 2 ^ 64 ≡ 2 ^ n = one_shifted n (omega (arith, c.requires.few)) in
    ap (λ (p : ℕ). bits_of c.self.inside.bytes
    ++ bits (c.self.inside.count + n) (joined_word c.self.inside.word n (c.args.number % p))) power
    ∙ put_bits c.self.inside.bytes c.self.inside.count n c.self.inside.word c.args.number
    (omega (arith, c.if-count-free.true))
    ∙ ap (λ (xs : List ℕ). xs ++ bits n c.args.number) c.self.view_is

pub returns : goal.returns
returns c =
    let n = c.args.count in
    let count = c.self.inside.count in
    let word = c.self.inside.word in
    let number = c.args.number in
    let free = 64 - count in
    let rest = n - free in
    let le : free ≤ n = omega (arith, c.if-count-free.false) in
    let parts : n ≡ free + rest = omega (arith, le) in
    let whole : count + free ≡ 64 = omega (arith, c.self.invariant) in
    let power : (1 * 2 ^ n) % 2 ^ 64 ≡ 2 ^ (free + rest) =
    one_shifted n (omega (arith, c.requires.few)) ∙ ap (λ (k : ℕ). 2 ^ k) parts in
    ap (λ (xs : List ℕ). bits_of xs ++ bits rest (number % ((1 * 2 ^ n) % 2 ^ 64))) c.in_ok-put_full.ensures
    ∙ ap (λ (p : ℕ). bits_of (c.self.inside.bytes ++ to_be_bytes w64 (joined_word word free ((number % p) / 2 ^ rest)))
    ++ bits rest (number % p)) power
    ∙ full_bits c.self.inside.bytes count free rest word number whole
    ∙ ap (λ (k : ℕ). (bits_of c.self.inside.bytes ++ bits count word) ++ bits k number) (sym parts)
    ∙ ap (λ (xs : List ℕ). xs ++ bits n number) c.self.view_is
