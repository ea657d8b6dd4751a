-- The channels of words of so many bits in two's complement.
use Rattle.std.proofs.Common.{◌≤◌, ◌^◌, arith, ℕ, zero, suc, List, [], ◌∷◌, map}
use Rattle.std.specs.List.{All}
use Rattle.std.proofs.Math.Pow.{pow_mono}
use Rattle.std.proofs.lemmas.Int.{ints}
use Rattle.std.proofs.lemmas.List.Elements.{All-head, All-tail, All-cons, All-nil}
use Rattle.sample_io.specs.Channels.{IsChannel, channel_of}

-- raw words of at most 40 bits are those of a channel
pub channel_is : (width : ℕ) → width ≤ 40 → IsChannel (channel_of width)
channel_is zero few = record {
  low = omega (arith, ints);
  low_zero = omega (arith, ints);
  zero_high = omega (arith, ints);
  high = omega (arith, ints);
}
channel_is (suc n) few =
    let some : 1 ≤ 2 ^ n = pow_mono {i = 0} {j = n} (omega arith) in
    let most : 2 ^ n ≤ 2 ^ 39 = pow_mono {j = 39} (omega (arith, few)) in
    record {
      low = omega (arith, ints, some, most);
      low_zero = omega (arith, ints, some, most);
      zero_high = omega (arith, ints, some, most);
      high = omega (arith, ints, some, most);
    }

pub each_channel_is : (widths : List ℕ) → All (λ width. width ≤ 40) widths → All IsChannel (map channel_of widths)
each_channel_is [] few = All-nil IsChannel
each_channel_is (width ∷ widths) few =
    All-cons IsChannel (channel_of width) (map channel_of widths)
    (channel_is width (All-head (λ w. w ≤ 40) width widths few))
    (each_channel_is widths (All-tail (λ w. w ≤ 40) width widths few))
