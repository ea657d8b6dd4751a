-- Half the number of words is a power of two of at most 2^39.
use Rattle.std.proofs.Common.{ℕ, ◌-◌, ◌^◌, ◌≤◌, arith}
use Rattle.std.proofs.Math.Pow.{pow_mono}
use Rattle.std.proofs.lemmas.Int.{ints}
use Rattle.sample_io.proofs.channel.Channel.of.Goals as goal

half_range : (width : ℕ) → width ≤ 40 → (1 ≤ 2 ^ (width - 1)) × (2 ^ (width - 1) ≤ 2 ^ 39)
half_range width few = (pow_mono {i = 0} {j = width - 1} (omega arith), pow_mono {j = 39} (omega arith))

pub overflow_sub-result : goal.overflow_sub-result
overflow_sub-result c = let range = half_range c.args.width c.requires in omega (arith, ints, range.0, range.1)

pub overflow_sub-result-2 : goal.overflow_sub-result-2
overflow_sub-result-2 c = let range = half_range c.args.width c.requires in omega (arith, ints, range.0, range.1)

pub returns-clause-channel : goal.returns-clause-channel
returns-clause-channel c =
    let range = half_range c.args.width c.requires in record {
      low = omega (arith, ints, range.0, range.1);
      low_zero = omega (arith, ints, range.0, range.1);
      zero_high = omega (arith, ints, range.0, range.1);
      high = omega (arith, ints, range.0, range.1);
    }
