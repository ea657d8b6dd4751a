-- Channels, and the rows and streams of raw words on them.
use Rattle.std.specs.Prelude.{ℕ, zero, suc, ◌-◌, ◌^◌, ◌≤◌, List, length, All, ℤ, pos, neg_ℤ, ◌≤ℤ◌, ◌<ℤ◌}
use Rattle.std.specs.List.{AllZip}
use Rattle.lists.specs.Rows.{Rows}
use Rattle.sample_io.specs.declared.channel.Channel.{Channel}

-- the raw word is in the channel's range
abbrev pub IsInChannel : Channel → ℤ → Type 0
IsInChannel channel word = (channel.low ≤ℤ word) × (word ≤ℤ channel.high)

-- the channel's range holds zero, and its raw words lie from -2^39 up to 2^39 - 1
pub record IsChannel (channel : Channel) : Type 0 where
  pub low : neg_ℤ (pos (2 ^ 39)) ≤ℤ channel.low
  pub low_zero : channel.low ≤ℤ pos 0
  pub zero_high : pos 0 ≤ℤ channel.high
  pub high : channel.high <ℤ pos (2 ^ 39)

-- the channel of words of this many bits in two's complement; 0 is the width of a bool
abbrev pub channel_of : (width : ℕ) → Channel
channel_of zero = record { low = pos 0; high = pos 1 }
channel_of (suc n) = record { low = neg_ℤ (pos (2 ^ n)); high = pos (2 ^ n - 1) }

-- one to sixteen channels
pub record AreChannels (channels : List Channel) : Type 0 where
  pub some : 1 ≤ length channels
  pub few : length channels ≤ 16
  pub each : All IsChannel channels

-- a row has one raw word for each channel, in the channel's range
abbrev pub IsRow : List Channel → List ℤ → Type 0
IsRow channels row = AllZip IsInChannel channels row

-- a stream is a list of rows
abbrev pub IsStream : List Channel → Rows → Type 0
IsStream channels rows = All (IsRow channels) rows
