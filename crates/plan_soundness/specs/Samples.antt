-- Numbers of samples without a sign.
use Rattle.std.specs.Prelude.{ℕ}

-- Samples are counted from this many before sample 0, so that sample n has the number past + n. It is above each delay,
-- and a multiple of each count of copies.
abbrev pub past : ℕ
past = 1024
