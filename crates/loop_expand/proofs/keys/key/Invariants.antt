use Rattle.std.proofs.Common.{◌≡◌, drop}
use Rattle.loop_expand.specs.Private.Keys.{digits_after}
use Rattle.loop_expand.proofs.keys.key.Given as goal

abbrev pub invariant-loop-byte : goal.invariant-loop-byte
invariant-loop-byte l = digits_after l.key (drop l.byte-index l.last) ≡ digits_after 0 l.last
