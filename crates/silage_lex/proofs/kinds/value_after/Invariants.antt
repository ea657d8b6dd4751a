use Rattle.std.proofs.Common.{◌≡◌, ◌+◌, ◌*◌, ◌^◌, ◌≤◌, take}
use Rattle.silage_lex.specs.Texts.{decimal_after}
use Rattle.silage_lex.proofs.kinds.value_after.Given as goal

abbrev pub invariant-loop-digit : goal.invariant-loop-digit
invariant-loop-digit l =
    (l.value ≡ decimal_after l.fn.number (take l.digit-index l.digits))
    × (l.value + 1 ≤ (l.fn.number + 1) * 10 ^ l.digit-index)
