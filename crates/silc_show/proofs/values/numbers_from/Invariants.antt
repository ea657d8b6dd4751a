use Rattle.std.proofs.Common.{◌≡◌, ◌-◌, ◌<◌, length}
use Rattle.std.specs.List.{All}
use Rattle.silc_show.proofs.values.numbers_from.Given as goal

abbrev pub invariant-loop-number : goal.invariant-loop-number
invariant-loop-number l = record {
  count : length l.numbers ≡ l.number - l.first;
  each : All (λ number. number < l.end) l.numbers;
}
