use Rattle.std.proofs.Common.{◌≡◌, drop}
use Rattle.loop_expand.specs.Private.Facts.{signal_named}
use Rattle.loop_expand.specs.Private.Scopes.{view_signals}
use Rattle.loop_expand.proofs.lookups.signal.Given as goal

abbrev pub invariant-loop-signal : goal.invariant-loop-signal
invariant-loop-signal l =
    signal_named (view_signals (drop l.signal-index l.signals)) l.name ≡ signal_named (view_signals l.signals) l.name
