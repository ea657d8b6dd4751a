use Rattle.type_rules.proofs.SignalTypes.{HasAdded}
use Rattle.fix_types.proofs.signals.Signals.declare_all.Given as goal

abbrev pub invariant-loop-decl : goal.invariant-loop-decl
invariant-loop-decl l = HasAdded l.fn.self l.decls l.decl-index l.self
