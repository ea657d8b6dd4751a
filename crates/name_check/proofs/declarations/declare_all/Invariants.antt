use Rattle.name_check.proofs.Declared.{HasDeclared}
use Rattle.name_check.proofs.declarations.declare_all.Given as goal

abbrev pub invariant-loop-d : goal.invariant-loop-d
invariant-loop-d l = HasDeclared l.tops l.fn.signals l.decls l.d-index l.signals
