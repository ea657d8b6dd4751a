use Rattle.std.proofs.Common.{◌≡◌, ◌+◌, ◌++◌, drop}
use Rattle.element_rules.specs.ElementRules.{elements_of}
use Rattle.elaboration_code.specs.ItemActions.{signals_from}
use Rattle.elaboration_compile.proofs.functions.push_signals.Given as goal

abbrev pub invariant-loop-decl : goal.invariant-loop-decl
invariant-loop-decl l = record {
  next : l.next + elements_of (drop l.decl-index l.decls) ≡ l.first + elements_of l.decls;
  rest : l.signals ++ signals_from l.next (drop l.decl-index l.decls) ≡ l.fn.signals ++ signals_from l.first l.decls;
}
