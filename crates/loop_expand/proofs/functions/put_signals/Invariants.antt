use Rattle.std.proofs.Common.{◌≡◌, ◌+◌, ◌++◌, drop}
use Rattle.element_rules.specs.ElementRules.{elements_of}
use Rattle.loop_expand.specs.Private.Scopes.{signals_from, view_signals}
use Rattle.loop_expand.proofs.functions.put_signals.Given as goal

abbrev pub invariant-loop-decl : goal.invariant-loop-decl
invariant-loop-decl l = record {
  next : l.next + elements_of (drop l.decl-index l.decls) ≡ l.first + elements_of l.decls;
  rest : view_signals l.signals.items ++ signals_from l.next (drop l.decl-index l.decls)
      ≡ view_signals l.fn.signals.items ++ signals_from l.first l.decls;
}
