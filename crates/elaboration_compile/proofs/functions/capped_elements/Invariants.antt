use Rattle.std.proofs.Common.{◌≡◌, ◌≤◌, ◌+◌, drop}
use Rattle.element_rules.specs.ElementRules.{elements_of}
use Rattle.elaboration_code.specs.ItemActions.{capped}
use Rattle.elaboration_compile.proofs.functions.capped_elements.Given as goal

abbrev pub invariant-loop-decl : goal.invariant-loop-decl
invariant-loop-decl l = record {
  small : l.all ≤ 8193;
  rest : capped (l.all + elements_of (drop l.decl-index l.decls)) ≡ capped (elements_of l.decls);
}
