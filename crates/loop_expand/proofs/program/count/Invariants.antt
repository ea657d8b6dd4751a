use Rattle.std.proofs.Common.{◌≡◌, ◌+◌, drop}
use Rattle.element_rules.specs.ElementRules.{elements_of}
use Rattle.loop_expand.proofs.program.count.Given as goal

abbrev pub invariant-loop-decl : goal.invariant-loop-decl
invariant-loop-decl l = l.all + elements_of (drop l.decl-index l.decls) ≡ elements_of l.decls
