use Rattle.std.proofs.Common.{◌≡◌, ◌++◌, drop}
use Rattle.silage_meaning.specs.Types.{word_types}
use Rattle.loop_expand.proofs.elements.put_types.Given as goal

abbrev pub invariant-loop-decl : goal.invariant-loop-decl
invariant-loop-decl l = l.types ++ word_types (drop l.decl-index l.decls) ≡ l.fn.types ++ word_types l.decls
