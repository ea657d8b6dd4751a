use Rattle.std.proofs.Common.{◌≡◌, ◌++◌, map, take}
use Rattle.elaboration_compile.proofs.functions.push_decls.Given as goal

abbrev pub invariant-loop-decl : goal.invariant-loop-decl
invariant-loop-decl l = map (λ d. d.now) l.all.items ≡ map (λ d. d.now) l.fn.all.items ++ take l.decl-index l.decls
