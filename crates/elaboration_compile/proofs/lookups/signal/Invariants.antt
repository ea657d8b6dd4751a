use Rattle.std.proofs.Common.{◌≡◌, ℕ, find, map, drop}
use Rattle.std.specs.Prelude.{bytes_eq}
use Rattle.std.specs.List.{enumerate_from}
use Rattle.silage_syntax.specs.declared.tree.Decl.{Decl}
use Rattle.silage_syntax.specs.Names.{declared}
use Rattle.elaboration_compile.specs.Private.Scopes.{function_of}
use Rattle.elaboration_compile.proofs.lookups.signal.Given as goal

abbrev pub invariant-loop-d : goal.invariant-loop-d
invariant-loop-d l =
    find (λ (q : ℕ × Decl). bytes_eq q.1.name l.name)
    (enumerate_from l.d (map (λ d. d.now) (drop l.d l.scope.decls.now))) ≡ declared (function_of l.scope) l.name
