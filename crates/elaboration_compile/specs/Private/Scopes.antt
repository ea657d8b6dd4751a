-- What the code knows of names, as the definitions see it.
use Rattle.std.specs.Prelude.{ℕ, List, Option}
use Rattle.silage_syntax.specs.declared.tree.Decl.{Decl}
use Rattle.silage_syntax.specs.Tree.{Func, Program, view, view_func}
use Rattle.elaboration_code.specs.ItemActions.{located}
use Rattle.elaboration_compile.specs.declared.scope.Scope.{Scope}

abbrev pub program_of : Scope → Program
program_of s = view s.tops.program.now

abbrev pub function_of : Scope → Func
function_of s = view_func s.func.now

abbrev pub located_in : Scope → List ℕ → Option (ℕ × Decl)
located_in s name = located (function_of s) name
