-- What the code knows of a function, as the definitions see it.
use Rattle.silage_syntax.specs.Tree.{Func, Program, view, view_func}
use Rattle.fix_types.specs.declared.scope.Scope.{Scope}

abbrev pub program_of : Scope → Program
program_of s = view s.tops.program.now

abbrev pub function_of : Scope → Func
function_of s = view_func s.func.now
