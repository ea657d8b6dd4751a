-- The declarations of a function.
use Rattle.std.specs.Prelude.{List, ◌++◌}
use Rattle.silage_syntax.specs.declared.tree.Decl.{Decl}
use Rattle.type_rules.specs.TypedTree.{TypedFunc}

-- the parameters, results and locals
abbrev pub decls_of : TypedFunc → List Decl
decls_of f = f.params ++ (f.results ++ f.locals)
