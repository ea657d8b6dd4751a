-- What the code knows of names, as the rules see it.
use Rattle.std.specs.Prelude.{ℕ, List, [], ◌∷◌}
use Rattle.silage_syntax.specs.Tree.{view, view_func}
use Rattle.name_rules.specs.Contexts.{Context}
use Rattle.name_check.specs.declared.context.Context.{Context as RustContext}
use Rattle.name_check.specs.declared.context.Indices.{Indices, Outermost, Inside'}

abbrev pub index_names : Indices → List (List ℕ)
index_names Outermost = []
index_names (Inside' index p outer) = index.now ∷ index_names outer

abbrev pub context_of : RustContext → Context
context_of c = record {
  program = view c.tops.program.now;
  func = view_func c.func.now;
  indices = index_names c.indices.now;
}
