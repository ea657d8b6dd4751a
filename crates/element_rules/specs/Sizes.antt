-- The sizes of what is declared, and the numbers of its elements.
use Rattle.std.specs.Prelude.{ℕ, ◌≤◌, Bool, true, IsTrue, List, length, take}
use Rattle.std.specs.List.{list_all}
use Rattle.silage_syntax.specs.declared.tree.Decl.{Decl}
use Rattle.silage_syntax.specs.Tree.{Top, table, function, Program}
use Rattle.silage_syntax.specs.Names.{decls}
use Rattle.name_rules.specs.Meanings.{are_dims}
use Rattle.element_rules.specs.ElementRules.{elements_of}

-- each array has 1 to 8,192 elements
abbrev pub AreSized : List Decl → Type 0
AreSized ds = IsTrue (list_all (λ (d : Decl). are_dims d.dims) ds)

abbrev pub top_is_sized : Top → Bool
top_is_sized (table c) = true
top_is_sized (function f) = list_all (λ (d : Decl). are_dims d.dims) (decls f)

abbrev pub IsTopSized : Top → Type 0
IsTopSized top = IsTrue (top_is_sized top)

-- a function has a result
abbrev pub HasResult : Top → Type 0
HasResult (table c) = Unit {0}
HasResult (function f) = 1 ≤ length f.results

abbrev pub AreAllSized : Program → Type 0
AreAllSized p = IsTrue (list_all top_is_sized p.tops)

-- the number of the first element of the declaration at a position
abbrev pub first_of : List Decl → ℕ → ℕ
first_of ds d = elements_of (take d ds)
