-- What names mean, and which element of an array its subscripts select.
use Rattle.std.specs.Prelude.{◌≡◌, ℕ, ◌+◌, ◌*◌, ◌<◌, List, [], ◌∷◌, ◌++◌, find, filter_map, Option, Some, None}
use Rattle.std.specs.Prelude.{bytes_eq, codes}
use Rattle.std.specs.List.{enumerate_from}
use Rattle.silage_syntax.specs.declared.tree.ConstDef.{ConstDef}
use Rattle.silage_syntax.specs.declared.tree.Decl.{Decl}
use Rattle.silage_syntax.specs.Tree.{Manifest, Func, Top, table, function, Program}
use Rattle.silage_syntax.specs.Manifests.{Indices, HasValue}

-- the declarations of a function: its parameters, its results, its locals
abbrev pub decls : Func → List Decl
decls f = f.params ++ (f.results ++ f.locals)

-- the declaration of a name in a function, with its index among all of them
abbrev pub declared : Func → List ℕ → Option (ℕ × Decl)
declared f name = find (λ (d : ℕ × Decl). bytes_eq d.1.name name) (enumerate_from 0 (decls f))

abbrev pub as_table : Top → Option ConstDef
as_table (table c) = Some c
as_table (function f) = None

abbrev pub as_function : Top → Option Func
as_function (table c) = None
as_function (function f) = Some f

-- the table of a name, the function of a name
abbrev pub table_named : Program → List ℕ → Option ConstDef
table_named p name = find (λ (c : ConstDef). bytes_eq c.name name) (filter_map as_table p.tops)

abbrev pub function_named : Program → List ℕ → Option Func
function_named p name = find (λ (f : Func). bytes_eq f.name name) (filter_map as_function p.tops)

abbrev pub main_of : Program → Option Func
main_of p = function_named p (codes "main")

-- how many elements an array of these dims has; no dims are those of a single element
abbrev pub element_count : List ℕ → ℕ
element_count [] = 1
element_count (dim ∷ dims) = dim * element_count dims

-- the row-major offset that the subscripts select in an array of these dims, each of them below its dim
abbrev pub IsOffset : Indices → List ℕ → List Manifest → ℕ → Type 0
IsOffset indices [] [] k = k ≡ 0
IsOffset indices (dim ∷ dims) (sub ∷ subs) k =
    (i rest : ℕ) × HasValue indices sub i × (i < dim) × IsOffset indices dims subs rest
    × (k ≡ i * element_count dims + rest)
IsOffset indices _ _ k = ⊥
