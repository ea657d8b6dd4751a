-- The types of signals by their names.
use Rattle.std.specs.Prelude.{ℕ, List, find, bytes_eq, Option, Some, None, option_map, if◌then◌else◌}
use Rattle.std.specs.Map.{lookup}
use Rattle.fix_word.specs.declared.types.SigType.{SigType}
use Rattle.silage_syntax.specs.declared.tree.Decl.{Decl}
use Rattle.silage_syntax.specs.Tree.{Func}
use Rattle.silage_syntax.specs.Names.{declared}

-- the type that the name has in a list of types by names
abbrev pub type_in : List (List ℕ × SigType) → List ℕ → Option SigType
type_in entries name = lookup (bytes_eq name) entries

-- the type that the first of these declarations gives the name
abbrev pub decl_type : List Decl → List ℕ → Option SigType
decl_type ds name = option_map (λ (d : Decl). d.ty) (find (λ (d : Decl). bytes_eq d.name name) ds)

-- the type that this declaration gives the name, if it is its own
abbrev pub gives_type : Decl → List ℕ → Option SigType
gives_type d name = if bytes_eq d.name name then Some d.ty else None

-- the type of the function's signal of this name
abbrev pub signal_type : Func → List ℕ → Option SigType
signal_type f name = option_map (λ (d : ℕ × Decl). d.1.ty) (declared f name)
