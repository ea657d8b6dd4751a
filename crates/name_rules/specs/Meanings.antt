-- What names mean to the rules on them, and the sizes that are allowed.
use Rattle.std.specs.Prelude.{ℕ, ◌&&◌, ◌||◌, Bool, true, List, [], map, length, nat_eq, nat_le, bytes_eq}
use Rattle.std.specs.Prelude.{Option, Some, None, option_map, if◌then◌else◌}
use Rattle.std.specs.List.{list_any, list_all}
use Rattle.std.specs.Option.{option_or}
use Rattle.fix_word.specs.declared.types.FixType.{FixType}
use Rattle.fix_word.specs.declared.types.SigType.{SigType}
use Rattle.fix_word.specs.declared.types.SigType.TheVariants as sig
use Rattle.silage_syntax.specs.declared.tree.ConstDef.{ConstDef}
use Rattle.silage_syntax.specs.declared.tree.Decl.{Decl}
use Rattle.silage_syntax.specs.Tree.{Manifest, Func}
use Rattle.silage_syntax.specs.Names.{declared, table_named, element_count}
use Rattle.name_rules.specs.Contexts.{Context}

abbrev pub is_among : List (List ℕ) → List ℕ → Bool
is_among names name = list_any (bytes_eq name) names

abbrev pub names_of : List Decl → List (List ℕ)
names_of ds = map (λ (d : Decl). d.name) ds

-- the dims of the signal of this name
abbrev pub signal_dims : Context → List ℕ → Option (List ℕ)
signal_dims c name = option_map (λ (d : ℕ × Decl). d.1.dims) (declared c.func name)

-- the dims of what a read of this name reads: a signal, else a table
abbrev pub read_dims : Context → List ℕ → Option (List ℕ)
read_dims c name = option_or (signal_dims c name) (option_map (λ (t : ConstDef). t.dims) (table_named c.program name))

-- the parameters and results of a called function; a name of no function has none
abbrev pub params_of : Option Func → List Decl
params_of None = []
params_of (Some f) = f.params

abbrev pub results_of : Option Func → List Decl
results_of None = []
results_of (Some f) = f.results

-- an array has at most this many elements, and a word this many bits
abbrev pub most_elements : ℕ
most_elements = 8192

abbrev pub most_bits : ℕ
most_bits = 40

abbrev pub is_dim : ℕ → Bool
is_dim dim = nat_le 1 dim && nat_le dim most_elements

-- each dim is allowed, and so is their product
abbrev pub are_dims : List ℕ → Bool
are_dims dims = list_all is_dim dims && nat_le (element_count dims) most_elements

-- a word has one bit or more, and no more of them after the point
abbrev pub is_fix_type : FixType → Bool
is_fix_type ty = nat_le 1 ty.shape.w && (nat_le ty.shape.w most_bits && nat_le ty.shape.f ty.shape.w)

abbrev pub is_signal_type : SigType → Bool
is_signal_type (sig.Fix ty) = is_fix_type ty
is_signal_type sig.Bool = true

-- the subscripts pick one element of an array with these dims
abbrev pub is_element : List Manifest → (dims : List ℕ) → Bool
is_element subs dims = nat_eq (length subs) (length dims)

-- there are no subscripts: the name is that of the whole array, which has the wanted dims
abbrev pub is_whole_array : (wanted : List ℕ) → List Manifest → (dims : List ℕ) → Bool
is_whole_array wanted subs dims = nat_eq (length subs) 0 && bytes_eq dims wanted

-- A place with these subscripts, of a name with these dims, takes the result of a call: an element takes an element,
-- and a whole array an array. Where there is no such result, it is enough that the place can take some result.
abbrev pub takes : (result : Option Decl) → List Manifest → (dims : List ℕ) → Bool
takes None subs dims = nat_eq (length subs) 0 || is_element subs dims
takes (Some r) subs dims =
    if nat_eq (length r.dims) 0 then is_element subs dims else is_whole_array r.dims subs dims
