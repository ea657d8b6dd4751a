-- What a value of a file may be: a whole number of a range, a text, a table, an array of these.
use Rattle.std.specs.Prelude.{ℕ, pos, negsuc, nat_le, List, [], ◌∷◌, length, Bool, ◌&&◌, Result, Ok, Err, if◌then◌else◌}
use Rattle.std.specs.Option.{ok_or}
use Rattle.toml.specs.Data.{Data, Items, no_items, item, Members, integer, array, as_str, as_table}
use Rattle.toml_rows.specs.declared.misfit.Misfit.{Misfit}
use Rattle.toml_rows.specs.declared.misfit.Misfit.TheVariants.{WrongKind, Range}

-- a value of the file, taken for what its key wants, or why it is not that
abbrev pub Judge : Type 0 → Type 0
Judge A = Data → Result A Misfit

abbrev pub is_within : ℕ → ℕ → ℕ → Bool
is_within least most n = nat_le least n && nat_le n most

-- a whole number of the range
abbrev pub whole : ℕ → ℕ → Judge ℕ
whole least most (integer (pos n)) = if is_within least most n then Ok n else Err Range
whole least most (integer (negsuc n)) = Err Range
whole least most _ = Err WrongKind

-- a text
abbrev pub text : Judge (List ℕ)
text d = ok_or (as_str d) WrongKind

-- a table
abbrev pub a_table : Judge Members
a_table d = ok_or (as_table d) WrongKind

-- the entries of an array: WrongKind where one is of a wrong kind, else Range where one is out of range
abbrev pub join : {A : Type 0} → Result A Misfit → Result (List A) Misfit → Result (List A) Misfit
join (Err WrongKind) rest = Err WrongKind
join (Ok x) (Ok xs) = Ok (x ∷ xs)
join (Ok x) (Err e) = Err e
join (Err Range) (Err e) = Err e
join (Err Range) (Ok xs) = Err Range

abbrev pub entries : {A : Type 0} → Judge A → Items → Result (List A) Misfit
entries judge no_items = Ok []
entries judge (item d ds) = join (judge d) (entries judge ds)

-- an array of these
abbrev pub array_of : {A : Type 0} → Judge A → Judge (List A)
array_of judge (array ds) = entries judge ds
array_of judge _ = Err WrongKind

abbrev pub counted : {A : Type 0} → ℕ → ℕ → Result (List A) Misfit → Result (List A) Misfit
counted least most (Err e) = Err e
counted least most (Ok xs) = if is_within least most (length xs) then Ok xs else Err Range

-- an array of so many of these; Range where it is too short or too long
abbrev pub array_within : {A : Type 0} → ℕ → ℕ → Judge A → Judge (List A)
array_within least most judge d = counted least most (array_of judge d)
