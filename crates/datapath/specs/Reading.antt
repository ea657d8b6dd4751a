-- Reading a table of the file key by key, up to the first fault.
use Rattle.std.specs.Prelude.{◌≡◌, ◌≢◌, ℕ, List, [], ◌∷◌, ◌++◌, Bool, true, false, ◌&&◌, Option, Some, None, option_map}
use Rattle.std.specs.Prelude.{Result, Ok, Err, if◌then◌else◌}
use Rattle.std.specs.List.{list_any}
use Rattle.std.specs.Str.{bytes_eq}
use Rattle.toml.specs.Data.{Members, no_members, member, get_member}
use Rattle.datapath.specs.declared.fault.Section.{Section}
use Rattle.datapath.specs.declared.fault.Misfit.{Misfit}
use Rattle.datapath.specs.declared.fault.Misfit.TheVariants as misfit
use Rattle.datapath.specs.declared.fault.PathFault.{PathFault}
use Rattle.datapath.specs.declared.fault.PathFault.TheVariants as fault
use Rattle.datapath.specs.Table.{Row}

-- what is read, or the first fault
abbrev pub Read : Type 0 → Type 0
Read A = Result A PathFault

infixl 10 ◌>>=◌
abbrev pub ◌>>=◌ : {A B : Type 0} → Result A PathFault → (A → Result B PathFault) → Result B PathFault
(Ok x) >>= f = f x
(Err e) >>= f = Err e

-- a value that was judged, or its fault in this table
abbrev pub judged : {A : Type 0} → Section → Result A Misfit → Read A
judged s (Ok x) = Ok x
judged s (Err misfit.WrongKind) = Err (fault.WrongKind s)
judged s (Err misfit.Range) = Err (fault.Range s)

-- the default of a key that is missing
abbrev pub absent : {A : Type 0} → Section → Option A → Read A
absent s (Some x) = Ok x
absent s None = Err (fault.Missing s)

abbrev pub found : {A : Type 0} → Section → Option A → Option (Result A Misfit) → Read A
found s default None = absent s default
found s default (Some r) = judged s r

-- what the table has at the key of a row
unfoldable pub key : {A : Type 0} → Section → Members → Row A → Read A
key s t r = found s r.default (option_map r.value (get_member r.key t))

-- each key of the table is one of these
abbrev pub keys_among : List (List ℕ) → Members → Bool
keys_among names no_members = true
keys_among names (member k d ms) = list_any (bytes_eq k) names && keys_among names ms

unfoldable pub only : Section → Members → List (List ℕ) → Read (Unit {0})
only s t names = if keys_among names t then Ok tt else Err (fault.UnknownKey s)

-- a row that some units alone have; the others have the second value
abbrev pub where_has : {A : Type 0} → Bool → Read A → A → Read A
where_has true row none = row
where_has false row none = Ok none

-- one after the other, each by what was read before it
unfoldable pub in_turn : {A B : Type 0} → (List B → A → Read B) → List B → List A → Read (List B)
in_turn one before [] = Ok before
in_turn one before (x ∷ xs) = one before x >>= λ y. in_turn one (before ++ y ∷ []) xs

-- the answer is what is read, unless memory ran out
abbrev pub Gives : {A : Type 0} → Result A PathFault → Read A → Type 0
Gives (Ok x) read = read ≡ Ok x
Gives (Err e) read = e ≢ fault.Memory → read ≡ Err e
