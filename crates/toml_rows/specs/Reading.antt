-- Reading tables key by key, up to the first fault. `at` says which fault stands for each that a table can have.
use Rattle.std.specs.Prelude.{◌≡◌, ◌≢◌, ℕ, List, [], ◌∷◌, ◌++◌, Option, Some, None, Result, Ok, Err, if◌then◌else◌}
use Rattle.toml.specs.Data.{Members}
use Rattle.toml_rows.specs.declared.misfit.Misfit.{Misfit}
use Rattle.toml_rows.specs.declared.misfit.Misfit.TheVariants as misfit
use Rattle.toml_rows.specs.Rows.{Row, keys_among, judged_at}

-- what a table can have against it
pub data TableFault : Type 0 where
  UnknownKey : TableFault
  Missing : TableFault
  WrongKind : TableFault
  Range : TableFault

infixl 10 ◌>>=◌
abbrev pub ◌>>=◌ : {F A B : Type 0} → Result A F → (A → Result B F) → Result B F
(Ok x) >>= f = f x
(Err e) >>= f = Err e

abbrev pub misfit_at : {F : Type 0} → (TableFault → F) → Misfit → F
misfit_at at misfit.WrongKind = at WrongKind
misfit_at at misfit.Range = at Range

-- a value that was judged
abbrev pub judged : {F A : Type 0} → (TableFault → F) → Result A Misfit → Result A F
judged at (Ok x) = Ok x
judged at (Err e) = Err (misfit_at at e)

-- the default of a key that is missing
abbrev pub absent : {F A : Type 0} → (TableFault → F) → Option A → Result A F
absent at (Some x) = Ok x
absent at None = Err (at Missing)

abbrev pub found : {F A : Type 0} → (TableFault → F) → Option A → Option (Result A Misfit) → Result A F
found at default None = absent at default
found at default (Some r) = judged at r

-- what the table has at the key of a row
unfoldable pub key : {F A : Type 0} → (TableFault → F) → Members → Row A → Result A F
key at t r = found at r.default (judged_at r t)

-- the table has no keys but these
unfoldable pub only : {F : Type 0} → (TableFault → F) → Members → List (List ℕ) → Result (Unit {0}) F
only at t names = if keys_among names t then Ok tt else Err (at UnknownKey)

-- one after the other, each by what was read before it
unfoldable pub in_turn : {F A B : Type 0} → (List B → A → Result B F) → List B → List A → Result (List B) F
in_turn one before [] = Ok before
in_turn one before (x ∷ xs) = one before x >>= λ y. in_turn one (before ++ y ∷ []) xs

-- the answer, seen as what it stands for, is what is read, unless memory ran out
abbrev pub GivesAs : {F X A : Type 0} → (memory : F) → (X → A) → Result X F → Result A F → Type 0
GivesAs memory view (Ok x) read = read ≡ Ok (view x)
GivesAs memory view (Err e) read = e ≢ memory → read ≡ Err e

abbrev pub Gives : {F A : Type 0} → (memory : F) → Result A F → Result A F → Type 0
Gives memory (Ok x) read = read ≡ Ok x
Gives memory (Err e) read = e ≢ memory → read ≡ Err e
