-- The rows of a format, one for each key, and what a table has at them.
use Rattle.std.specs.Prelude.{◌≡◌, ℕ, List, Bool, true, ◌&&◌, Option, Some, None, option_map, unwrap_or, Result, Ok}
use Rattle.std.specs.Prelude.{MatchOption}
use Rattle.std.specs.List.{list_any}
use Rattle.std.specs.Result.{result_ok}
use Rattle.std.specs.Str.{bytes_eq}
use Rattle.toml.specs.Data.{Members, no_members, member, get_member}
use Rattle.toml_rows.specs.declared.misfit.Misfit.{Misfit}
use Rattle.toml_rows.specs.Values.{Judge}

-- a key, what its value may be, and what stands for it where it is missing
pub record Row (A : Type 0) : Type 0 where
  pub key : List ℕ
  pub value : Judge A
  pub default : Option A

abbrev pub row : {A : Type 0} → List ℕ → Judge A → Option A → Row A
row key value default = record { key = key; value = value; default = default }

-- nothing stands for it
abbrev pub required : {A : Type 0} → Option A
required = None

-- each key of the table is one of these
abbrev pub keys_among : List (List ℕ) → Members → Bool
keys_among names no_members = true
keys_among names (member k d ms) = list_any (bytes_eq k) names && keys_among names ms

-- the table has no keys but these
abbrev pub HasOnly : List (List ℕ) → Members → Type 0
HasOnly keys t = keys_among keys t ≡ true

-- x is what the table has at the key of the row, or the row's default where the key is missing
abbrev pub IsValue : {A : Type 0} → Row A → Members → A → Type 0
IsValue r t x = MatchOption (get_member r.key t) (r.default ≡ Some x) (λ d. r.value d ≡ Ok x)

-- what the table has at the key of the row, judged, if the key is there
abbrev pub judged_at : {A : Type 0} → Row A → Members → Option (Result A Misfit)
judged_at r t = option_map r.value (get_member r.key t)

abbrev pub value_of : {A : Type 0} → Option A → Option (Result A Misfit) → Option A
value_of default None = default
value_of default (Some judged) = result_ok judged

-- the value of the row or its default, or `other` where it has a fault
abbrev pub value_or : {A : Type 0} → A → Row A → Members → A
value_or other r t = unwrap_or (value_of r.default (judged_at r t)) other
