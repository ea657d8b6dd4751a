-- The rules of a table, key by key, each a test with the fault where it fails. `at` says which fault stands for each.
use Rattle.std.specs.Prelude.{ℕ, List, Bool, true, false, ◌||◌, Option, Some, is_some, Result, Err}
use Rattle.toml.specs.Data.{Members}
use Rattle.fault_order.specs.Rules.{Rules, parts, none, ◌▸◌, unless}
use Rattle.toml_rows.specs.declared.misfit.Misfit.{Misfit}
use Rattle.toml_rows.specs.declared.misfit.Misfit.TheVariants as misfit
use Rattle.toml_rows.specs.Rows.{Row, keys_among, judged_at}
use Rattle.toml_rows.specs.Reading.{TableFault, UnknownKey, Missing, WrongKind, Range}

abbrev pub is_of_kind : {A : Type 0} → Option (Result A Misfit) → Bool
is_of_kind (Some (Err misfit.WrongKind)) = false
is_of_kind _ = true

abbrev pub is_in_range : {A : Type 0} → Option (Result A Misfit) → Bool
is_in_range (Some (Err misfit.Range)) = false
is_in_range _ = true

module _ {F : Type 0} (at : TableFault → F) where
  abbrev pub judged_rules : {A : Type 0} → (default : Option A) → Option (Result A Misfit) → Rules F
  judged_rules default judged =
      parts (
      unless (is_some judged || is_some default) (at Missing)
      ▸ unless (is_of_kind judged) (at WrongKind)
      ▸ unless (is_in_range judged) (at Range)
      ▸ none)

  -- the rules of a key
  abbrev pub key_rules : {A : Type 0} → Members → Row A → Rules F
  key_rules t r = judged_rules r.default (judged_at r t)

  -- the table has no keys but these
  abbrev pub only_rules : Members → List (List ℕ) → Rules F
  only_rules t names = unless (keys_among names t) (at UnknownKey)
