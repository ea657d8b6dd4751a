-- Tables in which no instance is entered.
use Rattle.std.proofs.Common.{◌≡◌, ◌∙◌, ◌+◌, ℕ, ℤ, pos, negsuc, List, [], ◌∷◌, length, Bool, true, false, cond, Option}
use Rattle.std.proofs.Common.{Some, None, refl, ap}
use Rattle.std.specs.Prelude.{nat_eq}
use Rattle.std.specs.List.{range_with_len}
use Rattle.silage_syntax.specs.declared.tree.Decl.{Decl}
use Rattle.silage_syntax.specs.Tree.{Manifest, Place, Expr, Func, Program}
use Rattle.silage_syntax.specs.Manifests.{Indices, manifest_value}
use Rattle.silage_syntax.specs.Names.{declared, element_count}
use Rattle.element_rules.specs.declared.elements.Instance.{Instance}
use Rattle.element_rules.specs.Tables.{Mark, defines, counts, Table, rules, mark, in_order, Row, nothing, ◌▹◌, each}
use Rattle.element_rules.specs.Tables.{each_from}
use Rattle.element_rules.specs.Expansion.{instances_after, row_instances}
use Rattle.element_rules.specs.ElementRules.{picked, counted, each_place, definition, target_table, array_table}
use Rattle.element_rules.specs.ElementRules.{initial_value, initial_table, taker_table, takers, expr_rules}

abbrev pub EntersNone : Table → Type 0
EntersNone T = (number : ℕ) (front : List Instance) → instances_after number front T ≡ front

abbrev pub RowEntersNone : Row → Type 0
RowEntersNone row = (number : ℕ) (front : List Instance) → row_instances number front row ≡ front

none_then : (T : Table) (row : Row) → EntersNone T → RowEntersNone row → RowEntersNone (T ▹ row)
none_then T row first rest number front = ap (λ f. row_instances number f row) (first number front) ∙ rest number front

pub none_each : {A : Type 0} (G : A → Table) → ((x : A) → EntersNone (G x)) → (xs : List A) → RowEntersNone (each G xs)
none_each G none [] = λ number front. refl
none_each G none (x ∷ xs) = none_then (G x) (each G xs) (none x) (none_each G none xs)

pub none_each_from : {A : Type 0} (G : ℕ → A → Table)
    → ((k : ℕ) (x : A) → EntersNone (G k x))
    → (k : ℕ) (xs : List A)
    → RowEntersNone (each_from G k xs)
none_each_from G none k [] = λ number front. refl
none_each_from G none k (x ∷ xs) =
    none_then (G k x) (each_from G (k + 1) xs) (none k x) (none_each_from G none (k + 1) xs)

pub none_places : (M : ℕ → Mark) (d : Decl) → EntersNone (each_place M d)
none_places M d = none_each (λ k. mark (M k)) (λ k number front. refl) (range_with_len 0 (element_count d.dims))

none_either : (b : Bool) (S T : Table) → EntersNone S → EntersNone T → EntersNone (cond b S T)
none_either true S T first second = first
none_either false S T first second = second

pub none_counted : (load at : ℕ) → EntersNone (counted load at)
none_counted load at =
    none_either (nat_eq load 0) (in_order nothing) (mark (counts load at)) (λ number front. refl) (λ number front. refl)

none_definition : (d : ℕ) (place : Option ℕ) (at : ℕ) → EntersNone (definition d place at)
none_definition d None at = λ number front. refl
none_definition d (Some k) at = λ number front. refl

none_value : (d : ℕ) (place : Option ℕ) (sample : Option ℤ) (at : ℕ) → EntersNone (initial_value d place sample at)
none_value d None sample at = λ number front. refl
none_value d (Some k) None at = λ number front. refl
none_value d (Some k) (Some (pos s)) at = λ number front. refl
none_value d (Some k) (Some (negsuc s)) at = λ number front. refl

module _ (indices : Indices) where
  pub none_target : (o : Option (ℕ × Decl)) (place : Place) → EntersNone (target_table indices o place)
  none_target None place = λ number front. refl
  none_target (Some d) place = none_definition d.0 (picked indices d.1.dims place.subs) place.at

  none_array : (o : Option (ℕ × Decl)) (place : Place) → EntersNone (array_table o place)
  none_array None place = λ number front. refl
  none_array (Some d) place = none_places (λ k. defines d.0 k place.at) d.1

  pub none_initial : (o : Option (ℕ × Decl)) (place : Place) (amount : Manifest)
      → EntersNone (initial_table indices o place amount)
  none_initial None place amount = λ number front. refl
  none_initial (Some d) place amount =
      none_value d.0 (picked indices d.1.dims place.subs) (manifest_value indices amount) place.at

  module _ (p : Program) (f : Func) where
    pub none_takers : (results : List Decl) (places : List Place) → RowEntersNone (takers p f indices results places)
    none_takers [] places = λ number front. refl
    none_takers (result ∷ results) [] = λ number front. refl
    none_takers (result ∷ results) (place ∷ places) =
        none_then (taker_table p f indices result place) (takers p f indices results places)
        (none_either (nat_eq (length result.dims) 0) (target_table indices (declared f place.name) place)
        (array_table (declared f place.name) place)
        (none_target (declared f place.name) place) (none_array (declared f place.name) place))
        (none_takers results places)

    pub none_args : (args : List Expr) → RowEntersNone (each (λ x. rules (expr_rules p f indices x)) args)
    none_args args = none_each (λ x. rules (expr_rules p f indices x)) (λ x number front. refl) args
