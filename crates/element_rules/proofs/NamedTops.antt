-- The function of a name stands at the position of the name.
use Rattle.std.proofs.Common.{◌≡◌, ◌∙◌, ◌↔◌, ℕ, List, find, position, slice_get, Option, Some, None, unwrap_or}
use Rattle.std.proofs.Common.{bytes_eq, refl, ap}
use Rattle.silage_syntax.specs.Tree.{Func, Top, table, function, Program}
use Rattle.silage_syntax.specs.Names.{function_named}
use Rattle.name_rules.specs.TopNames.{top_name, top_names, IsFirstPlace, position_of}
use Rattle.name_rules.specs.FirstTops.{IsDistinct}
use Rattle.name_rules.proofs.ApartNames.{function_is}
use Rattle.name_rules.proofs.FirstPlaces.{first_place, place_found}
use Rattle.name_rules.proofs.FoundNames.{found_at}

module _ (p : Program) (name : List ℕ) (g : Func) (apart : IsDistinct (top_names p))
    (named : function_named p name ≡ Some g) where
  first_top : find (λ t. bytes_eq (top_name t) name) p.tops ≡ Some (function g)
  first_top = by (find (λ t. bytes_eq (top_name t) name) p.tops) refl
    where
      by : (o : Option Top) → o ≡ find (λ t. bytes_eq (top_name t) name) p.tops → o ≡ Some (function g)
      by None e = let none = function_is p name None apart e in absurd (cc (none, named))
      by (Some (table c)) e = let none = function_is p name (Some (table c)) apart e in absurd (cc (none, named))
      by (Some (function h)) e =
          let some = function_is p name (Some (function h)) apart e in
          let same : h ≡ g = cc (some, named) in
          ap (λ h. Some (function h)) same

  pub top_named : slice_get p.tops (position_of p name) ≡ Some (function g)
  top_named =
      by (position (bytes_eq name) (top_names p))
      (λ k. (first_place (top_names p) name k, place_found (top_names p) name k))
    where
      by : (o : Option ℕ)
          → ((k : ℕ) → (o ≡ Some k) ↔ IsFirstPlace (top_names p) name k)
          → slice_get p.tops (unwrap_or o 0) ≡ Some (function g)
      by None at =
          let none : None ≡ find (λ t. bytes_eq (top_name t) name) p.tops = found_at top_name p.tops name None at in
          absurd (cc (none, first_top))
      by (Some k) at = found_at top_name p.tops name (Some k) at ∙ first_top
