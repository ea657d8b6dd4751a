-- What is known where reading found no fault.
use Rattle.std.proofs.Common.{◌≡◌, Bool, true, false, ℕ, List, Option, Some, None, option_map, Result, Ok, Err}
use Rattle.std.proofs.Common.{if◌then◌else◌, refl, ap}
use Rattle.std.specs.Prelude.{MatchOption}
use Rattle.toml.specs.Data.{Data, Members, get_member}
use Rattle.toml_rows.specs.declared.misfit.Misfit.{Misfit}
use Rattle.toml_rows.specs.Values.{Judge}
use Rattle.toml_rows.specs.Rows.{Row, keys_among, HasOnly, IsValue}
use Rattle.toml_rows.specs.Reading.{TableFault, ◌>>=◌, judged, absent, found, key, only}

pub same_Ok : {F A : Type 0} (x y : A) → ◌≡◌ {A = Result A F} (Ok x) (Ok y) → x ≡ y
same_Ok x y h = cc

pub bind_ok : {F A B : Type 0} (r : Result A F) (f : A → Result B F) (y : B)
    → (r >>= f) ≡ Ok y
    → (x : A) × (r ≡ Ok x) × (f x ≡ Ok y)
bind_ok (Ok x) f y h = (x, refl, h)
bind_ok (Err e) f y h = absurd (cc)

module _ {F : Type 0} (at : TableFault → F) where
  absent_ok : {A : Type 0} (default : Option A) (x : A) → absent at default ≡ Ok x → default ≡ Some x
  absent_ok (Some y) x h = ap Some (same_Ok y x h)
  absent_ok None x h = absurd (cc)

  judged_ok : {A : Type 0} (r : Result A Misfit) (x : A) → judged at r ≡ Ok x → r ≡ Ok x
  judged_ok (Ok y) x h = ap Ok (same_Ok y x h)
  judged_ok (Err e) x h = absurd (cc)

  value_found : {A : Type 0} (default : Option A) (judge : Judge A) (o : Option Data) (x : A)
      → found at default (option_map judge o) ≡ Ok x
      → MatchOption o (default ≡ Some x) (λ d. judge d ≡ Ok x)
  value_found default judge None x h = absent_ok default x h
  value_found default judge (Some d) x h = judged_ok (judge d) x h

  pub value_of_key : {A : Type 0} (t : Members) (r : Row A) (x : A) → key at t r ≡ Ok x → IsValue r t x
  unfolding key
  value_of_key t r x h = value_found r.default r.value (get_member r.key t) x h

  if_ok : (b : Bool) (e : F) (u : Unit {0})
      → ◌≡◌ {A = Result (Unit {0}) F} (if b then Ok tt else Err e) (Ok u)
      → b ≡ true
  if_ok true e u h = refl
  if_ok false e u h = absurd (cc)

  pub has_only : (t : Members) (names : List (List ℕ)) (u : Unit {0}) → only at t names ≡ Ok u → HasOnly names t
  unfolding only
  has_only t names u h = if_ok (keys_among names t) _ u h
