-- Going over tables meets the first rule that is broken.
use Rattle.std.proofs.Common.{◌≡◌, ℕ, ◌+◌, Bool, true, false, List, [], ◌∷◌, ◌++◌, length, Option, Some, None}
use Rattle.std.proofs.Common.{if◌then◌else◌, Result, Ok, Err, refl, ap, sym, ◌∙◌, append_assoc}
use Rattle.std.specs.Prelude.{unwrap_or}
use Rattle.std.proofs.lemmas.List.{length_push}
use Rattle.toml.specs.Data.{Members}
use Rattle.fault_order.specs.Rules.{Rules, parts, unless, each_from}
use Rattle.fault_order.specs.Private.FirstMet.{first, first_in, ◌>>◌}
use Rattle.toml_rows.specs.declared.misfit.Misfit.{Misfit}
use Rattle.toml_rows.specs.declared.misfit.Misfit.TheVariants as misfit
use Rattle.toml_rows.specs.Rows.{Row, keys_among, judged_at, value_of, value_or}
use Rattle.toml_rows.specs.Reading.{TableFault, ◌>>=◌, found, key, only, in_turn}
use Rattle.toml_rows.specs.RowRules.{judged_rules, key_rules, only_rules}

module _ {F : Type 0} where
  -- what is read, but for its value
  abbrev pub fault_of : {A : Type 0} → Result A F → Result (Unit {0}) F
  fault_of (Ok x) = Ok tt
  fault_of (Err e) = Err e

  -- a part is read, and then the rest by its value
  pub reads_first : {A B : Type 0} (r : Result A F) (f : A → Result B F) (here rest : Result (Unit {0}) F)
      → here ≡ fault_of r
      → ((x : A) → r ≡ Ok x → rest ≡ fault_of (f x))
      → (here >> rest) ≡ fault_of (r >>= f)
  reads_first (Ok x) f here rest is goes = rw is (goes x refl)
  reads_first (Err e) f here rest is goes = rw is refl

  unless_first : (holds : Bool) (e : F)
      → first (unless holds e) ≡ fault_of {A = Unit {0}} (if holds then Ok tt else Err e)
  unless_first true e = refl
  unless_first false e = refl

module _ {F : Type 0} (at : TableFault → F) where
  judged_first : {A : Type 0} (default : Option A) (judged : Option (Result A Misfit))
      → first (judged_rules at default judged) ≡ fault_of (found at default judged)
  judged_first (Some x) None = refl
  judged_first None None = refl
  judged_first default (Some (Ok x)) = refl
  judged_first default (Some (Err misfit.WrongKind)) = refl
  judged_first default (Some (Err misfit.Range)) = refl

  pub key_first : {A : Type 0} (t : Members) (r : Row A) → first (key_rules at t r) ≡ fault_of (key at t r)
  unfolding key
  key_first t r = judged_first r.default (judged_at r t)

  judged_value : {A : Type 0} (other : A) (default : Option A) (judged : Option (Result A Misfit)) (x : A)
      → found at default judged ≡ Ok x
      → unwrap_or (value_of default judged) other ≡ x
  judged_value other (Some y) None x h = cc
  judged_value other None None x h = absurd (cc)
  judged_value other default (Some (Ok y)) x h = cc
  judged_value other default (Some (Err misfit.WrongKind)) x h = absurd (cc)
  judged_value other default (Some (Err misfit.Range)) x h = absurd (cc)

  -- what is read is the value that the rules speak of
  pub value_is : {A : Type 0} (other : A) (t : Members) (r : Row A) (x : A) → key at t r ≡ Ok x → value_or other r t ≡ x
  unfolding key
  value_is other t r x h = judged_value other r.default (judged_at r t) x h

  pub only_first : (t : Members) (names : List (List ℕ)) → first (only_rules at t names) ≡ fault_of (only at t names)
  unfolding only
  only_first t names = unless_first (keys_among names t) _

-- Each in turn. What was read before is tied to what it was read from.
module _ {F A B : Type 0} (one : List B → A → Result B F) (rules : ℕ → A → Rules F) (Tied : List A → List B → Type 0)
    (all : List A)
    (each : (before later : List A) (ys : List B) (x : A) → all ≡ before ++ x ∷ later → Tied before ys
    → first (rules (length before) x) ≡ fault_of (one ys x))
    (more : (before : List A) (ys : List B) (x : A) (y : B) → Tied before ys → one ys x ≡ Ok y
    → Tied (before ++ x ∷ []) (ys ++ y ∷ [])) where
  turns_from : (before xs : List A) (ys : List B)
      → all ≡ before ++ xs
      → Tied before ys
      → first_in (each_from rules (length before) xs) ≡ fault_of (in_turn one ys xs)
  unfolding in_turn
  turns_from before [] ys is tied = refl
  turns_from before (x ∷ xs) ys is tied =
      reads_first (one ys x) (λ y. in_turn one (ys ++ y ∷ []) xs) (first (rules (length before) x))
      (first_in (each_from rules (length before + 1) xs)) (each before xs ys x is tied)
      (λ y e.
      let step = turns_from (before ++ x ∷ []) xs (ys ++ y ∷ []) (is ∙ sym (append_assoc before (x ∷ []) xs))
      (more before ys x y tied e) in
      let count : length (before ++ x ∷ []) ≡ length before + 1 = length_push before x in
      sym (ap (λ (k : ℕ). first_in (each_from rules k xs)) count) ∙ step)

  pub turns_first : Tied [] [] → first (parts (each_from rules 0 all)) ≡ fault_of (in_turn one [] all)
  turns_first none_tied = turns_from [] all [] refl none_tied
