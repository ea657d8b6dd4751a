-- Going over a file meets the first rule that it breaks: the parts that all tables share.
use Rattle.std.proofs.Common.{◌≡◌, ℕ, ◌+◌, Bool, true, false, List, [], ◌∷◌, ◌++◌, length, Option, Some, None}
use Rattle.std.proofs.Common.{if◌then◌else◌, Result, Ok, Err, refl, ap, sym, ◌∙◌, subst, append_assoc}
use Rattle.std.specs.Prelude.{unwrap_or}
use Rattle.std.proofs.lemmas.List.{length_push}
use Rattle.toml.specs.Data.{Members}
use Rattle.fault_order.specs.Rules.{Rules, parts, unless, each_from}
use Rattle.fault_order.specs.Private.FirstMet.{first, first_in, ◌>>◌}
use Rattle.datapath.specs.declared.fault.Section.{Section}
use Rattle.datapath.specs.declared.fault.Misfit.{Misfit}
use Rattle.datapath.specs.declared.fault.Misfit.TheVariants as misfit
use Rattle.datapath.specs.declared.fault.PathFault.{PathFault}
use Rattle.datapath.specs.Table.{Row}
use Rattle.datapath.specs.Reading.{Read, ◌>>=◌, found, keys_among, key, only, where_has, in_turn}
use Rattle.datapath.specs.PathRules.{judged_at, value_of, value_or, judged_rules, key_rules, only_rules, rules_where}

-- what is read, but for its value
abbrev pub fault_of : {A : Type 0} → Read A → Read (Unit {0})
fault_of (Ok x) = Ok tt
fault_of (Err e) = Err e

-- a part is read, and then the rest by its value
pub reads_first : {A B : Type 0} (r : Read A) (f : A → Read B) (here rest : Read (Unit {0}))
    → here ≡ fault_of r
    → ((x : A) → r ≡ Ok x → rest ≡ fault_of (f x))
    → (here >> rest) ≡ fault_of (r >>= f)
reads_first (Ok x) f here rest is goes = rw is (goes x refl)
reads_first (Err e) f here rest is goes = rw is refl

-- the same where more comes after what these parts give
pub reads_then : {A B C : Type 0} (r : Read A) (f : A → Read B) (g : B → Read C) (here rest : Read (Unit {0}))
    → here ≡ fault_of r
    → ((x : A) → r ≡ Ok x → rest ≡ fault_of (f x >>= g))
    → (here >> rest) ≡ fault_of ((r >>= f) >>= g)
reads_then (Ok x) f g here rest is goes = rw is (goes x refl)
reads_then (Err e) f g here rest is goes = rw is refl

module _ {A : Type 0} (s : Section) where
  judged_first : (default : Option A) (judged : Option (Result A Misfit))
      → first (judged_rules s default judged) ≡ fault_of (found s default judged)
  judged_first (Some x) None = refl
  judged_first None None = refl
  judged_first default (Some (Ok x)) = refl
  judged_first default (Some (Err misfit.WrongKind)) = refl
  judged_first default (Some (Err misfit.Range)) = refl

  pub key_first : (t : Members) (r : Row A) → first (key_rules s t r) ≡ fault_of (key s t r)
  unfolding key
  key_first t r = judged_first r.default (judged_at r t)

  judged_value : (other : A) (default : Option A) (judged : Option (Result A Misfit)) (x : A)
      → found s default judged ≡ Ok x
      → unwrap_or (value_of default judged) other ≡ x
  judged_value other (Some y) None x h = cc
  judged_value other None None x h = absurd (cc)
  judged_value other default (Some (Ok y)) x h = cc
  judged_value other default (Some (Err misfit.WrongKind)) x h = absurd (cc)
  judged_value other default (Some (Err misfit.Range)) x h = absurd (cc)

  -- what is read is the value that the rules speak of
  pub value_is : (other : A) (t : Members) (r : Row A) (x : A) → key s t r ≡ Ok x → value_or other r t ≡ x
  unfolding key
  value_is other t r x h = judged_value other r.default (judged_at r t) x h

-- the same for a row that depends on a value before it
pub key_first_at : {A B : Type 0} (s : Section) (t : Members) (r : B → Row A) (x y : B)
    → x ≡ y
    → first (key_rules s t (r x)) ≡ fault_of (key s t (r y))
key_first_at s t r x y same =
    subst (λ z. first (key_rules s t (r x)) ≡ fault_of (key s t (r z))) same (key_first s t (r x))

unless_first : (holds : Bool) (e : PathFault)
    → first (unless holds e) ≡ fault_of {A = Unit {0}} (if holds then Ok tt else Err e)
unless_first true e = refl
unless_first false e = refl

pub only_first : (s : Section) (t : Members) (names : List (List ℕ))
    → first (only_rules s t names) ≡ fault_of (only s t names)
unfolding only
only_first s t names = unless_first (keys_among names t) _

where_same : {A : Type 0} (b : Bool) (rules : Rules PathFault) (row : Read A) (other : A)
    → first rules ≡ fault_of row
    → first (rules_where b rules) ≡ fault_of (where_has b row other)
where_same true rules row other here = here
where_same false rules row other here = refl

pub where_first : {A : Type 0} (b c : Bool) (rules : Rules PathFault) (row : Read A) (other : A)
    → b ≡ c
    → first rules ≡ fault_of row
    → first (rules_where b rules) ≡ fault_of (where_has c row other)
where_first b c rules row other same here =
    subst (λ (d : Bool). first (rules_where b rules) ≡ fault_of (where_has d row other)) same
    (where_same b rules row other here)

-- Each in turn. What was read before is tied to what it was read from.
module _ {A B : Type 0} (one : List B → A → Read B) (rules : ℕ → A → Rules PathFault) (Tied : List A → List B → Type 0)
    (all : List A)
    (each : (before later : List A) (ys : List B) (x : A) → all ≡ before ++ x ∷ later → Tied before ys
    → first (rules (length before) x) ≡ fault_of (one ys x))
    (more : (before : List A) (ys : List B) (x : A) (y : B) → Tied before ys → one ys x ≡ Ok y
    → Tied (before ++ x ∷ []) (ys ++ y ∷ [])) where
  turns_from : (before xs : List A) (ys : List B)
      → all ≡ before ++ xs
      → Tied before ys
      → first_in (each_from rules (length before) xs) ≡ fault_of (in_turn one ys xs)
  unfolding in_turn
  turns_from before [] ys is tied = refl
  turns_from before (x ∷ xs) ys is tied =
      reads_first (one ys x) (λ y. in_turn one (ys ++ y ∷ []) xs) (first (rules (length before) x))
      (first_in (each_from rules (length before + 1) xs)) (each before xs ys x is tied)
      (λ y e.
      let step = turns_from (before ++ x ∷ []) xs (ys ++ y ∷ []) (is ∙ sym (append_assoc before (x ∷ []) xs))
      (more before ys x y tied e) in
      let count : length (before ++ x ∷ []) ≡ length before + 1 = length_push before x in
      sym (ap (λ (k : ℕ). first_in (each_from rules k xs)) count) ∙ step)

  pub turns_first : Tied [] [] → first (parts (each_from rules 0 all)) ≡ fault_of (in_turn one [] all)
  turns_first none_tied = turns_from [] all [] refl none_tied
