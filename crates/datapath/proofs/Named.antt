-- Among names that differ, a name is found at one place, wherever the search begins.
use Rattle.std.proofs.Common.{◌≡◌, ℕ, ◌+◌, ◌-◌, ◌<◌, true, false, List, length, length-drop, map, take, drop, get_or}
use Rattle.std.proofs.Common.{Some, inl, inr, refl, sym, ◌∙◌, arith}
use Rattle.std.proofs.Math.Seq.{take-length}
use Rattle.std.specs.Str.{bytes_eq}
use Rattle.std.proofs.lemmas.Bool.{cases_Bool}
use Rattle.std.proofs.lemmas.Bool.Decides.{nat_tests}
use Rattle.std.proofs.lemmas.List.{get_or-drop, get_or-map, length-map}
use Rattle.std.proofs.lemmas.List.Quantifiers.{position-Some}
use Rattle.std.proofs.lemmas.List.Sums.{position_or_len_is}
use Rattle.std.proofs.lemmas.Slice.Eq.{bytes_eq-Decides}
use Rattle.datapath.specs.declared.types.Unit as of_unit
use Rattle.datapath.specs.Names.{unit_named}
use Rattle.datapath.specs.Allowed.{IsDistinct}
use Rattle.datapath.proofs.AllowedUnits.{no_unit}
use Rattle.datapath.proofs.Fresh.{name_of}

-- texts that differ at a place
pub last_differs : (xs ys : List ℕ) (k : ℕ) → (get_or xs k 0 ≡ get_or ys k 0 → ⊥) → bytes_eq xs ys ≡ false
last_differs xs ys k other =
    elim (cases_Bool (bytes_eq xs ys)) [
      | inl same ↦ let is = (bytes_eq-Decides xs ys).0 same in absurd (other (rw is refl))
      | inr new ↦ new
    ]

module _ (units : List of_unit.Unit) (name : List ℕ) (apart : IsDistinct (map name_of units)) where
  -- no earlier unit has the name
  pub none_before : (i k : ℕ)
      → k < i
      → i < length units
      → bytes_eq name (name_of (get_or units i no_unit)) ≡ true
      → bytes_eq name (name_of (get_or units k no_unit)) ≡ false
  none_before i k lt within here =
      let other = apart k i (name_of no_unit) lt (rw (length-map units name_of) within) in
      let at : (j : ℕ) → j < length units → get_or (map name_of units) j (name_of no_unit) ≡
      name_of (get_or units j no_unit) = λ j below. get_or-map name_of units j no_unit (name_of no_unit) below in
      let is = (bytes_eq-Decides name (name_of (get_or units i no_unit))).0 here in
      elim (cases_Bool (bytes_eq name (name_of (get_or units k no_unit)))) [
        | inl same ↦ absurd (other (at k (omega arith) ∙ sym
            ((bytes_eq-Decides name (name_of (get_or units k no_unit))).0 same) ∙ is ∙ sym (at i within)))
        | inr new ↦ new
      ]

  pub named_at : (i : ℕ)
      → i < length units
      → bytes_eq name (name_of (get_or units i no_unit)) ≡ true
      → unit_named units name ≡ Some i
  named_at i within here =
      let first = position_or_len_is (λ unit. bytes_eq name (name_of unit)) units i no_unit (omega arith)
      (λ k lt. none_before i k lt within here) (λ _. here) in
      rw first (grind (arith, nat_tests))

  -- a search from a place on, `&units[near..]`, finds the unit
  pub named_from : (near steps : ℕ)
      → Some steps ≡ unit_named (take (length units - near) (drop near units)) name
      → Some (near + steps) ≡ unit_named units name
  named_from near steps found =
      let count : length units - near ≡ length (drop near units) = sym (length-drop near units) in
      let rest : take (length units - near) (drop near units) ≡ drop near units = rw count
      (take-length (drop near units)) in
      let first : unit_named (drop near units) name ≡ Some steps = sym (rw rest at found) in
      let (within, here, before) = position-Some (λ unit. bytes_eq name (name_of unit)) (drop near units) steps no_unit
      first in
      sym (named_at (near + steps) (omega arith) (rw (← get_or-drop near units steps no_unit) here))
