-- The lightest units of each kind, after one more node is bound.
use Rattle.std.proofs.Common.{◌≡◌, ◌≢◌, ◌↔◌, ◌⊎◌, ◌∙◌, sym, ap, subst, arith, inl, inr, ⊎_elim, ℕ, ◌<◌, ◌≤◌, List}
use Rattle.std.proofs.Common.{length, slice_index_or}
use Rattle.std.proofs.lemmas.Bool.{cases_eq}
use Rattle.std.proofs.lemmas.List.{get_or_read}
use Rattle.operations.specs.declared.units.Kind.{Kind}
use Rattle.datapath.specs.declared.types.Datapath.{Datapath}
use Rattle.datapath.specs.declared.types.Unit.{Unit as FunctionalUnit}
use Rattle.plan_core.specs.Hardware.{no_unit, IsOfKind}
use Rattle.unit_assign.specs.Private.UnitSets.{Has}
use Rattle.unit_assign.specs.Private.Kinds.{set_of, AreKinds}
use Rattle.unit_assign.specs.Private.Bindings.{load_in, IsOneMore, AreLightest}
use Rattle.unit_assign.specs.declared.kinds.Kinds.{Kinds}
use Rattle.bit_sets.specs.declared.set32.Set32.{Set32}

-- the unit, which is of kind k, gets one more node, and `both` are the other units of this kind that were lightest
module _ (d : Datapath) (old new : List ℕ) (unit : ℕ) (k : Kind) (is_kind : IsOfKind d k unit)
    (grows : IsOneMore old new unit) (lightest rest same both : Set32) (before : AreLightest d old lightest)
    (rest_is : (u : ℕ) → Has rest u ↔ (Has lightest u × (u ≢ unit))) (same_is : (u : ℕ) → Has same u ↔ IsOfKind d k u)
    (both_is : (u : ℕ) → Has both u ↔ (Has rest u × Has same u)) where
  one_kind : (i j : Kind) (u : ℕ) → IsOfKind d i u → IsOfKind d j u → i ≡ j
  one_kind i j u x y = sym x.kind ∙ y.kind

  grown : (w : ℕ) → load_in old w ≤ load_in new w
  grown w =
      ⊎_elim
      (λ (e : w ≡ unit).
      let a = ap (load_in old) e in
      let b = ap (load_in new) e in
      let c = grows.more in
      omega (arith, a, b, c))
      (λ (other : w ≢ unit). let a = grows.same w other in omega (arith, a))
      (cases_eq w unit)

  rest_fewest : (j : Kind) (u w : ℕ) → IsOfKind d j u → IsOfKind d j w → Has rest u → load_in new u ≤ load_in new w
  rest_fewest j u w x y h =
      let two = (rest_is u).0 h in
      let a = before.fewest j u w x y two.0 in
      let b = grows.same u two.1 in
      let c = grown w in
      omega (arith, a, b, c)

  rest_every : (j : Kind) (u w : ℕ)
      → IsOfKind d j u
      → IsOfKind d j w
      → Has rest u
      → load_in new w ≡ load_in new u
      → Has rest w
  rest_every j u w x y h same_load =
      let two = (rest_is u).0 h in
      let a = before.fewest j u w x y two.0 in
      let b = grows.same u two.1 in
      ⊎_elim
      (λ (e : w ≡ unit).
      let l = ap (load_in old) e in
      let m = ap (load_in new) e in
      let c = grows.more in
      absurd (omega (arith, a, b, c, l, m, same_load)))
      (λ (other : w ≢ unit).
      let c = grows.same w other in
      (rest_is w).1 (before.every j u w x y two.0 (omega (arith, b, c, same_load)), other))
      (cases_eq w unit)

  -- a kind has such a unit still, or it is that of the unit
  rest_some : (j : Kind) (u : ℕ) → IsOfKind d j u → ((w : ℕ) × IsOfKind d j w × Has rest w) ⊎ (j ≡ k)
  rest_some j u x =
      let some = before.some j u x in
      ⊎_elim
      (λ (e : some.0 ≡ unit). inr (one_kind j k some.0 some.1 (subst (IsOfKind d k) (sym e) is_kind)))
      (λ (other : some.0 ≢ unit). inl (some.0, some.1, (rest_is some.0).1 (some.2, other)))
      (cases_eq some.0 unit)

  pub lightest_kept : (w : ℕ) → Has both w → AreLightest d new rest
  lightest_kept w h =
      let two = (both_is w).0 h in
      record {
        fewest = rest_fewest;
        every = rest_every;
        some = λ j u x.
            ⊎_elim (λ (is : (n : ℕ) × IsOfKind d j n × Has rest n). is)
            (λ (e : j ≡ k). (w, subst (λ (i : Kind). IsOfKind d i w) (sym e) ((same_is w).0 two.1), two.0))
            (rest_some j u x);
      }

  module _ (none : (u : ℕ) → Has both u → ⊥) (load : ℕ) (load_is : load ≡ load_in new unit) (found all : Set32)
      (found_is : (u : ℕ) → Has found u ↔ (Has same u × (load_in new u ≡ load)))
      (all_is : (u : ℕ) → Has all u ↔ (Has rest u ⊎ Has found u)) where
    -- the unit was the only one
    was_lightest : Has lightest unit
    was_lightest =
        let some = before.some k unit is_kind in
        ⊎_elim (λ (e : some.0 ≡ unit). subst (Has lightest) e some.2)
        (λ (other : some.0 ≢ unit).
        absurd
        (none some.0
        ((both_is some.0).1 ((rest_is some.0).1 (some.2, other), (same_is some.0).1 some.1))))
        (cases_eq some.0 unit)

    heavier : (w : ℕ) → IsOfKind d k w → load_in new unit ≤ load_in new w
    heavier w y =
        ⊎_elim (λ (e : w ≡ unit). let a = ap (load_in new) e in omega (arith, a))
        (λ (other : w ≢ unit).
        let a = before.fewest k unit w is_kind y was_lightest in
        let b = grows.same w other in
        let c = grows.more in
        ⊎_elim
        (λ (e : load_in old w ≡ load_in old unit).
        absurd
        (none w
        ((both_is w).1
        ((rest_is w).1 (before.every k unit w is_kind y was_lightest e, other), (same_is w).1 y))))
        (λ (differ : load_in old w ≢ load_in old unit). omega (arith, a, b, c, differ))
        (cases_eq (load_in old w) (load_in old unit)))
        (cases_eq w unit)

    of_k : (j : Kind) (u w : ℕ) → IsOfKind d j u → IsOfKind d j w → Has found u → IsOfKind d k w
    of_k j u w x y h =
        subst (λ (i : Kind). IsOfKind d i w) (one_kind j k u x ((same_is u).0 ((found_is u).0 h).0)) y

    found_fewest : (j : Kind) (u w : ℕ) → IsOfKind d j u → IsOfKind d j w → Has found u
        → load_in new u ≤ load_in new w
    found_fewest j u w x y h =
        let a = ((found_is u).0 h).1 in
        let b = heavier w (of_k j u w x y h) in
        omega (arith, a, b, load_is)

    found_every : (j : Kind) (u w : ℕ)
        → IsOfKind d j u
        → IsOfKind d j w
        → Has found u
        → load_in new w ≡ load_in new u
        → Has found w
    found_every j u w x y h e =
        (found_is w).1 ((same_is w).1 (of_k j u w x y h), e ∙ ((found_is u).0 h).1)

    pub lightest_renewed : AreLightest d new all
    lightest_renewed = record {
      fewest = λ j u w x y h.
          ⊎_elim (λ (r : Has rest u). rest_fewest j u w x y r) (λ (f : Has found u). found_fewest j u w x y f)
          ((all_is u).0 h);
      every = λ j u w x y h e.
          (all_is w).1
          (⊎_elim (λ (r : Has rest u). inl (rest_every j u w x y r e))
          (λ (f : Has found u). inr (found_every j u w x y f e)) ((all_is u).0 h));
      some = λ j u x.
          ⊎_elim (λ (is : (n : ℕ) × IsOfKind d j n × Has rest n). (is.0, is.1, (all_is is.0).1 (inl is.2)))
          (λ (e : j ≡ k). (
            unit,
            subst (λ (i : Kind). IsOfKind d i unit) (sym e) is_kind,
            (all_is unit).1 (inr ((found_is unit).1 ((same_is unit).1 is_kind, sym load_is))),
          ))
          (rest_some j u x);
    }

-- the kind of the unit, as the code reads it
pub kind_read : (d : Datapath) (unit at : ℕ) (item : FunctionalUnit)
    → unit < length d.units
    → at ≡ unit
    → item ≡ slice_index_or d.units at item
    → IsOfKind d item.kind unit
kind_read d unit at item there at_is is = record {
  there = there;
  kind = ap (λ (u : FunctionalUnit). u.kind)
      (sym (get_or_read d.units unit item there (is ∙ ap (λ (i : ℕ). slice_index_or d.units i item) at_is) no_unit));
}

-- how many nodes it has
pub load_read : (loads : List ℕ) (unit at load : ℕ)
    → unit < length loads
    → at ≡ unit
    → load ≡ slice_index_or loads at load
    → load ≡ load_in loads unit
load_read loads unit at load there at_is is =
    get_or_read loads unit load there (is ∙ ap (λ (i : ℕ). slice_index_or loads i load) at_is) 0

pub same_kind : (d : Datapath) (kinds : Kinds)
    → AreKinds d kinds
    → (k : Kind) (set : Set32)
    → set ≡ set_of kinds k
    → (u : ℕ)
    → Has set u ↔ IsOfKind d k u
same_kind d kinds are k set is u = subst (λ (s : Set32). Has s u ↔ IsOfKind d k u) (sym is) (are.each k u)
