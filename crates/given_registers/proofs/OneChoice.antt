-- Lifetimes have one choice of registers around those that are given at most, and so have the first of them.
use Rattle.std.proofs.Common.{◌≡◌, ◌∙◌, refl, sym, subst, ap, arith, ℕ, zero, suc, ◌<◌, inl, inr, ⊎_elim, List, []}
use Rattle.std.proofs.Common.{length, slice_index_or, ext_get_or}
use Rattle.std.specs.List.{AllPairs}
use Rattle.datapath.specs.declared.types.Datapath.{Datapath}
use Rattle.plan_core.specs.Arcs.{no_arc, arc_of, IsArcFor}
use Rattle.plan_core.specs.FirstFit.{register_of, IsListedBefore}
use Rattle.plan_core.specs.declared.registers.Arc.{Arc}
use Rattle.plan_core.proofs.OneFit.{listed_trans}
use Rattle.plan_core.proofs.OneHeight.{neither_less}
use Rattle.reg_alloc.specs.Allottable.{AreDifferent}
use Rattle.given_registers.specs.Around.{given_at, IsFor, IsGivenAt, CanBeHad, IsFree, HasFirst, HasRegister}
use Rattle.given_registers.specs.Around.{AreRegisters}
use Rattle.given_registers.specs.Private.Allotting.{HaveRegistersBefore}
use Rattle.given_registers.specs.declared.given.GivenRegister.{GivenRegister}

module _ (arcs : List Arc) (once : AllPairs AreDifferent arcs) where
  different : (g : GivenRegister) (k l : ℕ)
      → k < l
      → l < length arcs
      → IsArcFor g.node g.port (arc_of arcs k)
      → IsArcFor g.node g.port (arc_of arcs l)
      → ⊥
  different g k l less there x y =
      once k l no_arc less there (record { node = y.node ∙ sym x.node; port_is = y.port_is ∙ sym x.port_is })

  -- a given register is for one copy
  pub one_arc : (g : GivenRegister) (k i l j : ℕ) → IsFor arcs g k i → IsFor arcs g l j → k ≡ l
  one_arc g k i l j x y =
      neither_less k l (λ less. different g k l less y.there x.its.arc_is y.its.arc_is)
      (λ less. different g l k less x.there y.its.arc_is x.its.arc_is)

  pub one_copy : (g : GivenRegister) (k i l j : ℕ) → IsFor arcs g k i → IsFor arcs g l j → i ≡ j
  one_copy g k i l j x y = sym x.its.copy_is ∙ y.its.copy_is

  -- what is for the copy of a given register is for that of the other
  pub moved : (g h : GivenRegister) (k i l j : ℕ)
      → IsFor arcs g k i
      → IsFor arcs g l j
      → IsFor arcs h k i
      → IsFor arcs h l j
  moved g h k i l j x y z =
      subst (λ (n : ℕ). IsFor arcs h n j) (one_arc g k i l j x y)
      (subst (λ (n : ℕ). IsFor arcs h k n) (one_copy g k i l j x y) z)

module _ (d : Datapath) (unroll : ℕ) (given : List GivenRegister) (arcs : List Arc)
    (once : AllPairs AreDifferent arcs) where
  module _ (can : CanBeHad d unroll given arcs (length given)) where
    second_not : (n m k i : ℕ) → m < n → IsGivenAt given arcs n k i → IsGivenAt given arcs m k i → ⊥
    second_not n m k i less x y =
        let h = can n x.number in
        h.2.once m less (moved arcs once (given_at given n) (given_at given m) k i h.0 h.1 x.its h.2.its y.its)

    -- one register is given for a copy
    pub one_given : (n m k i : ℕ) → IsGivenAt given arcs n k i → IsGivenAt given arcs m k i → n ≡ m
    one_given n m k i x y =
        neither_less n m (λ less. second_not m n k i less y x) (λ less. second_not n m k i less x y)

  -- the two choices agree on the copies before copy j of arc l
  abbrev pub Agree : List (List ℕ) → List (List ℕ) → (l j : ℕ) → Type 0
  Agree rs qs l j =
      (k i : ℕ) → i < (arc_of arcs k).copies → IsListedBefore k i l j → register_of rs k i ≡ register_of qs k i

  pub agree_back : (rs qs : List (List ℕ)) (l j : ℕ) → Agree rs qs l j → Agree qs rs l j
  agree_back rs qs l j agree k i copy before = sym (agree k i copy before)

  pub free_same : (rs qs : List (List ℕ)) (l j register : ℕ)
      → Agree rs qs l j
      → IsFree d unroll given arcs rs l j register
      → IsFree d unroll given arcs qs l j register
  free_same rs qs l j register agree free = record {
    from_given = free.from_given;
    from_before = λ k i before copy its. free.from_before k i before copy (agree k i copy before ∙ its);
  }

  pub has_same : (rs qs : List (List ℕ)) (l j : ℕ)
      → Agree rs qs l j
      → register_of rs l j ≡ register_of qs l j
      → HasRegister d unroll given arcs rs l j
      → HasRegister d unroll given arcs qs l j
  has_same rs qs l j agree same (inl has) = inl (has.0, has.1, sym same ∙ has.2)
  has_same rs qs l j agree same (inr has) =
      inr (record {
        ungiven = has.ungiven;
        free = subst (λ (register : ℕ). IsFree d unroll given arcs qs l j register) same
            (free_same rs qs l j (register_of rs l j) agree has.free);
        least = λ register less free.
            has.least register (omega (arith, less, same))
            (free_same qs rs l j register (agree_back rs qs l j agree) free);
        within = omega (arith, same, has.within);
      })

  module _ (can : CanBeHad d unroll given arcs (length given)) where
    register_same : (rs qs : List (List ℕ)) (l j : ℕ)
        → Agree rs qs l j
        → HasRegister d unroll given arcs rs l j
        → HasRegister d unroll given arcs qs l j
        → register_of rs l j ≡ register_of qs l j
    register_same rs qs l j agree (inl x) (inl y) =
        x.2 ∙ ap (λ (n : ℕ). (given_at given n).register) (one_given can x.0 y.0 l j x.1 y.1) ∙ sym y.2
    register_same rs qs l j agree (inl x) (inr y) = absurd (y.ungiven (x.0, x.1))
    register_same rs qs l j agree (inr x) (inl y) = absurd (x.ungiven (y.0, y.1))
    register_same rs qs l j agree (inr x) (inr y) =
        neither_less (register_of rs l j) (register_of qs l j)
        (λ less. y.least (register_of rs l j) less (free_same rs qs l j (register_of rs l j) agree x.free))
        (λ less. x.least (register_of qs l j) less
        (free_same qs rs l j (register_of qs l j) (agree_back rs qs l j agree) y.free))

    module _ (rs qs : List (List ℕ)) (m n : ℕ) (have_r : HaveRegistersBefore d unroll given arcs rs m n)
        (have_q : HaveRegistersBefore d unroll given arcs qs m n) where
      abbrev Before : (l j : ℕ) → Type 0
      Before l j = (j < (arc_of arcs l).copies) × IsListedBefore l j m n

      -- arc by arc, and in an arc copy by copy
      copies_same : (l : ℕ)
          → ((k i : ℕ) → k < l → Before k i → register_of rs k i ≡ register_of qs k i)
          → (bound j : ℕ)
          → j < bound
          → Before l j
          → register_of rs l j ≡ register_of qs l j
      copies_same l arcs_before zero j less here = absurd (omega (arith, less))
      copies_same l arcs_before (suc bound) j less here =
          register_same rs qs l j
          (agree_here (λ i low i_here. copies_same l arcs_before bound i (omega (arith, low, less)) i_here))
          (have_r l j here.1 here.0) (have_q l j here.1 here.0)
        where
          at_l : ((i : ℕ) → i < j → Before l i → register_of rs l i ≡ register_of qs l i)
              → (k i : ℕ)
              → k ≡ l
              → i < j
              → i < (arc_of arcs k).copies
              → register_of rs k i ≡ register_of qs k i
          at_l rest k i e low copy =
              subst (λ (x : ℕ). register_of rs x i ≡ register_of qs x i) (sym e)
              (rest i low (
                subst (λ (x : ℕ). i < (arc_of arcs x).copies) e copy,
                listed_trans l i l j m n (inr (refl, low)) here.1,
              ))

          agree_here : ((i : ℕ) → i < j → Before l i → register_of rs l i ≡ register_of qs l i) → Agree rs qs l j
          agree_here rest k i copy (inl h) = arcs_before k i h (copy, listed_trans k i l j m n (inl h) here.1)
          agree_here rest k i copy (inr h) = at_l rest k i h.0 h.1 copy

      arcs_same : (bound l j : ℕ) → l < bound → Before l j → register_of rs l j ≡ register_of qs l j
      arcs_same zero l j less here = absurd (omega (arith, less))
      arcs_same (suc bound) l j less here =
          copies_same l (λ k i low k_here. arcs_same bound k i (omega (arith, low, less)) k_here) (suc j) j
          (omega arith) here

      pub agree : Agree rs qs m n
      agree k i copy before = arcs_same (suc k) k i (omega arith) (copy, before)

    -- so have all of them
    pub one_choice : (rs qs : List (List ℕ))
        → AreRegisters d unroll given arcs rs
        → AreRegisters d unroll given arcs qs
        → rs ≡ qs
    one_choice rs qs x y =
        ext_get_or [] rs qs (x.count ∙ sym y.count) (λ k less. of_arc k (omega (arith, less, x.count)))
      where
        before : (zs : List (List ℕ))
            → AreRegisters d unroll given arcs zs
            → HaveRegistersBefore d unroll given arcs zs (length arcs) 0
        before zs z l j (inl less) copy = z.each l j less copy
        before zs z l j (inr here) copy = absurd (omega (arith, here.1))

        of_arc : (k : ℕ) → k < length arcs → slice_index_or rs k [] ≡ slice_index_or qs k []
        of_arc k there =
            ext_get_or 0 (slice_index_or rs k []) (slice_index_or qs k []) (x.copies k there ∙ sym (y.copies k there))
            (λ i less.
            agree rs qs (length arcs) 0 (before rs x) (before qs y) k i (omega (arith, less, x.copies k there))
            (inl there))
