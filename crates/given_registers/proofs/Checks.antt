-- Whether the copy of a given register can have it, beside those before it.
use Rattle.std.proofs.Common.{◌≡◌, ◌∙◌, ⊎_elim, sym, ap, subst, arith, ℕ, ◌+◌, ◌<◌, ◌≤◌, List, [], ◌∷◌, ◌++◌, length}
use Rattle.std.proofs.Common.{take, Option, Some, None, MatchOption, refl}
use Rattle.std.proofs.lemmas.Bool.{cases_eq, cases_lt}
use Rattle.std.proofs.lemmas.List.{get_or-take, length-take-le, get_or_append_left, get_or_push, length_push}
use Rattle.datapath.specs.declared.types.Datapath.{Datapath}
use Rattle.plan_core.specs.Hardware.{file_size}
use Rattle.plan_core.specs.Arcs.{arc_of}
use Rattle.plan_core.specs.declared.registers.Arc.{Arc}
use Rattle.reg_alloc.specs.Allottable.{AreAllottable}
use Rattle.given_registers.specs.Around.{none_given, given_at, IsFor, IsGiven, AreBeside, CanHave, CanBeHad}
use Rattle.given_registers.specs.Faults.{IsCause}
use Rattle.given_registers.specs.Private.Allotting.{none_allotted, allotted_at, IsGivenRegister, IsClear, IsMet}
use Rattle.given_registers.specs.Private.Allotting.{AreOfGiven}
use Rattle.given_registers.specs.declared.given.GivenRegister.{GivenRegister}
use Rattle.given_registers.specs.declared.circle.Allotted.{Allotted}
use Rattle.given_registers.specs.declared.fault.GivenCause.TheVariants.{NoCopy, NoRegister, Twice, Taken}
use Rattle.given_registers.proofs.OneChoice.{one_arc, one_copy}

module _ (d : Datapath) (unroll : ℕ) (given : List GivenRegister) (arcs : List Arc) (is : AreAllottable d arcs)
    (n : ℕ) (there : n < length given) (allotted : List Allotted) (count : length allotted ≡ n)
    (before : AreOfGiven given arcs allotted) (entry : GivenRegister) (entry_is : entry ≡ given_at given n) where
  pub no_copy : ((k i : ℕ) → IsFor arcs entry k i → ⊥) → IsCause d unroll given arcs n NoCopy
  no_copy none = λ k i x. none k i (subst (λ (g : GivenRegister). IsFor arcs g k i) (sym entry_is) x)

  module _ (k i : ℕ) (home : IsFor arcs entry k i) where
    its : IsFor arcs (given_at given n) k i
    its = subst (λ (g : GivenRegister). IsFor arcs g k i) entry_is home

    register_is : entry.register ≡ (given_at given n).register
    register_is = ap (λ (g : GivenRegister). g.register) entry_is

    pub no_register : file_size d (arc_of arcs k).port ≤ entry.register → IsCause d unroll given arcs n NoRegister
    no_register past = (k, i, record { its = its; past = omega (arith, past, register_is) })

    module _ (within : entry.register < file_size d (arc_of arcs k).port) where
      in_file : (given_at given n).register < file_size d (arc_of arcs k).port
      in_file = omega (arith, within, register_is)

      few : length (take n given) ≡ n
      few = length-take-le n given (omega (arith, there))

      early : (m : ℕ) → m < n → given_at (take n given) m ≡ given_at given m
      early m less = get_or-take n given m none_given less

      pub twice : (register : ℕ)
          → IsGivenRegister (take n given) arcs k i register
          → IsCause d unroll given arcs n Twice
      twice register x =
          let less : x.0 < n = omega (arith, x.1.number, few) in (
            k,
            i,
            x.0,
            record {
              its = its;
              within = in_file;
              before = less;
              same = subst (λ (g : GivenRegister). IsFor arcs g k i) (early x.0 less) x.1.its;
            },
          )

      module _ (single : IsGiven (take n given) arcs k i → ⊥) where
        once : (m : ℕ) → m < n → IsFor arcs (given_at given m) k i → ⊥
        once m less x =
            single (
              m,
              record {
                number = omega (arith, less, few);
                its = subst (λ (g : GivenRegister). IsFor arcs g k i) (sym (early m less)) x;
              },
            )

        pub taken : IsMet d.period unroll arcs allotted k i entry.register → IsCause d unroll given arcs n Taken
        taken met =
            let t : ℕ = met.t in
            let same : (allotted_at allotted t).register ≡ entry.register =
            ⊎_elim (λ (e : (allotted_at allotted t).register ≡ entry.register). e)
            (λ (differ : (allotted_at allotted t).register ≡ entry.register → ⊥).
            absurd (met.meet (λ e. absurd (differ e))))
            (cases_eq (allotted_at allotted t).register entry.register) in (
              k,
              i,
              t,
              (allotted_at allotted t).arc,
              (allotted_at allotted t).copy,
              record {
                its = its;
                within = in_file;
                once = once;
                before = omega (arith, met.there, count);
                other = before.each t met.there;
                same = sym (before.register t met.there) ∙ same ∙ register_is;
                meet = λ beside. met.meet (λ e. beside);
              },
            )

        pub can_have : IsClear d.period unroll arcs allotted k i entry.register → CanHave d unroll given arcs n k i
        can_have clear = record {
          its = its;
          within = in_file;
          once = once;
          apart = λ m l j less other same.
              let here : m < length allotted = omega (arith, less, count) in
              let one = before.each m here in
              let beside = clear m here (before.register m here ∙ same ∙ sym register_is) in
              subst (λ (x : ℕ). AreBeside d.period unroll arcs l x k i)
              (one_copy arcs is.once (given_at given m) (allotted_at allotted m).arc (allotted_at allotted m).copy l j
              one other)
              (subst (λ (x : ℕ). AreBeside d.period unroll arcs x (allotted_at allotted m).copy k i)
              (one_arc arcs is.once (given_at given m) (allotted_at allotted m).arc (allotted_at allotted m).copy l j
              one other) beside);
        }

-- One copy more of a given register.
module _ (given : List GivenRegister) (arcs : List Arc) (old : List Allotted) (one : Allotted) (n : ℕ)
    (count : length old ≡ n) where
  pub more_given : AreOfGiven given arcs old
      → IsFor arcs (given_at given n) one.arc one.copy
      → one.register ≡ (given_at given n).register
      → AreOfGiven given arcs (old ++ one ∷ [])
  more_given are its register = record {
    each = λ m less.
        ⊎_elim
        (λ (early : m < length old).
        subst (λ (x : Allotted). IsFor arcs (given_at given m) x.arc x.copy) (sym (old_is m early)) (are.each m early))
        (λ (late : length old ≤ m).
        let at : n ≡ m = omega (arith, less, late, count, length_push old one) in
        subst (λ (x : Allotted). IsFor arcs (given_at given m) x.arc x.copy) (sym (last_is m at))
        (subst (λ (p : ℕ). IsFor arcs (given_at given p) one.arc one.copy) at its))
        (cases_lt m (length old));
    register = λ m less.
        ⊎_elim
        (λ (early : m < length old). ap (λ (x : Allotted). x.register) (old_is m early) ∙ are.register m early)
        (λ (late : length old ≤ m).
        let at : n ≡ m = omega (arith, less, late, count, length_push old one) in
        ap (λ (x : Allotted). x.register) (last_is m at) ∙ register
        ∙ ap (λ (p : ℕ). (given_at given p).register) at)
        (cases_lt m (length old));
  }
    where
      old_is : (m : ℕ) → m < length old → allotted_at (old ++ one ∷ []) m ≡ allotted_at old m
      old_is m early = get_or_append_left old (one ∷ []) none_allotted m early

      last_is : (m : ℕ) → n ≡ m → allotted_at (old ++ one ∷ []) m ≡ one
      last_is m at = get_or_push old one none_allotted m (count ∙ at)

pub more_can : (d : Datapath) (unroll : ℕ) (given : List GivenRegister) (arcs : List Arc) (n k i : ℕ)
    → CanBeHad d unroll given arcs n
    → CanHave d unroll given arcs n k i
    → CanBeHad d unroll given arcs (n + 1)
more_can d unroll given arcs n k i before has m less =
    ⊎_elim (λ (early : m < n). before m early)
    (λ (late : n ≤ m).
    let at : n ≡ m = omega (arith, less, late) in
    (k, i, subst (λ (p : ℕ). CanHave d unroll given arcs p k i) at has))
    (cases_lt m n)

-- where the code finds none, none is given
pub none_given_for : (given : List GivenRegister) (arcs : List Arc) (k i : ℕ) (r : Option ℕ)
    → MatchOption r (IsGiven given arcs k i → ⊥) (IsGivenRegister given arcs k i)
    → ((x : ℕ) → r ≡ Some x → ⊥)
    → IsGiven given arcs k i
    → ⊥
none_given_for given arcs k i None none other = none
none_given_for given arcs k i (Some x) its other = absurd (other x refl)
