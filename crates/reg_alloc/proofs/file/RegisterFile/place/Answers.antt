use Rattle.std.proofs.Common.{◌≡◌, ◌∙◌, inr, refl, sym, ap, subst, arith, ◌<◌, ◌++◌, ◌∷◌, [], ℕ, List, length}
use Rattle.std.proofs.Common.{slice_index_or, slice_set}
use Rattle.std.proofs.lemmas.List.{length_push}
use Rattle.reg_alloc.specs.Private.Files.{register_in, IsFirstFree, IsPlaced}
use Rattle.reg_alloc.specs.Private.Occupancies.{span_at}
use Rattle.reg_alloc.specs.declared.circle.Occupancy.{Occupancy}
use Rattle.reg_alloc.specs.declared.file.RegisterFile.{RegisterFile}
use Rattle.reg_alloc.proofs.Places.{others_pushed, new_as_none, others_same, joined_at}
use Rattle.reg_alloc.proofs.file.RegisterFile.place.Goals as goal
use Rattle.reg_alloc.proofs.file.RegisterFile.place.Goals.{then-number-len+in_ok-push, else-number-len}

pub returns-then-number-from-clause-fault : goal.returns-then-number-from-clause-fault
returns-then-number-from-clause-fault c =
    let first : IsFirstFree c.args.circle.period c.args.circle.samples c.args.self.now.registers.items
    c.of_copy-other.result c.first_free-number.result =
    subst (λ (xs : List Occupancy). IsFirstFree c.args.circle.period c.args.circle.samples xs c.of_copy-other.result
    c.first_free-number.result) c.as_slice.ensures.value c.first_free-number.ensures.first in
    inr (
      refl,
      record {
        other = c.of_copy-other.result;
        other_is = c.of_copy-other.ensures;
        none = λ q less. first.least q (omega (arith, less, c.if-number-from.true, c.from.ensures));
      },
    )

pub returns-clause-placed : goal.returns-clause-placed
returns-clause-placed c =
    elim c.if-number-len.branch [
      | then-number-len+in_ok-push w ↦
          let at : q ≡ length old = omega (arith, w.if-number-len.true, c.len.ensures) in
          let pushed = w.in_ok-push.ensures.items in
          placed (old ++ w.none.result ∷ [])
          (ap (λ (f : RegisterFile). f.registers.items) w.self-is ∙ pushed)
          (let more = length_push old w.none.result in omega (arith, at, more))
          (λ p differ. others_pushed old w.none.result p (λ e. differ (e ∙ sym at)))
          (new_as_none old w.none.result q at w.none.ensures)
      | else-number-len w ↦
          placed old (ap (λ (f : RegisterFile). f.registers.items) w.self-is)
          (let upto = c.first_free-number.ensures.within in
          let slice = ap (λ (xs : List Occupancy). length xs) c.as_slice.ensures.value in
          omega (arith, upto, slice, w.if-number-len.false, c.len.ensures)) (λ p differ. refl) (λ n. refl)
    ]
  where
    old : List Occupancy
    old = c.args.self.now.registers.items

    q : ℕ
    q = c.first_free-number.result

    first : IsFirstFree c.args.circle.period c.args.circle.samples old c.of_copy-other.result q
    first =
        subst (λ (xs : List Occupancy). IsFirstFree c.args.circle.period c.args.circle.samples xs
        c.of_copy-other.result q) c.as_slice.ensures.value c.first_free-number.ensures.first

    placed : (now : List Occupancy)
        → c.if-number-len.self.registers.items ≡ now
        → q < length now
        → ((p : ℕ) → (p ≡ q → ⊥) → register_in now p ≡ register_in old p)
        → ((n : ℕ) → span_at (register_in now q) n ≡ span_at (register_in old q) n)
        → IsPlaced c.args.circle.period c.args.circle.samples c.args.arc c.args.copy c.args.size old q
        (slice_set c.if-number-len.self.registers.items q c.join.new.self)
    placed now is there kept kept_q =
        subst (λ (xs : List Occupancy). IsPlaced c.args.circle.period c.args.circle.samples c.args.arc c.args.copy
        c.args.size old q (slice_set xs q c.join.new.self)) (sym is)
        (record {
          other = c.of_copy-other.result;
          other_is = c.of_copy-other.ensures;
          first = first;
          within = omega (arith, c.if-number-from.false, c.from.ensures);
          same = others_same old now q c.index_mut.result.now c.of_copy-other.result c.join.new.self there item
              c.join.ensures kept;
          joined = joined_at old now q c.index_mut.result.now c.of_copy-other.result c.join.new.self there item
              c.join.ensures kept_q;
        })
      where
        item : c.index_mut.result.now ≡ slice_index_or now q c.index_mut.result.now
        item =
            subst (λ (xs : List Occupancy). c.index_mut.result.now ≡ slice_index_or xs q c.index_mut.result.now) is
            c.index_mut.ensures.value
