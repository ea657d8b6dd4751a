-- The cycle before which a store ends, by the loads of its word.
use Rattle.std.proofs.Common.{◌≡◌, refl, sym, subst, arith, ℕ, ◌+◌, ◌*◌, ◌<◌, ◌≤◌, ◌↔◌, ⊎_elim, List, length, inr}
use Rattle.std.proofs.lemmas.Bool.{cases_lt}
use Rattle.fix_word.specs.declared.operation.Op.TheVariants as op
use Rattle.datapath.specs.declared.types.Datapath.{Datapath}
use Rattle.plan_core.specs.declared.schedule.Assigned.{Assigned}
use Rattle.plan_core.specs.declared.schedule.Slot.{Slot}
use Rattle.list_schedule.specs.Placing.{slot_at}
use Rattle.overlap_plan.specs.Lines.{op_at, IsOfLine, IsBehind, AreCells, LoadsBehind}
use Rattle.overlap_plan.specs.Staged.{IsEndUpTo, EndsBeforeLoads}

module _ (d : Datapath) (a : Assigned) (slots : List Slot) (v latest : ℕ) where
  -- what is asked of an end by the loads before node x
  abbrev IsBeforeThose : (x e : ℕ) → Type 0
  IsBeforeThose x e =
      (n ago : ℕ) → n < x → LoadsBehind a.lowered.nodes v n ago → e ≤ (slot_at slots n).cycle + ago * d.period

  abbrev IsEnd : (end : ℕ) → Type 0
  IsEnd end =
      (e : ℕ) → (e ≤ end)
      ↔ ((e ≤ latest)
      × ((n ago : ℕ) → LoadsBehind a.lowered.nodes v n ago → e ≤ (slot_at slots n).cycle + ago * d.period))

  pub begins : (x : ℕ) → x ≡ v + 1 → IsEndUpTo d a slots v latest x latest
  begins x at = record {
    between = λ n after before. absurd (omega (arith, at, after, before));
    to = λ e upto. (
      upto,
      λ n ago less loads. absurd (let behind = loads.behind.behind in omega (arith, at, less, behind)),
    );
    of = λ e upto _. upto;
  }

  module _ (x end : ℕ) (is : IsEndUpTo d a slots v latest x end) where
    -- no load of the word stands from node x on
    settled : ((n ago : ℕ) → LoadsBehind a.lowered.nodes v n ago → n < x) → IsEnd end
    settled none e = (
      λ upto. let known = is.to e upto in (known.0, λ n ago loads. known.1 n ago (none n ago loads) loads),
      λ known. is.of e known.0 (λ n ago less loads. known.1 n ago loads),
    )

    pub ends_at_other : v < x → (IsOfLine (op_at a.lowered.nodes x) → ⊥) → IsEnd end
    ends_at_other behind other =
        settled (λ n ago loads.
        ⊎_elim (λ (less : n < x). less)
        (λ (more : x ≤ n).
        absurd (⊎_elim
        (λ (before : x < n). other (loads.behind.between x behind before))
        (λ (upto : n ≤ x).
        let same : n ≡ x = omega (arith, more, upto) in
        other (inr (subst (λ (m : ℕ). op_at a.lowered.nodes m ≡ op.Load) same loads.behind.load)))
        (cases_lt x n)))
        (cases_lt n x))

    pub ends_at_all : length a.lowered.nodes ≤ x → IsEnd end
    ends_at_all all = settled (λ n ago loads. let there = loads.behind.there in omega (arith, all, there))

    module _ (line : IsOfLine (op_at a.lowered.nodes x)) where
      between_next : (n : ℕ) → v < n → n < x + 1 → IsOfLine (op_at a.lowered.nodes n)
      between_next n after before =
          ⊎_elim (λ (less : n < x). is.between n after less)
          (λ (more : x ≤ n).
          let same : x ≡ n = omega (arith, more, before) in
          subst (λ (m : ℕ). IsOfLine (op_at a.lowered.nodes m)) same line)
          (cases_lt n x)

      -- what holds of the loads before node x and of node x holds of those before the next one
      before_next : (e : ℕ)
          → IsBeforeThose x e
          → ((ago : ℕ) → LoadsBehind a.lowered.nodes v x ago → e ≤ (slot_at slots x).cycle + ago * d.period)
          → IsBeforeThose (x + 1) e
      before_next e those this n ago less loads =
          ⊎_elim (λ (before : n < x). those n ago before loads)
          (λ (more : x ≤ n).
          let same : n ≡ x = omega (arith, more, less) in
          let here : LoadsBehind a.lowered.nodes v x ago =
          subst (λ (m : ℕ). LoadsBehind a.lowered.nodes v m ago) same loads in
          subst (λ (m : ℕ). e ≤ (slot_at slots m).cycle + ago * d.period) (sym same) (this ago here))
          (cases_lt n x)

      before_this : (e : ℕ) → IsBeforeThose (x + 1) e → IsBeforeThose x e
      before_this e those n ago less loads = those n ago (omega (arith, less)) loads

      pub goes_on_after_address : (op_at a.lowered.nodes x ≡ op.Load → ⊥) → IsEndUpTo d a slots v latest (x + 1) end
      goes_on_after_address not = record {
        between = between_next;
        to = λ e upto.
            let known = is.to e upto in
            (known.0, before_next e known.1 (λ ago loads. absurd (not loads.behind.load)));
        of = λ e upto those. is.of e upto (before_this e those);
      }

      module _ (cells : (ago : ℕ) × AreCells a.lowered.nodes v x ago) (behind : IsBehind a.lowered.nodes v x) (read : ℕ)
          (is_read : (ago : ℕ)
          → AreCells a.lowered.nodes v x ago
          → read ≡ (slot_at slots x).cycle + ago * d.period) where
        pub goes_on_after_load : (next : ℕ)
            → ((e : ℕ) → (e ≤ next) ↔ ((e ≤ end) × (e ≤ read)))
            → IsEndUpTo d a slots v latest (x + 1) next
        goes_on_after_load next least = record {
          between = between_next;
          to = λ e upto.
              let both = (least e).0 upto in
              let known = is.to e both.0 in (
                known.0,
                before_next e known.1
                    (λ ago loads.
                    let at = is_read ago loads.cells in let upto_read = both.1 in omega (arith, at, upto_read)),
              );
          of = λ e upto those.
              let here = those x cells.0 (omega arith) (record { behind = behind; cells = cells.1 }) in
              let at = is_read cells.0 cells.1 in
              (least e).1 (is.of e upto (before_this e those), omega (arith, here, at));
        }
