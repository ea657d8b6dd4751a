-- Groups one behind the other.
use Rattle.std.proofs.Common.{◌≡◌, ◌≤◌, ◌∙◌, ℕ, zero, suc, List, [], ◌∷◌, ◌++◌, map, length, drop, refl, sym, ap}
use Rattle.std.proofs.Common.{append_assoc, append-nil}
use Rattle.std.specs.List.{range_with_len}
use Rattle.lists.proofs.Places.{drop_end}
use Rattle.silage_syntax.specs.Manifests.{Indices}
use Rattle.type_rules.specs.TypedTree as typed
use Rattle.type_rules.specs.declared.typed.TypedItem.{TypedItem}
use Rattle.loop_expand.specs.Private.Groups.{Group, plain_items, loops_groups, groups_in}
use Rattle.loop_expand.specs.declared.columns.Turns.{Turns}
use Rattle.loop_expand.specs.Private.Turns.{indices_at, view_turns}

pub loops_end : (turns : List Indices) (items : List TypedItem) (i : ℕ) (old whole : List Group)
    → length items ≤ i
    → old ++ loops_groups turns (typed.view_items (drop i items)) ≡ whole
    → old ≡ whole
loops_end turns items i old whole past so_far =
    sym (append-nil old)
    ∙ sym (ap (λ (ys : List TypedItem). old ++ loops_groups turns (typed.view_items ys)) (drop_end items i past))
    ∙ so_far

pub some_turns : (turns : Turns)
    → (turns.count ≡ 0 → ⊥)
    → (t : Indices) × (rest : List Indices) × (view_turns turns ≡ t ∷ rest)
some_turns turns some = by turns.count some
  where
    by : (n : ℕ)
        → (n ≡ 0 → ⊥)
        → (t : Indices) × (rest : List Indices) × (map (indices_at turns) (range_with_len 0 n) ≡ t ∷ rest)
    by zero none = absurd (none refl)
    by (suc n) none = (indices_at turns 0, map (indices_at turns) (range_with_len 1 n), refl)

-- where there are turns, the group of the items is behind those of their loops
pub group_last :
    (turns : List Indices) (t : Indices) (rest : List Indices) (items : typed.TypedItems) (old mid new : List Group)
    → turns ≡ t ∷ rest
    → mid ≡ old ++ loops_groups turns items
    → new ≡ mid ++ record { turns = turns; items = plain_items items } ∷ []
    → new ≡ old ++ groups_in turns items
group_last turns t rest items old mid new some loops own =
    own ∙ ap (λ l. l ++ record { turns = turns; items = plain_items items } ∷ []) loops
    ∙ append_assoc old (loops_groups turns items) (record { turns = turns; items = plain_items items } ∷ [])
    ∙ ap (λ l. old ++ l) (last turns some)
  where
    last : (ts : List Indices)
        → ts ≡ t ∷ rest
        → loops_groups ts items ++ record { turns = ts; items = plain_items items } ∷ [] ≡ groups_in ts items
    last [] e = absurd (cc e)
    last (u ∷ us) e = refl
