-- Groups are taken away from the end, down to one that begins at the position or before it.
use Rattle.std.proofs.Common.{◌≡◌, ℕ, ◌-◌, ◌<◌, ◌≤◌, List, [], ◌∷◌, ◌++◌, length, get_or, take, sym, ap, subst, ◌∙◌}
use Rattle.std.proofs.Common.{inl, inr, arith}
use Rattle.std.specs.Prelude.{Contains}
use Rattle.std.specs.List.{AllPairs}
use Rattle.std.proofs.lemmas.Bool.{cases_lt}
use Rattle.std.proofs.lemmas.List.{length_push}
use Rattle.std.proofs.lemmas.Option.{slice_get-get_or}
use Rattle.std.proofs.lemmas.List.Elements.{Contains-push_cases, Contains-append_left}
use Rattle.digraph.specs.Private.Walk.{IsBefore, IsLast, LastBeginsAfter, KeepsGroups}
use Rattle.digraph.specs.declared.walk.Group.{Group}
use Rattle.lists.proofs.Places.{last_split, front_pairs}
use Rattle.digraph.proofs.WalkSteps.{before_last}

-- some groups at the end are taken away, all of which begin behind the position
pub record Joins (groups : List Group) (position : ℕ) (groups' : List Group) : Type 0 where
  pub kept : (group : Group) → Contains groups group → group.active ≤ position → Contains groups' group
  pub only : (group : Group) → Contains groups' group → Contains groups group
  pub rising : AllPairs IsBefore groups'
  pub fewer : length groups' ≤ length groups

pub none_taken : (groups : List Group) (position : ℕ) → AllPairs IsBefore groups → Joins groups position groups
none_taken groups position rising =
    record { kept = λ group has _. has; only = λ group has. has; rising = rising; fewer = omega arith }

pub one_taken : (groups now rest : List Group) (position n : ℕ)
    → LastBeginsAfter now position
    → n ≡ length now
    → rest ≡ take (n - 1) now
    → Joins groups position now
    → Joins groups position rest × (length rest < length now)
one_taken groups now rest position n b size is j =
    let split : now ≡ rest ++ b.last ∷ [] =
    last_split now b.last b.is_last ∙ ap (λ gs. gs ++ b.last ∷ []) (sym (is ∙ ap (λ k. take (k - 1) now) size)) in
    let one = ap length split in
    let more = length_push rest b.last in (
      record {
        kept = λ group has begun.
            elim (Contains-push_cases rest b.last group
            (subst (λ (gs : List Group). Contains gs group) split (j.kept group has begun))) [
              | inl there ↦ there
              | inr same ↦ absurd (let a = ap (λ (g : Group). g.active) same in let behind = b.behind in omega arith)
            ];
        only = λ group has.
            j.only group
            (subst (λ (gs : List Group). Contains gs group) (sym split)
            (Contains-append_left rest (b.last ∷ []) group has));
        rising = front_pairs IsBefore rest b.last (subst (λ (gs : List Group). AllPairs IsBefore gs) split j.rising);
        fewer = let f = j.fewer in omega arith;
      },
      omega arith,
    )

last_is : (now : List Group) (group : Group) → Contains now group → IsLast now (get_or now (length now - 1) group)
last_is now group has = slice_get-get_or now (length now - 1) group (let within = has.1 in omega arith)

pub all_taken : (groups now : List Group) (position : ℕ)
    → ¬ LastBeginsAfter now position
    → Joins groups position now
    → KeepsGroups groups position now
all_taken groups now position none j = record {
  kept = j.kept;
  only = λ group has. (let last = get_or now (length now - 1) group in let is = last_is now group has in (
    j.only group has,
    elim (cases_lt position last.active) [
      | inl behind ↦ absurd (none (record { last = last; is_last = is; behind = behind }))
      | inr begun ↦ (let before = (before_last now last group j.rising is has).active in omega arith)
    ],
  ));
  rising = j.rising;
  fewer = j.fewer;
}
