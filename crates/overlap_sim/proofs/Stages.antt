-- The latest stage of parts and of words, as their list grows.
use Rattle.std.proofs.Common.{◌≡◌, ℕ, ◌+◌, ◌<◌, ◌≤◌, ◌∙◌, subst, arith, List, length, take, get_or}
use Rattle.std.proofs.lemmas.List.{take_all}
use Rattle.std.proofs.lemmas.List.Elements.{All-more}
use Rattle.overlap_sim.specs.declared.guarded.GuardedWord.{GuardedWord}
use Rattle.overlap_sim.specs.declared.guarded.Staged.{Staged}
use Rattle.overlap_sim.specs.Private.Stages.{AreUpTo, IsUpTo, AllUpTo}

up_to_later : {A : Type 0} (xs : List (Staged A)) (last now : ℕ) → last ≤ now → AreUpTo last xs → AreUpTo now xs
up_to_later xs last now le up_to k d below = omega (arith, le, up_to k d below)

pub up_to_more : {A : Type 0} (xs : List (Staged A)) (i last now : ℕ) (item : Staged A)
    → i < length xs
    → item ≡ get_or xs i item
    → AreUpTo last (take i xs)
    → last ≤ now
    → item.stage ≤ now
    → AreUpTo now (take (i + 1) xs)
up_to_more {A} xs i last now item below is up_to le early =
    All-more (λ (staged : Staged A). staged.stage ≤ now) xs i item below
    (up_to_later (take i xs) last now le up_to)
    (subst (λ (staged : Staged A). staged.stage ≤ now) is early)

-- what holds of the first elements holds of all of them, where there are no more
front : {A : Type 0} (xs items : List A) (i : ℕ) → items ≡ xs → length items ≤ i → take i items ≡ xs
front xs items i is most = take_all i items most ∙ is

pub all_up_to : {A : Type 0} (xs items : List (Staged A)) (i last : ℕ)
    → items ≡ xs
    → length items ≤ i
    → AreUpTo last (take i items)
    → AreUpTo last xs
all_up_to {A} xs items i last is most up_to =
    subst (λ (parts : List (Staged A)). AreUpTo last parts) (front xs items i is most) up_to

pub words_up_to_more : (words : List GuardedWord) (i last now : ℕ) (word : GuardedWord)
    → i < length words
    → word ≡ get_or words i word
    → AllUpTo last (take i words)
    → last ≤ now
    → IsUpTo now word
    → AllUpTo now (take (i + 1) words)
words_up_to_more words i last now word below is up_to le early =
    All-more (IsUpTo now) words i word below
    (λ k d in-k.
    let each : IsUpTo last (get_or (take i words) k d) = up_to k d in-k in
    record {
      issues = up_to_later _ last now le each.issues;
      enables = up_to_later _ last now le each.enables;
      takes = up_to_later _ last now le each.takes;
    })
    (subst (IsUpTo now) is early)

pub all_words_up_to : (words items : List GuardedWord) (i last : ℕ)
    → items ≡ words
    → length items ≤ i
    → AllUpTo last (take i items)
    → AllUpTo last words
all_words_up_to words items i last is most up_to = subst (AllUpTo last) (front words items i is most) up_to
