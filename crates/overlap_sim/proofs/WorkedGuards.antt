-- y = x + 1 on four units and one bus, in a period of three cycles and two stages: the sum that is put in cycle 0 of a
-- sample is that of the sample before. Against values worked out by hand.
use Rattle.std.proofs.Common.{◌≡◌, refl, ℕ, List, [], ◌∷◌, ◌++◌, map, pos, negsuc}
use Rattle.fix_word.specs.Values.{wrap_of}
use Rattle.micro_image.specs.declared.image.Word.{Word}
use Rattle.micro_image.specs.Fields.{no_word}
use Rattle.micro_image.specs.Log.{value, entries_by}
use Rattle.micro_image.specs.Run.{row_of}
use Rattle.micro_image.proofs.Increment.{increment, fetch, one, sum, put}
use Rattle.overlap_sim.specs.declared.guarded.Guarded.{Guarded}
use Rattle.overlap_sim.specs.declared.guarded.GuardedWord.{GuardedWord}
use Rattle.overlap_sim.specs.declared.guarded.Staged.{Staged}
use Rattle.overlap_sim.specs.Guarded.{of_guarded, unguarded_word}

abbrev at_stage : {A : Type 0} → (stage : ℕ) → List A → List (Staged A)
at_stage stage parts = map (λ part. record { part = part; stage = stage }) parts

-- a word of which all is of stage 0, and what another word has of stage 1
abbrev staged : Word → Word → GuardedWord
staged now before = record {
  issues = at_stage 0 now.issues ++ at_stage 1 before.issues;
  enables = at_stage 0 now.enables ++ at_stage 1 before.enables;
  takes = at_stage 0 now.takes ++ at_stage 1 before.takes;
}

abbrev pub overlapped : Guarded
overlapped = record {
  period = 3;
  unroll = 1;
  inputs = 8 ∷ [];
  outs = 1;
  units = increment.units;
  buses = 1;
  words = staged fetch put ∷ staged one no_word ∷ staged sum no_word ∷ [];
}

-- in the first sample there is no sum to put yet
pub first-obeyed : (of_guarded overlapped).word_at 0 ≡ fetch
first-obeyed = refl

pub later-obeyed : (of_guarded overlapped).word_at 3 ≡ unguarded_word (staged fetch put)
later-obeyed = refl

-- for the samples 0, 127 and -128 the latch holds 0, and then the sums of the first two
pub overlapped-rows :
    map (row_of (of_guarded overlapped) ((pos 0 ∷ []) ∷ (pos 127 ∷ []) ∷ (negsuc 127 ∷ []) ∷ [])) (0 ∷ 1 ∷ 2 ∷ [])
    ≡ (pos 0 ∷ []) ∷ (pos 1 ∷ []) ∷ (negsuc 127 ∷ []) ∷ []
unfolding entries_by value wrap_of
overlapped-rows = refl
