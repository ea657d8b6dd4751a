-- The stages of a guarded image, and the words that it obeys before all of them have begun.
use Rattle.std.specs.Prelude.{◌≡◌, ℕ, ◌<◌, ◌≤◌, ◌^◌, List, length}
use Rattle.std.specs.List.{All}
use Rattle.micro_image.specs.declared.image.Word.{Word}
use Rattle.micro_image.specs.Fields.{nth, no_word, word_at}
use Rattle.overlap_sim.specs.declared.guarded.Guarded.{Guarded}
use Rattle.overlap_sim.specs.declared.guarded.GuardedWord.{GuardedWord}
use Rattle.overlap_sim.specs.declared.guarded.Staged.{Staged}
use Rattle.overlap_sim.specs.Guarded.{of_guarded, unguarded}

-- no stage is later
abbrev pub AreUpTo : {A : Type 0} → (last : ℕ) → List (Staged A) → Type 0
AreUpTo last parts = All (λ staged. staged.stage ≤ last) parts

pub record IsUpTo (last : ℕ) (word : GuardedWord) : Type 0 where
  pub issues : AreUpTo last word.issues
  pub enables : AreUpTo last word.enables
  pub takes : AreUpTo last word.takes

abbrev pub AllUpTo : (last : ℕ) → List GuardedWord → Type 0
AllUpTo last words = All (IsUpTo last) words

-- the words of so many cycles, the first ones
pub record AreFirst (guarded : Guarded) (count : ℕ) (words : List Word) : Type 0 where
  pub count_is : length words ≡ count
  pub each : (t : ℕ) → t < count → nth words t no_word ≡ (of_guarded guarded).word_at t

-- The words of the first cycles. From then on the microprogram obeys whole words.
pub record IsPrologue (guarded : Guarded) (words : List Word) : Type 0 where
  pub each : (t : ℕ) → t < length words → nth words t no_word ≡ (of_guarded guarded).word_at t
  pub settled : (t : ℕ) → length words ≤ t → (of_guarded guarded).word_at t ≡ word_at (unguarded guarded) t
  pub few : length words ≤ 2 ^ 20
