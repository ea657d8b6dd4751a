-- Guarded images: the microprograms of samples that overlap.
use Rattle.std.specs.Prelude.{ℕ, ◌*◌, ◌/◌, ◌%◌, nat_le, List, [], map}
use Rattle.std.specs.List.{filter}
use Rattle.micro_image.specs.declared.image.Image.{Image}
use Rattle.micro_image.specs.declared.image.Word.{Word}
use Rattle.micro_image.specs.Fields.{Microprogram, nth}
use Rattle.overlap_sim.specs.declared.guarded.Guarded.{Guarded}
use Rattle.overlap_sim.specs.declared.guarded.GuardedWord.{GuardedWord}
use Rattle.overlap_sim.specs.declared.guarded.Staged.{Staged}

-- a word without parts
abbrev pub no_guarded : GuardedWord
no_guarded = record { issues = []; enables = []; takes = [] }

-- the parts whose stage is at most the sample's number
abbrev pub due : {A : Type 0} → (sample : ℕ) → List (Staged A) → List A
due sample parts = map (λ staged. staged.part) (filter (λ staged. nat_le staged.stage sample) parts)

-- what a machine obeys of a guarded word in a sample
abbrev pub obeyed : (sample : ℕ) → GuardedWord → Word
obeyed sample word = record {
  issues = due sample word.issues;
  enables = due sample word.enables;
  takes = due sample word.takes;
}

-- The microprogram of a guarded image. Its words come round as those of an image do, and in each cycle that part of the
-- word is obeyed which is due in the cycle's sample.
abbrev pub of_guarded : Guarded → Microprogram
of_guarded guarded = record {
  period = guarded.period;
  units = guarded.units;
  outs = guarded.outs;
  word_at = λ t.
      obeyed (t / guarded.period) (nth guarded.words (t % (guarded.unroll * guarded.period)) no_guarded);
}

-- the word without the stages
abbrev pub whole : {A : Type 0} → List (Staged A) → List A
whole parts = map (λ staged. staged.part) parts

abbrev pub unguarded_word : GuardedWord → Word
unguarded_word word =
    record { issues = whole word.issues; enables = whole word.enables; takes = whole word.takes }

-- the image without the stages
abbrev pub unguarded : Guarded → Image
unguarded guarded = record {
  period = guarded.period;
  unroll = guarded.unroll;
  inputs = guarded.inputs;
  outs = guarded.outs;
  units = guarded.units;
  buses = guarded.buses;
  words = map unguarded_word guarded.words;
}
