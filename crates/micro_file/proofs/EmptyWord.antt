-- Five zeros are an empty word of version 1.
use Rattle.std.proofs.Common.{◌≡◌, ℕ, List, [], ◌∷◌, ◌++◌, length, Ok, refl, arith}
use Rattle.std.specs.Int.{w16}
use Rattle.micro_image.specs.declared.image.Image.{Image}
use Rattle.micro_image.specs.Bytes.{two_bytes}
use Rattle.micro_image.specs.Fields.{no_word}
use Rattle.micro_file.specs.Private.Bytes.{number_within}
use Rattle.micro_file.specs.Private.Fields.{many_at}
use Rattle.micro_file.specs.Private.Words.{issues_at, enables_at, takes_at, word_at}
use Rattle.micro_file.specs.Private.Empty.{empty_word}
use Rattle.micro_file.proofs.Leaves.{upto_reader, two_reader}

no_count : (rest : List ℕ) → number_within w16 0 1024 (0 ∷ 0 ∷ rest) ≡ Ok (0, rest)
unfolding two_bytes
no_count rest = (two_reader 0 1024 (omega arith)).again 0 rest (omega arith, omega arith)

module _ (image : Image) (rest : List ℕ) where
  no_issues : issues_at image (0 ∷ rest) ≡ Ok ([], rest)
  unfolding issues_at many_at
  no_issues = rw ((upto_reader (length image.units)).again 0 rest (omega arith)) refl

  no_enables : enables_at image (0 ∷ 0 ∷ rest) ≡ Ok ([], rest)
  unfolding enables_at many_at
  no_enables = rw (no_count rest) refl

  no_takes : takes_at image (0 ∷ 0 ∷ rest) ≡ Ok ([], rest)
  unfolding takes_at many_at
  no_takes = rw (no_count rest) refl

pub empty_word_at : (image : Image) (rest : List ℕ) → word_at image (empty_word ++ rest) ≡ Ok (no_word, rest)
unfolding word_at
empty_word_at image rest =
    rw (no_issues image (0 ∷ 0 ∷ 0 ∷ 0 ∷ rest), no_enables image (0 ∷ 0 ∷ rest), no_takes image rest) refl
