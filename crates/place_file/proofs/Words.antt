-- The words of a line, and the numbers in them.
use Rattle.std.proofs.Common.{◌≡◌, ◌∙◌, sym, ap, ap₂, arith, ℕ, ◌+◌, ◌-◌, ◌<◌, ◌≤◌, ◌==◌, List, [], ◌∷◌, length, take}
use Rattle.std.proofs.Common.{drop}
use Rattle.std.proofs.Common.{length-drop, drop-drop, take_all, Bor, Option, Some, None, MatchOption}
use Rattle.std.specs.Prelude.{slice_index_or}
use Rattle.std.specs.List.{position_or_len, IsFirstAndRest}
use Rattle.std.proofs.lemmas.List.Sums.{fails_before_first, count_by-le-length}
use Rattle.std.proofs.lemmas.List.Splits.{slice_split_none, slice_split_first, length-slice_split}
use Rattle.microcode_asm.specs.OperationText.{line_feed}
use Rattle.place_file.specs.Lines.{parts_of, lines_of}
use Rattle.place_file.specs.Private.Words.{lines_left}

-- the part before the first such byte
module _ (byte : ℕ) (text : List ℕ) (at : ℕ) (first : at ≡ position_or_len (λ (b : ℕ). b == byte) text) where
  -- where there is none
  pub last_part : length text ≤ at → parts_of byte text ≡ text ∷ []
  last_part past =
      slice_split_none (λ (b : ℕ). b == byte) text
      (λ k d less. fails_before_first (λ (b : ℕ). b == byte) text k d (omega (arith, less, past, first)))

  pub first_part : at < length text → parts_of byte text ≡ take at text ∷ parts_of byte (drop (at + 1) text)
  first_part there =
      slice_split_first (λ (b : ℕ). b == byte) text 0 (omega (arith, there, first))
      ∙ ap (λ (n : ℕ). take n text ∷ parts_of byte (drop (n + 1) text)) (sym first)

-- the same as the code splits a text
module _ (byte : ℕ) (text : List ℕ) (at : ℕ) (first : at ≡ position_or_len (λ (b : ℕ). b == byte) text)
    (front back : List ℕ) (front_is : front ≡ take at text) (back_is : back ≡ drop at text) where
  back_length : length back ≡ length text - at
  back_length = ap length back_is ∙ length-drop at text

  pub part_and_rest : (x : ℕ) (rest : List ℕ)
      → IsFirstAndRest back x rest
      → parts_of byte text ≡ front ∷ parts_of byte rest
  part_and_rest x rest is =
      let there : at < length text = omega (arith, back_length, is.1) in
      let behind : drop (at + 1) text ≡ rest =
      sym (drop-drop 1 at text) ∙ ap (λ (xs : List ℕ). drop 1 xs) (sym back_is ∙ is.0) in
      first_part byte text at first there
      ∙ ap₂ (λ (part next : List ℕ). part ∷ parts_of byte next) (sym front_is) behind

  pub last_and_none : at ≤ length text → length back ≡ 0 → parts_of byte text ≡ front ∷ []
  last_and_none within none =
      let past : length text ≤ at = omega (arith, back_length, within, none) in
      last_part byte text at first past
      ∙ ap (λ (part : List ℕ). part ∷ []) (sym (front_is ∙ take_all at text past))

-- the first part is the first word, and the others are left
pub first_word : (word : List ℕ) (words rest : List (List ℕ)) → words ≡ word ∷ rest → word ≡ slice_index_or words 0 []
first_word word words rest is = sym (ap (λ (xs : List (List ℕ)). slice_index_or xs 0 []) is)

pub words_behind : (word : List ℕ) (words rest : List (List ℕ)) → words ≡ word ∷ rest → rest ≡ drop 1 words
words_behind word words rest is = sym (ap (λ (xs : List (List ℕ)). drop 1 xs) is)

-- the first line of what is left, and what is left behind it
pub lines_split : (text line : List ℕ) (behind : Option (Bor (List ℕ)))
    → MatchOption behind (parts_of line_feed text ≡ line ∷ [])
    (λ rest. parts_of line_feed text ≡ line ∷ parts_of line_feed rest.now)
    → line ∷ lines_left behind ≡ parts_of line_feed text
lines_split text line None is = sym is
lines_split text line (Some rest) is = sym is

-- a text has as many lines as line feeds, and one more
pub lines_few : (text : List ℕ) → length (lines_of text) ≤ length text + 1
lines_few text =
    omega (
      arith,
      length-slice_split (λ (b : ℕ). b == line_feed) text,
      count_by-le-length (λ (b : ℕ). b == line_feed) text,
    )
