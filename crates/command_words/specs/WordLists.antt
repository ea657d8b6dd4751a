-- The list of some words of a row: `-` for none, or their places with commas between them.
use Rattle.std.specs.Prelude.{◌≤◌, ℕ, List, [], ◌∷◌, map, length, slice_index, Bool, true, not, ◌&&◌, ◌||◌}
use Rattle.std.specs.Prelude.{if◌then◌else◌, nat_eq, nat_le, nat_lt, bytes_eq, codes}
use Rattle.std.specs.List.{All, list_all, slice_split}
use Rattle.std.specs.List.Sorted.{IsStrictlyIncreasing}
use Rattle.silage_lex.specs.Texts.{is_digits, decimal}

-- the parts of a text, between its commas
abbrev pub parts_of : List ℕ → List (List ℕ)
parts_of text = slice_split (λ b. nat_eq b 44) text

-- decimal digits with no leading zero, which `0` itself is not
abbrev pub is_plain : List ℕ → Bool
is_plain text = is_digits text && (nat_eq (length text) 1 || not (nat_eq (slice_index text 0) 48))

-- the place of one of the 16 words that a row may have
abbrev pub is_place : List ℕ → Bool
is_place text = is_plain text && nat_le (decimal text) 15

-- each number is below the next
abbrev pub rises : List ℕ → Bool
rises (m ∷ n ∷ ns) = nat_lt m n && rises (n ∷ ns)
rises _ = true

-- the text is places that rise strictly, with single commas between them
abbrev pub are_places : List ℕ → Bool
are_places text = list_all is_place (parts_of text) && rises (map decimal (parts_of text))

-- the text is the list of some words
abbrev pub is_word_list : List ℕ → Bool
is_word_list text = bytes_eq text (codes "-") || are_places text

-- the places of these words
abbrev pub places_in : List ℕ → List ℕ
places_in text = if bytes_eq text (codes "-") then [] else map decimal (parts_of text)

-- places of words rise strictly
pub record ArePlaces (places : List ℕ) : Type 0 where
  pub rise : IsStrictlyIncreasing places
  pub within : All (λ place. place ≤ 15) places
