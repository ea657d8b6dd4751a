-- The numbers of the last places of elements.
use Rattle.std.specs.Prelude.{◌≡◌, ℕ, ◌<◌, ◌≤◌, List, length, slice_get, slice_index_or, Some}
use Rattle.signal_graph.specs.GraphOf.{Site}

-- among the first n places no later one is of the same element
abbrev pub IsLastPlace : List Site → (n j : ℕ) → Site → Type 0
IsLastPlace all n j s =
    (k : ℕ) (t : Site) → k < n → slice_get all k ≡ Some t → t.element ≡ s.element → k ≤ j

-- for each element the number of its last place among the first n
pub record LastUpTo (all : List Site) (numbers : List ℕ) (elements n : ℕ) (last : List ℕ) : Type 0 where
  pub size : length last ≡ elements
  pub at : (j : ℕ) (s : Site)
      → j < n
      → slice_get all j ≡ Some s
      → IsLastPlace all n j s
      → slice_index_or last s.element 0 ≡ slice_index_or numbers j 0

abbrev pub AreLast : List Site → List ℕ → (elements : ℕ) → List ℕ → Type 0
AreLast all numbers elements last = LastUpTo all numbers elements (length all) last
