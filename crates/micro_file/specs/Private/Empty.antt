-- A word that does nothing.
use Rattle.std.specs.Prelude.{ℕ, List, [], ◌∷◌}

-- its bytes in version 1, the three counts
abbrev pub empty_word : List ℕ
empty_word = 0 ∷ 0 ∷ 0 ∷ 0 ∷ 0 ∷ []
