-- Rows that come late, worked out.
use Rattle.std.proofs.Common.{◌≡◌, refl, List, [], ◌∷◌, map, ℤ, pos, negsuc}
use Rattle.lists.specs.Rows.{Rows}
use Rattle.stage_commands.specs.Pipe.{late_rows}

abbrev rows_of : List ℤ → Rows
rows_of words = map (λ word. word ∷ []) words

abbrev zeros : List ℤ
zeros = pos 0 ∷ []

-- y = x + 1 in 8 bits over 0, 127 and -128, of two stages
increments : late_rows 1 zeros (rows_of (pos 1 ∷ negsuc 127 ∷ negsuc 126 ∷ []))
    ≡ rows_of (pos 0 ∷ pos 1 ∷ negsuc 127 ∷ [])
increments = refl

-- y = x@3 over 1 to 6, of two stages
delays : late_rows 1 zeros (rows_of (pos 0 ∷ pos 0 ∷ pos 0 ∷ pos 1 ∷ pos 2 ∷ pos 3 ∷ []))
    ≡ rows_of (pos 0 ∷ pos 0 ∷ pos 0 ∷ pos 0 ∷ pos 1 ∷ pos 2 ∷ [])
delays = refl

-- one stage delays nothing, and one row does not come out of four
one_stage : late_rows 0 zeros (rows_of (pos 7 ∷ pos 8 ∷ [])) ≡ rows_of (pos 7 ∷ pos 8 ∷ [])
one_stage = refl

four_stages : late_rows 3 zeros (rows_of (pos 7 ∷ [])) ≡ rows_of (pos 0 ∷ [])
four_stages = refl
