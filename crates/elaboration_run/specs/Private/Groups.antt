-- Groups of turns of the same loops.
use Rattle.std.specs.Prelude.{◌≡◌, ℕ, List, [], ◌∷◌, All, length}
use Rattle.elaboration_run.specs.declared.lanes.Group.{Group}

-- each group has a row for each of so many loops
abbrev pub HaveRows : (loops : ℕ) → List Group → Type 0
HaveRows loops groups = All (λ (g : Group). length g.rows ≡ loops) groups

-- how many loops the groups are for
abbrev pub loops_in : List Group → ℕ
loops_in [] = 0
loops_in (g ∷ groups) = length g.rows
