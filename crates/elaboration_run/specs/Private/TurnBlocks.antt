-- What is done of actions in turns of a loop, one after another.
use Rattle.std.specs.Prelude.{◌<◌, ◌≤◌, ◌≤ℤ◌, ◌+ℤ◌, ℕ, ℤ, pos, List, [], ◌∷◌, ◌++◌}
use Rattle.elaboration_code.specs.Actions.{Action}
use Rattle.elaboration_run.specs.Private.EmptyLoops.{DoSame}

-- the same in each turn of a loop with these bounds, from turn k on up to another
abbrev pub IsBlock : (outer : List ℤ) → (first last : ℤ) → (k until : ℕ) → (kept all : List Action) → Type 0
IsBlock outer first last k until kept all =
    (j : ℕ) → k ≤ j → j < until → (first +ℤ pos j) ≤ℤ last → DoSame (outer ++ (first +ℤ pos j) ∷ []) kept all
