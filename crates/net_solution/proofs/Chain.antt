-- Two processors in a row, each with the image of y = x + 1: the rows that they put, and what their turns lack.
use Rattle.std.proofs.Common.{◌≡◌, ℕ, zero, suc, ◌<◌, true, false, List, [], ◌∷◌, replicate, pos, negsuc, refl, arith}
use Rattle.lists.specs.Rows.{Rows}
use Rattle.fix_word.specs.Values.{wrap_of}
use Rattle.micro_image.specs.Log.{value, entries_by}
use Rattle.micro_image.specs.Fields.{nth, microprogram_of}
use Rattle.micro_image.specs.Run.{IsRunOut}
use Rattle.micro_image.proofs.Increment.{increment}
use Rattle.micro_image.proofs.IncrementRun.{increment-clear}
use Rattle.net_core.specs.declared.types.Wire.TheVariants.{Input, From}
use Rattle.net_turns.specs.Turns.{Point, lacks, after_turn, after_turns, is_finished}
use Rattle.net_turns.specs.Progress.{enough_rounds, after_rounds}
use Rattle.net_turns.specs.Marking.{starts}
use Rattle.net_solution.specs.Solutions.{Parts, shape_of, program_of, fed, IsNetSolution}

-- the net's rows are 0, 125 and 126
abbrev chain : Parts
chain = record {
  images = increment ∷ increment ∷ [];
  feeds = (Input 0 ∷ []) ∷ (From 0 0 ∷ []) ∷ [];
  capacity = 1;
  stream = (pos 0 ∷ []) ∷ (pos 125 ∷ []) ∷ (pos 126 ∷ []) ∷ [];
}

-- what the first puts, and what the second
abbrev first : Rows
first = (pos 1 ∷ []) ∷ (pos 126 ∷ []) ∷ (pos 127 ∷ []) ∷ []

abbrev second : Rows
second = (pos 2 ∷ []) ∷ (pos 127 ∷ []) ∷ (negsuc 127 ∷ []) ∷ []

first_runs : IsRunOut (microprogram_of increment) (fed chain (first ∷ second ∷ []) 0) first
unfolding value entries_by wrap_of
first_runs = record { clear = λ t below. increment-clear _ t; put = refl }

second_runs : IsRunOut (microprogram_of increment) (fed chain (first ∷ second ∷ []) 1) second
unfolding value entries_by wrap_of
second_runs = record { clear = λ t below. increment-clear _ t; put = refl }

runs : (p : ℕ)
    → p < 2
    → IsRunOut (program_of chain p) (fed chain (first ∷ second ∷ []) p) (nth (first ∷ second ∷ []) p [])
runs zero h = first_runs
runs (suc zero) h = second_runs
runs (suc (suc p)) h = absurd (omega arith)

chain_solution : IsNetSolution chain (first ∷ second ∷ [])
chain_solution = record { count = refl; runs = runs }

-- at first the second lacks a row, and the first nothing
first_begins : lacks (shape_of chain) (starts (shape_of chain)) 0 ≡ false
unfolding lacks
first_begins = refl

second_waits : lacks (shape_of chain) (starts (shape_of chain)) 1 ≡ true
unfolding lacks
second_waits = refl

-- after a sample of the first it lacks a place, and the second nothing
abbrev after_sample : List Point
after_sample = after_turns (shape_of chain) (starts (shape_of chain)) (replicate 16 0)

first_waits : lacks (shape_of chain) after_sample 0 ≡ true
unfolding lacks after_turn
first_waits = refl

second_begins : lacks (shape_of chain) after_sample 1 ≡ false
unfolding lacks after_turn
second_begins = refl

-- all rows stand after 2 * 3 * 16 rounds
all_stand :
    is_finished (shape_of chain)
    (after_rounds (shape_of chain) (enough_rounds (shape_of chain)) (starts (shape_of chain))) ≡ true
unfolding lacks after_turn
all_stand = refl

-- and after 63 already, not after 62
all_after : is_finished (shape_of chain) (after_rounds (shape_of chain) 63 (starts (shape_of chain))) ≡ true
unfolding lacks after_turn
all_after = refl

not_all : is_finished (shape_of chain) (after_rounds (shape_of chain) 62 (starts (shape_of chain))) ≡ false
unfolding lacks after_turn
not_all = refl
