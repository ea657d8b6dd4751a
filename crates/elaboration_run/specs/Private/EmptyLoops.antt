-- What is done of actions in several turns of the loops around them.
use Rattle.std.specs.Prelude.{◌≡◌, ◌<◌, ◌+◌, ◌⊎◌, ◌≤ℤ◌, ◌+ℤ◌, ℕ, ℤ, pos, Some, Result, List, [], ◌∷◌, ◌++◌, length}
use Rattle.elaboration_code.specs.Numbers.{number_value}
use Rattle.elaboration_run.specs.Private.Lanes.{column}
use Rattle.elaboration_code.specs.Actions.{Action, actions_of, Walked, State, run_actions}
use Rattle.elaboration_run.specs.Private.Groups.{loops_in}
use Rattle.elaboration_code.specs.declared.numbers.Number.{Number}
use Rattle.elaboration_run.specs.declared.turns.Turns.{Turns}
use Rattle.elaboration_run.specs.declared.lanes.Group.{Group}
use Rattle.element_rules.specs.declared.fault.PlacedFault.{PlacedFault}

-- the ones do inside loops with these turns what all do
abbrev pub DoSame : (turns : List ℤ) → (kept all : List Action) → Type 0
DoSame turns kept all =
    (inside : (func at : ℕ) → List ℤ → Walked → Result Walked PlacedFault) → (s : State)
    → run_actions inside turns (actions_of kept) s ≡ run_actions inside turns (actions_of all) s

-- the turns are in a lane of the group
abbrev pub IsIn : (outer : List ℤ) → Group → (turns : List ℤ) → Type 0
IsIn outer g turns = (k : ℕ) × (k < g.count) × (outer ++ column g.rows k ≡ turns)

-- one of the groups has them
abbrev pub Holds : (outer : List ℤ) → (groups : List Group) → (turns : List ℤ) → Type 0
Holds outer [] turns = ⊥
Holds outer (g ∷ groups) turns = IsIn outer g turns ⊎ Holds outer groups turns

-- the new groups have all turns that the old ones have
abbrev pub Keeps : (outer : List ℤ) → (old new : List Group) → Type 0
Keeps outer old new = (turns : List ℤ) → Holds outer old turns → Holds outer new turns

-- these, and one turn more
abbrev pub IsMore : (outer : List ℤ) → (old new : List Group) → (turns : List ℤ) → Type 0
IsMore outer old new turns = Keeps outer old new × Holds outer new turns

-- how many loops are around in the turns
abbrev pub loops_around : Turns → ℕ
loops_around t = length t.outer.now + loops_in t.groups.now

-- it holds in each of the turns
abbrev pub InEach : Turns → (List ℤ → Type 0) → Type 0
InEach t P = (turns : List ℤ) → Holds t.outer.now t.groups.now turns → P turns

-- the bounds have values in these turns, and the groups have each turn of the loop
abbrev pub Reaches : (outer : List ℤ) → (groups : List Group) → (lo hi : Number) → (turns : List ℤ) → Type 0
Reaches outer groups lo hi turns =
    (first last : ℤ) × (number_value turns lo ≡ Some first) × (number_value turns hi ≡ Some last)
    × ((j : ℕ) → (first +ℤ pos j) ≤ℤ last → Holds outer groups (turns ++ (first +ℤ pos j) ∷ []))

-- where the ones do what some do, the others do what these and the action do
abbrev pub DoesMore : Turns → (old : List Action) → Action → (new : List Action) → Type 0
DoesMore t old x new =
    (some : List Action) → InEach t (λ ts. DoSame ts old some) → InEach t (λ ts. DoSame ts new (some ++ x ∷ []))
