-- Groups of turns of the same loops.
use Rattle.std.proofs.Common.{◌≡◌, ◌≢◌, ◌∙◌, ◌<◌, ◌+◌, ◌++◌, ℕ, ℤ, zero, suc, List, [], ◌∷◌, length, get_or, refl, sym}
use Rattle.std.proofs.Common.{ap, subst, arith}
use Rattle.std.proofs.lemmas.List.{length-map, length_push as length_more}
use Rattle.std.proofs.lemmas.List.Elements.{All-push}
use Rattle.elaboration_run.specs.declared.lanes.Group.{Group}
use Rattle.elaboration_run.specs.Private.Lanes.{at, column}
use Rattle.elaboration_run.specs.Private.Groups.{HaveRows, loops_in}

abbrev HasRows : ℕ → Group → Type 0
HasRows loops g = length g.rows ≡ loops

module _ (loops : ℕ) where
  rest_rows : (g : Group) (groups : List Group) → HaveRows loops (g ∷ groups) → HaveRows loops groups
  rest_rows g groups h = λ i d less. h (suc i) d (omega (arith, less))

  pub first_rows : (g : Group) (groups : List Group) → HaveRows loops (g ∷ groups) → length g.rows ≡ loops
  first_rows g groups h = h 0 g (omega arith)

  pub no_rows : HaveRows loops []
  no_rows i d less = absurd (omega (arith, less))

  pub one_more_row : (groups : List Group) (g : Group)
      → HaveRows loops groups
      → length g.rows ≡ loops
      → HaveRows loops (groups ++ g ∷ [])
  one_more_row groups g h e = All-push (HasRows loops) groups g h e

  pub front_rows : (groups : List Group) (g : Group) → HaveRows loops (groups ++ g ∷ []) → HaveRows loops groups
  front_rows [] g h = no_rows
  front_rows (x ∷ groups) g h = front_of (front_rows groups g (rest_rows x (groups ++ g ∷ []) h))
    where
      front_of : HaveRows loops groups → HaveRows loops (x ∷ groups)
      front_of rest zero d less = h 0 d (omega arith)
      front_of rest (suc i) d less = rest i d (omega (arith, less))

  pub last_rows : (groups : List Group) (g : Group) → HaveRows loops (groups ++ g ∷ []) → length g.rows ≡ loops
  last_rows [] g h = first_rows g [] h
  last_rows (x ∷ groups) g h = last_rows groups g (rest_rows x (groups ++ g ∷ []) h)

  pub loops_are : (groups : List Group) → HaveRows loops groups → length groups ≢ 0 → loops_in groups ≡ loops
  loops_are [] h some = absurd (some refl)
  loops_are (g ∷ groups) h some = first_rows g groups h

  -- groups of the same loops
  pub own_rows : (groups : List Group) → HaveRows loops groups → HaveRows (loops_in groups) groups
  own_rows [] h = λ i d less. absurd (omega (arith, less))
  own_rows (g ∷ groups) h = subst (λ n. HaveRows n (g ∷ groups)) (sym (first_rows g groups h)) h

pub single_rows : (g : Group) → HaveRows (length g.rows) (g ∷ [])
single_rows g = one_more_row (length g.rows) [] g (no_rows (length g.rows)) refl

-- rows with a turn in a lane
pub turn_rows : (rows : List (List ℤ)) (lane : ℕ) (turn : List ℤ) → column rows lane ≡ turn → length rows ≡ length turn
turn_rows rows lane turn e = sym (length-map rows (λ row. at row lane)) ∙ ap length e

-- a turn has one loop more than its lane
pub turn_loops : (rows : List (List ℤ)) (lane : ℕ) (z : ℤ) (turn : List ℤ)
    → turn ≡ column rows lane ++ z ∷ []
    → length turn ≡ length rows + 1
turn_loops rows lane z turn e =
    ap length e ∙ length_more (column rows lane) z ∙ ap (λ n. n + 1) (length-map rows (λ row. at row lane))

pub group_rows : (groups : List Group) (i : ℕ) (g : Group)
    → i < length groups
    → g ≡ get_or groups i g
    → HaveRows (loops_in groups) groups
    → length g.rows ≡ loops_in groups
group_rows groups i g less is h = ap (λ (g : Group). length g.rows) is ∙ h i g less

-- the groups of the turns of a loop, if there is one, are for one loop more
pub loops_more : (outer : List ℤ) (n : ℕ) (inner all : List Group)
    → inner ≡ all
    → HaveRows (n + 1) all
    → length all ≢ 0
    → length outer + loops_in inner ≡ length outer + n + 1
loops_more outer n inner all same h some =
    let is : loops_in inner ≡ n + 1 = ap loops_in same ∙ loops_are (n + 1) all h some in
    omega (arith, is)

pub same_rows : (n : ℕ) (inner all : List Group) → inner ≡ all → HaveRows n all → HaveRows (loops_in inner) inner
same_rows n inner all same h =
    subst (λ (groups : List Group). HaveRows (loops_in groups) groups) (sym same) (own_rows n all h)
