-- What is done of an action in several turns.
use Rattle.std.proofs.Common.{◌≡◌, ◌∙◌, ◌++◌, ◌∷◌, [], ℕ, ℤ, List, Vec, length, map, Result, Ok, Err, OnOk, refl, sym}
use Rattle.std.proofs.Common.{ap, subst}
use Rattle.std.specs.Global.{Global}
use Rattle.elaboration_code.specs.declared.actions.Action.{Action as RustAction, Repeat}
use Rattle.elaboration_code.specs.declared.actions.Bound.{Bound}
use Rattle.elaboration_run.specs.declared.turns.Turns.{Turns}
use Rattle.elaboration_run.specs.declared.lanes.Group.{Group}
use Rattle.element_rules.specs.declared.fault.PlacedFault.{PlacedFault}
use Rattle.elaboration_run.specs.Private.Lanes.{at, column}
use Rattle.elaboration_code.specs.Actions.{Action, repeat, actions_of, view_action, Walked, State, run_action}
use Rattle.elaboration_run.specs.Private.EmptyLoops.{DoSame, InEach, Holds, Reaches, DoesMore}
use Rattle.elaboration_code.proofs.ActionRows.{view_Repeat}
use Rattle.elaboration_run.proofs.HeldTurns.{held_by_none}
use Rattle.elaboration_run.proofs.IdleActions.{kept_too, left_out, loop_same, loop_idle}

pub on_same : {A E P Q : Type 0} (r : Result A E) → (P → Q) → OnOk r P → OnOk r Q
on_same (Ok x) f h = f h
on_same (Err e) f h = h

pub held_same : (outer : List ℤ) (groups all_groups : List Group) (kept some all : List Action)
    → groups ≡ all_groups
    → some ≡ all
    → ((ts : List ℤ) → Holds outer groups ts → DoSame ts kept some)
    → (ts : List ℤ)
    → Holds outer all_groups ts
    → DoSame ts kept all
held_same outer groups all_groups kept some all same items h ts held =
    subst (λ (all : List Action). DoSame ts kept all) items
    (h ts (subst (λ (groups : List Group). Holds outer groups ts) (sym same) held))

module _ (t : Turns) (old : List Action) (x : Action) where
  pub does_more : (y : Action) (new : List Action)
      → new ≡ old ++ y ∷ []
      → InEach t (λ ts.
      (inside : (func at : ℕ) → List ℤ → Walked → Result Walked PlacedFault) (s : State)
      → run_action inside ts y s ≡ run_action inside ts x s)
      → DoesMore t old x new
  does_more y new is same some h ts held =
      subst (λ (new : List Action). DoSame ts new (some ++ x ∷ [])) (sym is)
      (kept_too ts old some (h ts held) x y (same ts held))

  pub does_whole : (new : List Action) → new ≡ old ++ x ∷ [] → DoesMore t old x new
  does_whole new is = does_more x new is (λ ts held inside s. refl)

  pub does_none :
      InEach t (λ ts.
      (inside : (func at : ℕ) → List ℤ → Walked → Result Walked PlacedFault) (s : State)
      → run_action inside ts x s ≡ Ok s)
      → DoesMore t old x old
  does_none nothing some h ts held = left_out ts old some (h ts held) x (nothing ts held)

-- a loop of which it is known which turns it has
module _ (t : Turns) (old : List Action) (x : RustAction) (lo hi : Bound) (v : Vec RustAction Global) (at : ℕ)
    (is : x ≡ Repeat lo hi v at) (groups : List Group)
    (reached : InEach t (λ ts. Reaches t.outer.now groups lo.number hi.number ts)) where
  as_repeat : view_action x ≡ repeat lo hi (actions_of (map view_action v.items)) at
  as_repeat = ap view_action is ∙ view_Repeat lo hi v at

  pub does_no_turn : length groups ≡ 0 → DoesMore t old (view_action x) old
  does_no_turn empty =
      does_none t old (view_action x) (λ ts held inside s.
      ap (λ y. run_action inside ts y s) as_repeat
      ∙ loop_idle t.outer.now groups lo hi at ts (reached ts held) (map view_action v.items)
      (λ ts. held_by_none t.outer.now ts groups empty) inside s)

  pub does_turns : (kept : List Action) (y : Action) (new : List Action)
      → y ≡ repeat lo hi (actions_of kept) at
      → new ≡ old ++ y ∷ []
      → ((ts : List ℤ) → Holds t.outer.now groups ts → DoSame ts kept (map view_action v.items))
      → DoesMore t old (view_action x) new
  does_turns kept y new part more same =
      does_more t old (view_action x) y new more (λ ts held inside s.
      ap (λ y. run_action inside ts y s) part
      ∙ loop_same t.outer.now groups lo hi at ts (reached ts held) kept (map view_action v.items) same inside s
      ∙ sym (ap (λ y. run_action inside ts y s) as_repeat))

-- the turns of one loop, as the only row
pub one_row : (outer : List ℤ) (rows : List (List ℤ)) (row : List ℤ) (j : ℕ) (z : ℤ)
    → rows ≡ row ∷ []
    → at row j ≡ z
    → outer ++ column rows j ≡ outer ++ z ∷ []
one_row outer rows row j z is e = ap (λ rows. outer ++ column rows j) is ∙ ap (λ z. outer ++ z ∷ []) e
