-- The parts of a loop are the list that they were made of.
use Rattle.std.proofs.Common.{◌≡◌, ◌∙◌, ℕ, ℤ, List, Vec, Bor, Result, refl, sym, ap, map}
use Rattle.std.specs.Global.{Global}
use mathlib.Core.Former.{Count}
use Rattle.elaboration_code.specs.declared.actions.Bound.{Bound}
use Rattle.element_rules.specs.declared.fault.PlacedFault.{PlacedFault}
use Rattle.elaboration_run.specs.declared.parts.Part.{Part, Loop, Loop', Row_of-Part, end_of-Part, more_of-Part}
use Rattle.elaboration_run.specs.declared.parts.Part.{items-the_row-Part, items_hidden-the_row-Part-0}
use Rattle.elaboration_code.specs.Actions.{action, repeat, actions_of, Walked, State, run_action, run_loop}
use Rattle.elaboration_run.specs.Private.Parts.{view_part, view_row, seen}

row_parts : (m : _) (k : Row_of-Part m) → view_row k ≡ actions_of (map view_part (items-the_row-Part m k))
row_parts _ end_of-Part = refl
row_parts _ (more_of-Part {n = n} x rest) = ap (λ xs. action (view_part x) xs) (row_parts n rest)

abbrev row_of : Part → (n : Count) × Row_of-Part n
row_of (Loop' lo hi shape row at) = (_, row)
row_of _ = (_, end_of-Part)

pub view_Loop : (lo hi : Bor Bound) (v : Vec Part Global) (at : ℕ)
    → view_part (Loop lo hi v at) ≡ repeat lo.now hi.now (actions_of (seen v)) at
view_Loop lo hi v at =
    let row = row_of (Loop lo hi v at) in
    let same = items_hidden-the_row-Part-0 v in
    ap (λ xs. repeat lo.now hi.now xs at) (row_parts row.0 row.1 ∙ ap (λ xs. actions_of (map view_part xs)) same)

pub part_is :
    (inside : (func at : ℕ) → List ℤ → Walked → Result Walked PlacedFault) (turns : List ℤ) (x : Part)
    (lo hi : Bor Bound) (v : Vec Part Global) (at : ℕ)
    → x ≡ Loop lo hi v at
    → (xs : List Part)
    → xs ≡ v.items
    → (s : State)
    → run_action inside turns (view_part x) s ≡ run_loop inside turns lo.now hi.now (actions_of (map view_part xs)) at s
part_is inside turns x lo hi v at is xs e s =
    ap (λ y. run_action inside turns (view_part y) s) is ∙ ap (λ y. run_action inside turns y s) (view_Loop lo hi v at)
    ∙ ap (λ ys. run_loop inside turns lo.now hi.now (actions_of (map view_part ys)) at s) (sym e)
