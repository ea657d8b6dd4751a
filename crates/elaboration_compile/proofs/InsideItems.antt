-- The actions of items are inside the loops around these.
use Rattle.std.proofs.Common.{◌+◌, ◌++◌, ℕ, List, [], ◌∷◌, length, Bool, true, false, cond, Option, Some, None, refl}
use Rattle.std.proofs.Common.{subst}
use Rattle.std.specs.Prelude.{nat_eq, sum_by}
use Rattle.std.proofs.lemmas.Bool.{and_from as join}
use Rattle.std.proofs.lemmas.List.{length_push as length_more}
use Rattle.silage_syntax.specs.declared.tree.Decl.{Decl}
use Rattle.silage_syntax.specs.Tree.{Manifest, Place, Expr, literal, read, negate, not as denied, binary, shift, cast}
use Rattle.silage_syntax.specs.Tree.{choose, Branches, no_branch, branch, Item, equation, call, loop, initial, Items}
use Rattle.silage_syntax.specs.Tree.{no_item, item, Func, Program}
use Rattle.element_rules.specs.declared.fault.PlacedFault.{PlacedFault}
use Rattle.element_rules.specs.declared.fault.PlacedFault.TheVariants.{Bounds, Delay, Shift}
use Rattle.element_rules.specs.ElementRules.{Range, below, shifts, samples, readable, weight}
use Rattle.elaboration_code.specs.Actions.{Action, check, define, count, enter, preset, repeat, actions_of}
use Rattle.elaboration_code.specs.Loops.{AreInside, AreDoneInside}
use Rattle.elaboration_code.specs.ItemActions.{range_check, passes, kept, subscript_checks, subscripts}
use Rattle.elaboration_code.specs.ItemActions.{actions_of_target, actions_of_array, actions_of_count, capped}
use Rattle.elaboration_code.specs.ItemActions.{actions_of_value, actions_of_initial, bound_at, is_empty}
use Rattle.elaboration_code.specs.ItemActions.{actions_of_loop}
use Rattle.elaboration_code.specs.ItemActions.{amount_checks, read_checks, actions_of_taker, actions_of_takers, located}
use Rattle.elaboration_code.specs.ItemActions.{expr_checks, branch_checks, arg_checks, actions_of_call, actions_of_item}
use Rattle.elaboration_code.specs.ItemActions.{actions_of_items, sample_at, callee_of}
use Rattle.elaboration_code.proofs.InsideActions.{inside_append}
use Rattle.elaboration_code.proofs.ReadyCode.{number_inside}

module _ (loops : List (List ℕ)) where
  abbrev Inside : List Action → Type 0
  Inside xs = AreDoneInside (length loops) (actions_of xs)

  then_inside : (xs ys : List Action) → Inside xs → Inside ys → Inside (xs ++ ys)
  then_inside = inside_append (length loops)

  check_inside : (range : Range) (outside : ℕ → PlacedFault) (m : Manifest)
      → Inside (kept (range_check loops range outside m))
  check_inside range outside m = by (passes (range_check loops range outside m))
    where
      by : (b : Bool) → Inside (cond b [] (check (range_check loops range outside m) ∷ []))
      by true = refl
      by false = join _ _ (number_inside loops m) refl

  checks_inside : (dims : List ℕ) (subs : List Manifest) → Inside (subscript_checks loops dims subs)
  checks_inside [] subs = refl
  checks_inside (dim ∷ dims) [] = refl
  checks_inside (dim ∷ dims) (sub ∷ subs) =
      then_inside (kept (range_check loops (below dim) Bounds sub)) (subscript_checks loops dims subs)
      (check_inside (below dim) Bounds sub) (checks_inside dims subs)

  subscripts_inside : (dims : List ℕ) (subs : List Manifest) → AreInside (length loops) (subscripts loops dims subs)
  subscripts_inside [] subs = refl
  subscripts_inside (dim ∷ dims) [] = refl
  subscripts_inside (dim ∷ dims) (sub ∷ subs) = join _ _ (number_inside loops sub) (subscripts_inside dims subs)

  target_inside : (o : Option (ℕ × Decl)) (place : Place) → Inside (actions_of_target loops o place)
  target_inside None place = refl
  target_inside (Some q) place = by (nat_eq (length q.1.dims) (length place.subs))
    where
      by : (b : Bool)
          → Inside (cond b (define q.0 (subscripts loops q.1.dims place.subs) place.at ∷ [])
          (subscript_checks loops q.1.dims place.subs))
      by true = join _ _ (subscripts_inside q.1.dims place.subs) refl
      by false = checks_inside q.1.dims place.subs

  array_inside : (o : Option (ℕ × Decl)) (place : Place) → Inside (actions_of_array o place)
  array_inside None place = refl
  array_inside (Some q) place = refl

  count_inside : (load at : ℕ) → Inside (actions_of_count load at)
  count_inside load at = by (nat_eq load 0)
    where
      by : (b : Bool) → Inside (cond b [] (count load at ∷ []))
      by true = refl
      by false = refl

  value_inside : (first : ℕ) (dims : List ℕ) (place : Place) (amount : Manifest)
      → Inside (actions_of_value loops first dims place amount)
  value_inside first dims place amount = by (nat_eq (length dims) (length place.subs))
    where
      by : (b : Bool)
          → Inside (cond b (preset first (subscripts loops dims place.subs) (sample_at loops amount) place.at ∷ [])
          (subscript_checks loops dims place.subs ++ kept (range_check loops samples Delay amount)))
      by true = join _ _ (join _ _ (subscripts_inside dims place.subs) (number_inside loops amount)) refl
      by false =
          then_inside (subscript_checks loops dims place.subs) (kept (range_check loops samples Delay amount))
          (checks_inside dims place.subs) (check_inside samples Delay amount)

  initial_inside : (o : Option (ℕ × Decl)) (place : Place) (amount : Manifest)
      → Inside (actions_of_initial loops o place amount)
  initial_inside None place amount = refl
  initial_inside (Some q) place amount =
      then_inside (actions_of_value loops q.0 q.1.dims place amount) (count 1 place.at ∷ [])
      (value_inside q.0 q.1.dims place amount) refl

  amount_inside : (range : Range) (delay : Option Manifest) → Inside (amount_checks loops range delay)
  amount_inside range None = refl
  amount_inside range (Some m) = check_inside range Delay m

  read_inside : (r : Option (List ℕ × Range)) (place : Place) (delay : Option Manifest)
      → Inside (read_checks loops r place delay)
  read_inside None place delay = refl
  read_inside (Some r) place delay =
      then_inside (subscript_checks loops r.0 place.subs) (amount_checks loops r.1 delay) (checks_inside r.0 place.subs)
      (amount_inside r.1 delay)

  loop_inside : (lo hi : Manifest) (actions : List Action) (at : ℕ)
      → AreDoneInside (length loops + 1) (actions_of actions)
      → Inside (actions_of_loop (bound_at loops lo) (bound_at loops hi) actions at)
  loop_inside lo hi actions at h = by (is_empty (bound_at loops lo).number (bound_at loops hi).number)
    where
      by : (b : Bool) → Inside (cond b [] (repeat (bound_at loops lo) (bound_at loops hi) (actions_of actions) at ∷ []))
      by true = refl
      by false = join _ _ (join _ _ (number_inside loops lo) (join _ _ (number_inside loops hi) h)) refl

module _ (p : Program) (f : Func) where
  taker_inside : (loops : List (List ℕ)) (result : Decl) (place : Place)
      → AreDoneInside (length loops) (actions_of (actions_of_taker f loops result place))
  taker_inside loops result place = by (nat_eq (length result.dims) 0)
    where
      by : (b : Bool)
          → AreDoneInside (length loops)
          (actions_of
          (cond b (actions_of_target loops (located f place.name) place)
          (actions_of_array (located f place.name) place)))
      by true = target_inside loops (located f place.name) place
      by false = array_inside loops (located f place.name) place

  takers_inside : (loops : List (List ℕ)) (results : List Decl) (places : List Place)
      → AreDoneInside (length loops) (actions_of (actions_of_takers f loops results places))
  takers_inside loops [] places = refl
  takers_inside loops (result ∷ results) [] = refl
  takers_inside loops (result ∷ results) (place ∷ places) =
      then_inside loops (actions_of_taker f loops result place) (actions_of_takers f loops results places)
      (taker_inside loops result place) (takers_inside loops results places)

  module _ (loops : List (List ℕ)) where
    mutual
      expr_inside : (e : Expr) → AreDoneInside (length loops) (actions_of (expr_checks p f loops e))
      expr_inside (literal l) = refl
      expr_inside (read place delay) = read_inside loops (readable p f place.name) place delay
      expr_inside (negate at x) = expr_inside x
      expr_inside (denied at x) = expr_inside x
      expr_inside (binary at o x y) =
          then_inside loops (expr_checks p f loops x) (expr_checks p f loops y) (expr_inside x) (expr_inside y)
      expr_inside (shift at left x amount) =
          then_inside loops (expr_checks p f loops x) (kept (range_check loops shifts Shift amount)) (expr_inside x)
          (check_inside loops shifts Shift amount)
      expr_inside (cast at ty x) = expr_inside x
      expr_inside (choose at branches last) =
          then_inside loops (branch_checks p f loops branches) (expr_checks p f loops last) (branches_inside branches)
          (expr_inside last)

      branches_inside : (branches : Branches)
          → AreDoneInside (length loops) (actions_of (branch_checks p f loops branches))
      branches_inside no_branch = refl
      branches_inside (branch condition x rest) =
          then_inside loops (expr_checks p f loops condition ++ expr_checks p f loops x) (branch_checks p f loops rest)
          (then_inside loops (expr_checks p f loops condition) (expr_checks p f loops x) (expr_inside condition)
          (expr_inside x)) (branches_inside rest)

    args_inside : (args : List Expr) → AreDoneInside (length loops) (actions_of (arg_checks p f loops args))
    args_inside [] = refl
    args_inside (x ∷ xs) =
        then_inside loops (expr_checks p f loops x) (arg_checks p f loops xs) (expr_inside x) (args_inside xs)

    call_inside : (callee : Option (ℕ × Func)) (places : List Place) (args : List Expr) (at : ℕ)
        → AreDoneInside (length loops) (actions_of (actions_of_call p f loops callee places args at))
    call_inside None places args at = refl
    call_inside (Some q) places args at =
        let load = capped (sum_by weight args) in
        let last = enter q.0 at ∷ [] in
        let takers = actions_of_takers f loops q.1.results places in
        let own = arg_checks p f loops args in
        then_inside loops (takers ++ own ++ actions_of_count load at) last
        (then_inside loops (takers ++ own) (actions_of_count load at)
        (then_inside loops takers own (takers_inside loops q.1.results places) (args_inside args))
        (count_inside loops load at)) refl

  mutual
    item_inside : (loops : List (List ℕ)) (x : Item)
        → AreDoneInside (length loops) (actions_of (actions_of_item p f loops x))
    item_inside loops (equation place x) =
        let target = actions_of_target loops (located f place.name) place in
        let load = actions_of_count (capped (weight x)) place.at in
        then_inside loops (target ++ expr_checks p f loops x) load
        (then_inside loops target (expr_checks p f loops x) (target_inside loops (located f place.name) place)
        (expr_inside loops x)) (count_inside loops (capped (weight x)) place.at)
    item_inside loops (call places name args at) = call_inside loops (callee_of p name) places args at
    item_inside loops (loop index lo hi items at) =
        let all = actions_of_items p f (loops ++ index ∷ []) items in
        loop_inside loops lo hi all at
        (subst (λ n. AreDoneInside n (actions_of all)) (length_more loops index)
        (items_inside (loops ++ index ∷ []) items))
    item_inside loops (initial place amount value) = initial_inside loops (located f place.name) place amount

    -- the items of a function, inside loops with these indices
    pub items_inside : (loops : List (List ℕ)) (items : Items)
        → AreDoneInside (length loops) (actions_of (actions_of_items p f loops items))
    items_inside loops no_item = refl
    items_inside loops (item x rest) =
        then_inside loops (actions_of_item p f loops x) (actions_of_items p f loops rest) (item_inside loops x)
        (items_inside loops rest)
