-- What is done of actions is inside the loops that these are inside.
use Rattle.std.proofs.Common.{◌≡◌, ◌∙◌, ◌<◌, ◌+◌, ◌++◌, ◌&&◌, ℕ, zero, suc, List, Vec, Bor, [], ◌∷◌, map, length}
use Rattle.std.proofs.Common.{slice_index_or, true, refl, sym, ap, subst, arith}
use Rattle.std.specs.Global.{Global}
use Rattle.std.proofs.lemmas.Bool.{and_from as join}
use Rattle.lists.proofs.Bools.{both_true as split}
use Rattle.elaboration_code.specs.declared.actions.Action.{Action as RustAction, Repeat}
use Rattle.elaboration_code.specs.declared.actions.Bound.{Bound}
use Rattle.elaboration_run.specs.declared.parts.Part.{Part, Loop}
use Rattle.elaboration_code.specs.Actions.{Action, repeat, actions_of, view_action, view_actions}
use Rattle.elaboration_run.specs.Private.Parts.{view_part}
use Rattle.elaboration_code.specs.Loops.{IsInside, IsDoneInside, AreDoneInside, is_inside, is_done_inside}
use Rattle.elaboration_code.specs.Loops.{are_done_inside}
use Rattle.elaboration_code.proofs.ActionRows.{view_Repeat}
use Rattle.elaboration_code.proofs.InsideActions.{AllInside, inside_append}
use Rattle.elaboration_run.proofs.PartRows.{view_Loop}

module _ (loops : ℕ) where
  pub each_inside : {A : Type 0} (f : A → Action) (xs : List A) (i : ℕ) (x : A)
      → i < length xs
      → x ≡ slice_index_or xs i x
      → AllInside loops (map f xs)
      → IsDoneInside loops (f x)
  each_inside f [] i x less is h = absurd (omega arith)
  each_inside f (y ∷ xs) zero x less is h =
      subst (λ x. IsDoneInside loops (f x)) (sym is)
      (split (is_done_inside loops (f y)) (are_done_inside loops (actions_of (map f xs))) h).0
  each_inside f (y ∷ xs) (suc i) x less is h =
      each_inside f xs i x (omega arith) is
      (split (is_done_inside loops (f y)) (are_done_inside loops (actions_of (map f xs))) h).1

  -- what is known of a loop is known of its actions, and of its parts
  pub actions_inside : (x : RustAction) (lo hi : Bound) (v : Vec RustAction Global) (at : ℕ)
      → x ≡ Repeat lo hi v at
      → (xs : List RustAction)
      → xs ≡ v.items
      → IsDoneInside loops (view_action x)
      → IsDoneInside loops (repeat lo hi (view_actions xs) at)
  actions_inside x lo hi v at is xs same h =
      subst (IsDoneInside loops)
      (ap view_action is ∙ view_Repeat lo hi v at ∙ ap (λ xs. repeat lo hi (view_actions xs) at) (sym same)) h

  pub parts_inside : (x : Part) (lo hi : Bor Bound) (v : Vec Part Global) (at : ℕ)
      → x ≡ Loop lo hi v at
      → (xs : List Part)
      → xs ≡ v.items
      → IsDoneInside loops (view_part x)
      → IsDoneInside loops (repeat lo.now hi.now (actions_of (map view_part xs)) at)
  parts_inside x lo hi v at is xs same h =
      subst (IsDoneInside loops)
      (ap view_part is ∙ view_Loop lo hi v at
      ∙ ap (λ xs. repeat lo.now hi.now (actions_of (map view_part xs)) at) (sym same))
      h

module _ (loops : ℕ) where
  pub one_more_inside : (xs new : List Action) (x : Action)
      → new ≡ xs ++ x ∷ []
      → IsDoneInside loops x
      → AllInside loops xs
      → AllInside loops new
  one_more_inside xs new x is one h =
      subst (λ xs. AllInside loops xs) (sym is)
      (inside_append loops xs (x ∷ []) h (join (is_done_inside loops x) true one refl))

  module _ (lo hi : Bound) (at : ℕ) (all : List Action)
      (h : IsDoneInside loops (repeat lo hi (actions_of all) at)) where
    two : (is_inside loops hi.number && are_done_inside (loops + 1) (actions_of all)) ≡ true
    two =
        (split (is_inside loops lo.number) (is_inside loops hi.number && are_done_inside (loops + 1) (actions_of all))
        h).1

    pub lo_inside : IsInside loops lo.number
    lo_inside =
        (split (is_inside loops lo.number) (is_inside loops hi.number && are_done_inside (loops + 1) (actions_of all))
        h).0

    pub hi_inside : IsInside loops hi.number
    hi_inside = (split (is_inside loops hi.number) (are_done_inside (loops + 1) (actions_of all)) two).0

    pub all_inside : AreDoneInside (loops + 1) (actions_of all)
    all_inside = (split (is_inside loops hi.number) (are_done_inside (loops + 1) (actions_of all)) two).1

    -- the loop with other actions
    pub others_inside : (kept : List Action)
        → AreDoneInside (loops + 1) (actions_of kept)
        → IsDoneInside loops (repeat lo hi (actions_of kept) at)
    others_inside kept inner = join _ _ lo_inside (join _ _ hi_inside inner)
