-- The load never falls, and what is counted is at most the most load.
use Rattle.std.proofs.Common.{if◌then◌else◌, ◌≡◌, ◌∙◌, ◌<◌, drop, get_or, ◌≤◌, ◌+◌, ℕ, zero, suc, ℤ, pos, ◌+ℤ◌, List}
use Rattle.std.proofs.Common.{[], ◌∷◌, ◌++◌, length, map, Option, Some, None, Bool, true, false, Result, Ok, Err}
use Rattle.std.proofs.Common.{nat_le, refl, sym, ap, arith}
use Rattle.std.specs.List.{range_with_len}
use Rattle.std.proofs.lemmas.Bool.{leb-true}
use Rattle.std.proofs.lemmas.List.{drop_more}
use Rattle.element_rules.specs.Tables.{max_load}
use Rattle.element_rules.specs.ElementRules.{count_up}
use Rattle.element_rules.specs.declared.fault.PlacedFault.{PlacedFault}
use Rattle.element_rules.specs.declared.fault.PlacedFault.TheVariants.{TooLarge}
use Rattle.elaboration_run.specs.declared.instances.Inside.{Inside}
use Rattle.elaboration_run.specs.Private.Functions.{view_of_top}
use Rattle.elaboration_run.specs.Private.States.{made_in}
use Rattle.elaboration_run.specs.Private.Parts.{view_part}
use Rattle.elaboration_run.specs.declared.parts.Part.{Part}
use Rattle.elaboration_code.specs.Actions.{HasMeaning, Action, check, define, define_all, preset, count, enter, repeat}
use Rattle.elaboration_code.specs.Actions.{Actions, no_action, action, Body, Definitions, Walked, State, Instances}
use Rattle.elaboration_code.specs.Actions.{for_each, ◌>>=◌}
use Rattle.elaboration_code.specs.Actions.{actions_of, count_in, in_definitions, in_walked, check_of, bound_of}
use Rattle.elaboration_code.specs.Actions.{element_of, sample_of, define_at, define_from, preset_at, run_action}
use Rattle.elaboration_code.specs.Actions.{run_actions, run_turn, entered_in, at_first, all_defined, run_body, run_some}
use Rattle.elaboration_code.specs.Actions.{function_at, run_instance}

-- what both steps come to, where they come to something
record Through {A B : Type 0} (r : Result A PlacedFault) (f : A → Result B PlacedFault) (t : B) : Type 0 where
  middle : A
  first : r ≡ Ok middle
  rest : f middle ≡ Ok t

through : {A B : Type 0} (r : Result A PlacedFault) (f : A → Result B PlacedFault) (t : B)
    → r >>= f ≡ Ok t
    → Through r f t
through (Ok a) f t e = record { middle = a; first = refl; rest = e }
through (Err fault) f t e = absurd (cc e)

ok_same : {A : Type 0} (a b : A) → (let r : Result A PlacedFault = Ok a in r ≡ Ok b) → a ≡ b
ok_same a b e = cc e

-- it adds to the load, or leaves it
abbrev pub Adds : {S : Type 0} → (S → ℕ) → (S → Result S PlacedFault) → Type 0
Adds load f = (s t : _) → f s ≡ Ok t → load s ≤ load t

each_adds : {A S : Type 0} (load : S → ℕ) (f : A → S → Result S PlacedFault)
    → ((x : A) → Adds load (f x))
    → (xs : List A)
    → Adds load (for_each f xs)
each_adds load f adds [] s t e = let same = ap load (ok_same s t e) in omega (arith, same)
each_adds load f adds (x ∷ xs) s t e =
    let h = through (f x s) (for_each f xs) t e in
    let one = adds x s h.middle h.first in
    let rest = each_adds load f adds xs h.middle t h.rest in
    omega (arith, one, rest)

abbrev loaded : State → ℕ
loaded s = s.walked.load

abbrev load_in : Walked → ℕ
load_in walked = walked.load

known_adds : (f : Definitions → Result Definitions PlacedFault) → Adds loaded (λ s. in_definitions s f)
known_adds f s t e =
    let h = through (f s.definitions) _ t e in
    let same = ap loaded (ok_same _ t h.rest) in
    omega (arith, same)

found_adds : (f : Walked → Result Walked PlacedFault) → Adds load_in f → Adds loaded (λ s. in_walked s f)
found_adds f adds s t e =
    let h = through (f s.walked) _ t e in
    let same = ap loaded (ok_same _ t h.rest) in
    let more = adds s.walked h.middle h.first in
    omega (arith, same, more)

-- a load that is counted is added, and fits
pub record IsCounted (load : ℕ) (s t : Walked) : Type 0 where
  pub sum : t.load ≡ s.load + load
  pub fits : t.load ≤ max_load

pub counted : (load at : ℕ) (s t : Walked) → count_in load at s ≡ Ok t → IsCounted load s t
counted load at s t e = by (nat_le (s.load + load) max_load) refl e
  where
    by : (b : Bool)
        → nat_le (s.load + load) max_load ≡ b
        → (let r : Result Walked PlacedFault =
        if b then Ok (record s { load = s.load + load }) else Err (TooLarge at) in
        r ≡ Ok t)
        → IsCounted load s t
    by true fits e =
        let same = ap load_in (ok_same _ t e) in
        let most = leb-true (s.load + load) max_load fits in
        record { sum = sym same; fits = omega (arith, most, same) }
    by false fits e = absurd (cc e)

count_adds : (load at : ℕ) → Adds load_in (count_in load at)
count_adds load at s t e = let h = counted load at s t e in let sum = h.sum in omega (arith, sum)

module _ (inside : (func at : ℕ) → List ℤ → Walked → Result Walked PlacedFault)
    (adds : (func at : ℕ) (turns : List ℤ) → Adds load_in (inside func at turns)) where
  mutual
    pub action_adds : (turns : List ℤ) (x : Action) → Adds loaded (run_action inside turns x)
    action_adds turns (check c) s t e =
        let h = through (check_of turns c) _ t e in
        let same = ap loaded (ok_same s t h.rest) in
        omega (arith, same)
    action_adds turns (define first subs at) s t e =
        let h = through (element_of turns first subs) _ t e in
        known_adds (define_at h.middle at) s t h.rest
    action_adds turns (define_all first n at) s t e = known_adds (define_from first n at) s t e
    action_adds turns (preset first subs sample at) s t e =
        let h = through (element_of turns first subs) _ t e in
        let before = through (sample_of turns sample) _ t h.rest in
        known_adds (preset_at h.middle before.middle at) s t before.rest
    action_adds turns (count load at) s t e = found_adds (count_in load at) (count_adds load at) s t e
    action_adds turns (enter func at) s t e = found_adds (inside func at turns) (adds func at turns) s t e
    action_adds turns (repeat lo hi actions at) s t e =
        let low = through (bound_of turns lo) _ t e in
        let high = through (bound_of turns hi) _ t low.rest in
        each_adds loaded
        (λ k s. in_walked s (count_in 1 at) >>= run_actions inside (turns ++ (low.middle +ℤ pos k) ∷ []) actions)
        (λ k s t e.
        let h = through (in_walked s (count_in 1 at)) _ t e in
        let one = found_adds (count_in 1 at) (count_adds 1 at) s h.middle h.first in
        let rest = actions_adds (turns ++ (low.middle +ℤ pos k) ∷ []) actions h.middle t h.rest in
        omega (arith, one, rest))
        (range_with_len 0 (count_up low.middle high.middle)) s t high.rest

    pub actions_adds : (turns : List ℤ) (xs : Actions) → Adds loaded (run_actions inside turns xs)
    actions_adds turns no_action s t e = let same = ap loaded (ok_same s t e) in omega (arith, same)
    actions_adds turns (action x xs) s t e =
        let h = through (run_action inside turns x s) _ t e in
        let one = action_adds turns x s h.middle h.first in
        let rest = actions_adds turns xs h.middle t h.rest in
        omega (arith, one, rest)

  pub turn_adds : (turns : List ℤ) (actions : Actions) (at : ℕ) (turn : ℤ)
      → Adds loaded (run_turn inside turns actions at turn)
  turn_adds turns actions at turn s t e =
      let h = through (in_walked s (count_in 1 at)) _ t e in
      let one = found_adds (count_in 1 at) (count_adds 1 at) s h.middle h.first in
      let rest = actions_adds (turns ++ turn ∷ []) actions h.middle t h.rest in
      omega (arith, one, rest)

-- entering an instance counts its elements
pub entered_adds : (body : Body) (func parent at : ℕ) (turns : List ℤ)
    → Adds load_in (entered_in body func parent at turns)
entered_adds body func parent at turns s t e =
    let h = through (count_in body.count body.at s) _ t e in
    let same = ap load_in (ok_same _ t h.rest) in
    let sum = (counted body.count body.at s h.middle h.first).sum in
    omega (arith, same, sum)

abbrev AllAdd : Instances → Type 0
AllAdd inside = (parent func at : ℕ) (turns : List ℤ) → Adds load_in (inside parent func at turns)

body_adds : (inside : Instances)
    → AllAdd inside
    → (body : Body) (func parent at : ℕ) (turns : List ℤ)
    → Adds load_in (run_body inside body func parent at turns)
body_adds inside adds body func parent at turns s t e =
    let entered = through (entered_in body func parent at turns s) _ t e in
    let begun : State = record { definitions = at_first body.given; walked = entered.middle } in
    let ran = through (run_actions (inside (length s.instances)) [] body.actions begun) _ t entered.rest in
    let ended = through (all_defined ran.middle.definitions body.signals) _ t ran.rest in
    let one = entered_adds body func parent at turns s entered.middle entered.first in
    let rest =
    actions_adds (inside (length s.instances)) (adds (length s.instances)) [] body.actions begun ran.middle
    ran.first in
    let same = ap load_in (ok_same ran.middle.walked t ended.rest) in
    omega (arith, one, rest, same)

some_adds : (calls : ℕ) (inside : Instances)
    → AllAdd inside
    → (o : Option Body) (func parent at : ℕ) (turns : List ℤ)
    → Adds load_in (run_some calls inside o func parent at turns)
some_adds calls inside adds None func parent at turns s t e = absurd (cc e)
some_adds zero inside adds (Some body) func parent at turns s t e = absurd (cc e)
some_adds (suc calls) inside adds (Some body) func parent at turns s t e =
    body_adds inside adds body func parent at turns s t e

-- an instance adds to the load, or leaves it
pub instances_add : (functions : List (Option Body)) (calls : ℕ) → AllAdd (run_instance functions calls)
instances_add functions zero parent func at turns s t e =
    some_adds zero (λ parent func at turns walked. Ok walked)
    (λ parent func at turns s t e. let same = ap load_in (ok_same s t e) in omega (arith, same))
    (function_at functions func) func parent at turns s t e
instances_add functions (suc calls) parent func at turns s t e =
    some_adds (suc calls) (run_instance functions calls) (instances_add functions calls) (function_at functions func)
    func parent at turns s t e

-- what an instance does that a call makes here
pub made_adds : (inside : Inside) (func at : ℕ) (turns : List ℤ) → Adds load_in (made_in inside func at turns)
made_adds inside func at turns =
    instances_add (map view_of_top inside.functions.now) inside.calls inside.number func at turns

pub next_load : (inside : Inside) (turns : List ℤ) (actions : Actions) (at : ℕ) (turn : ℤ) (first : ℕ) (s t : State)
    → first ≤ s.walked.load
    → run_turn (made_in inside) turns actions at turn s ≡ Ok t
    → first ≤ t.walked.load
next_load inside turns actions at turn first s t less ran =
    let more = turn_adds (made_in inside) (made_adds inside) turns actions at turn s t ran in
    omega (arith, less, more)

-- one part more is done
module _ (inside : Inside) (turns : List ℤ) (parts : List Part) (i : ℕ) (part : Part) (within : i < length parts)
    (is : part ≡ get_or parts i part) (s t : State)
    (ran : run_action (made_in inside) turns (view_part part) s ≡ Ok t) where
  pub part_done : (all : Result State PlacedFault)
      → run_actions (made_in inside) turns (actions_of (map view_part (drop i parts))) s ≡ all
      → run_actions (made_in inside) turns (actions_of (map view_part (drop (i + 1) parts))) t ≡ all
  part_done all so_far =
      let here : drop i parts ≡ part ∷ drop (i + 1) parts =
      drop_more parts i part within ∙ ap (λ (x : Part). x ∷ drop (i + 1) parts) (sym is) in
      let rest : State → Result State PlacedFault = λ s.
      run_actions (made_in inside) turns (actions_of (map view_part (drop (i + 1) parts))) s in
      sym (ap (λ (xs : List Part). run_actions (made_in inside) turns (actions_of (map view_part xs)) s) here
      ∙ ap (λ r. r >>= rest) ran) ∙ so_far

  pub part_load : (first : ℕ) → first ≤ s.walked.load → first ≤ t.walked.load
  part_load first less =
      let more = action_adds (made_in inside) (made_adds inside) turns (view_part part) s t ran in
      omega (arith, less, more)

-- where the parts that are left have a meaning, the next one has
pub part_meant : (inside : Inside) (turns : List ℤ) (parts : List Part) (i : ℕ) (part : Part)
    → i < length parts
    → part ≡ get_or parts i part
    → (s : State) (all : Result State PlacedFault)
    → run_actions (made_in inside) turns (actions_of (map view_part (drop i parts))) s ≡ all
    → HasMeaning all
    → HasMeaning (run_action (made_in inside) turns (view_part part) s)
part_meant inside turns parts i part within is s all so_far meaning e =
    let here : drop i parts ≡ part ∷ drop (i + 1) parts =
    drop_more parts i part within ∙ ap (λ (x : Part). x ∷ drop (i + 1) parts) (sym is) in
    let rest : State → Result State PlacedFault = λ s.
    run_actions (made_in inside) turns (actions_of (map view_part (drop (i + 1) parts))) s in
    meaning (sym so_far
    ∙ ap (λ (xs : List Part). run_actions (made_in inside) turns (actions_of (map view_part xs)) s) here
    ∙ ap (λ r. r >>= rest) e)
