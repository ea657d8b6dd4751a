-- What is done of actions in a turn: those that do nothing may be left out, and of a loop those that do nothing in
-- its turns.
use Rattle.std.proofs.Common.{◌≡◌, ◌∙◌, ◌+ℤ◌, ℕ, zero, suc, ℤ, pos, List, [], ◌∷◌, ◌++◌, Result, Ok, Err, refl, sym, ap}
use Rattle.std.proofs.Common.{map, take, length, slice_index_or, ◌<◌, ◌≤◌, ◌≤ℤ◌, ◌+◌, ◌-◌, subst, arith}
use Rattle.std.specs.List.{range_with_len}
use Rattle.std.proofs.lemmas.List.{take_more}
use Rattle.element_rules.specs.ElementRules.{count_up}
use Rattle.elaboration_code.specs.Actions.{Action, repeat, actions_of, Walked, State, ◌>>=◌, for_each, count_in}
use Rattle.elaboration_code.specs.Actions.{in_walked, run_action, run_actions, run_turn, run_turns}
use Rattle.elaboration_run.specs.Private.EmptyLoops.{DoSame, Holds, Reaches}
use Rattle.elaboration_run.specs.Private.TurnBlocks.{IsBlock}
use Rattle.elaboration_code.specs.declared.actions.Bound.{Bound}
use Rattle.elaboration_run.specs.declared.lanes.Group.{Group}
use Rattle.element_rules.specs.declared.fault.PlacedFault.{PlacedFault}

abbrev Inside : Type 0
Inside = (func at : ℕ) → List ℤ → Walked → Result Walked PlacedFault

then_ok : (r : Result State PlacedFault) → r >>= (λ s. Ok s) ≡ r
then_ok (Ok s) = refl
then_ok (Err e) = refl

then_then : (r : Result State PlacedFault) (f g : State → Result State PlacedFault)
    → (r >>= f) >>= g ≡ r >>= (λ s. f s >>= g)
then_then (Ok s) f g = refl
then_then (Err e) f g = refl

then_same : (r : Result State PlacedFault) (f g : State → Result State PlacedFault)
    → ((s : State) → f s ≡ g s)
    → r >>= f ≡ r >>= g
then_same (Ok s) f g e = e s
then_same (Err e) f g h = refl

-- one more action, behind the others
one_more : (inside : Inside) (turns : List ℤ) (xs : List Action) (x : Action) (s : State)
    → run_actions inside turns (actions_of (xs ++ x ∷ [])) s
    ≡ run_actions inside turns (actions_of xs) s >>= run_action inside turns x
one_more inside turns [] x s = then_ok (run_action inside turns x s)
one_more inside turns (y ∷ xs) x s =
    then_same (run_action inside turns y s) _ _ (one_more inside turns xs x)
    ∙ sym
    (then_then (run_action inside turns y s) (run_actions inside turns (actions_of xs)) (run_action inside turns x))

module _ (turns : List ℤ) (kept some : List Action) (same : DoSame turns kept some) (x : Action) where
  pub kept_too : (y : Action)
      → ((inside : (func at : ℕ) → List ℤ → Walked → Result Walked PlacedFault) (s : State)
      → run_action inside turns y s ≡ run_action inside turns x s)
      → DoSame turns (kept ++ y ∷ []) (some ++ x ∷ [])
  kept_too y e inside s =
      one_more inside turns kept y s ∙ then_same (run_actions inside turns (actions_of kept) s) _ _ (e inside)
      ∙ ap (λ r. r >>= run_action inside turns x) (same inside s) ∙ sym (one_more inside turns some x s)

  pub left_out :
      ((inside : (func at : ℕ) → List ℤ → Walked → Result Walked PlacedFault) (s : State)
      → run_action inside turns x s ≡ Ok s)
      → DoSame turns kept (some ++ x ∷ [])
  left_out e inside s =
      same inside s
      ∙ sym (one_more inside turns some x s
      ∙ then_same (run_actions inside turns (actions_of some) s) _ _ (e inside)
      ∙ then_ok (run_actions inside turns (actions_of some) s))

within : (first last : ℤ) (k : ℕ) → k < count_up first last → (first +ℤ pos k) ≤ℤ last
within first last k less = grind arith

-- a loop with the ones does what it does with all, if each of its turns does
module _ (inside : Inside) (turns : List ℤ) (at : ℕ) (first last : ℤ) (kept all : List Action)
    (same : (j : ℕ) → (first +ℤ pos j) ≤ℤ last → DoSame (turns ++ (first +ℤ pos j) ∷ []) kept all) where
  abbrev turn : List Action → ℕ → State → Result State PlacedFault
  turn xs k = run_turn inside turns (actions_of xs) at (first +ℤ pos k)

  each_same : (n a : ℕ)
      → a + n ≤ count_up first last
      → (s : State)
      → for_each (turn kept) (range_with_len a n) s ≡ for_each (turn all) (range_with_len a n) s
  each_same zero a le s = refl
  each_same (suc n) a le s =
      ap (λ r. r >>= for_each (turn kept) (range_with_len (a + 1) n))
      (then_same (in_walked s (count_in 1 at)) _ _ (same a (within first last a (omega arith)) inside))
      ∙ then_same (turn all a s) _ _ (each_same n (a + 1) (omega arith))

  turns_same : (s : State)
      → run_turns inside turns (actions_of kept) at first last s
      ≡ run_turns inside turns (actions_of all) at first last s
  turns_same s = each_same (count_up first last) 0 (omega arith) s

module _ (outer : List ℤ) (groups : List Group) (lo hi : Bound) (at : ℕ) (turns : List ℤ)
    (reached : Reaches outer groups lo.number hi.number turns) where
  pub loop_same : (kept all : List Action)
      → ((ts : List ℤ) → Holds outer groups ts → DoSame ts kept all)
      → (inside : (func at : ℕ) → List ℤ → Walked → Result Walked PlacedFault) (s : State)
      → run_action inside turns (repeat lo hi (actions_of kept) at) s
      ≡ run_action inside turns (repeat lo hi (actions_of all) at) s
  loop_same kept all same inside s =
      let (first, last, from, to, each) = reached in
      rw (from, to) (turns_same inside turns at first last kept all (λ j inside. same _ (each j inside)) s)

  no_turns : (n : ℕ) (inside : Inside) (all : List Action) (first : ℤ) (s : State)
      → n ≡ 0
      → for_each (λ k. run_turn inside turns (actions_of all) at (first +ℤ pos k)) (range_with_len 0 n) s ≡ Ok s
  no_turns zero inside all first s e = refl
  no_turns (suc n) inside all first s e = absurd (omega arith)

  pub loop_idle : (all : List Action)
      → ((ts : List ℤ) → Holds outer groups ts → ⊥)
      → (inside : (func at : ℕ) → List ℤ → Walked → Result Walked PlacedFault) (s : State)
      → run_action inside turns (repeat lo hi (actions_of all) at) s ≡ Ok s
  loop_idle all empty inside s =
      let (first, last, from, to, each) = reached in
      rw (from, to) (no_turns (count_up first last) inside all first s (none first last each))
    where
      none : (first last : ℤ)
          → ((j : ℕ) → (first +ℤ pos j) ≤ℤ last → Holds outer groups (turns ++ (first +ℤ pos j) ∷ []))
          → count_up first last ≡ 0
      none first last each = by (count_up first last) refl
        where
          by : (n : ℕ) → count_up first last ≡ n → count_up first last ≡ 0
          by zero e = e
          by (suc n) e = absurd (empty _ (each 0 (within first last 0 (omega arith))))

pub with_next : {A : Type 0} (xs : List A) (i : ℕ) (x : A)
    → i < length xs
    → x ≡ slice_index_or xs i x
    → take (i + 1) xs ≡ take i xs ++ x ∷ []
with_next xs i x lt is = take_more xs i x lt ∙ ap (λ y. take i xs ++ y ∷ []) (sym is)

module _ {A B : Type 0} (f : A → B) where
  pub mapped_more : (xs : List A) (x : A) → map f (xs ++ x ∷ []) ≡ map f xs ++ f x ∷ []
  mapped_more [] x = refl
  mapped_more (y ∷ xs) x = ap (λ l. f y ∷ l) (mapped_more xs x)

  pub taken_more : (xs : List A) (i : ℕ) (x : A)
      → i < length xs
      → x ≡ slice_index_or xs i x
      → map f (take (i + 1) xs) ≡ map f (take i xs) ++ f x ∷ []
  taken_more xs i x lt is = ap (map f) (with_next xs i x lt is) ∙ mapped_more (take i xs) x

-- turns counted from the turn k, and from the first one
pub later : (outer : List ℤ) (first last turn : ℤ) (k until : ℕ) (kept all : List Action)
    → turn ≡ first +ℤ pos k
    → ((j : ℕ) → k + j < until → (turn +ℤ pos j) ≤ℤ last → DoSame (outer ++ (turn +ℤ pos j) ∷ []) kept all)
    → IsBlock outer first last k until kept all
later outer first last turn k until kept all is h j from before inside =
    let same : turn +ℤ pos (j - k) ≡ first +ℤ pos j = grind arith in
    subst (λ (z : ℤ). DoSame (outer ++ z ∷ []) kept all) same
    (h (j - k) (omega arith) (subst (λ (z : ℤ). z ≤ℤ last) (sym same) inside))

-- a turn with the ones is the turn with all
pub turn_same :
    (inside : (func at : ℕ) → List ℤ → Walked → Result Walked PlacedFault) (outer : List ℤ) (at : ℕ)
    (first last turn : ℤ) (k until : ℕ) (kept all : List Action)
    → turn ≡ first +ℤ pos k
    → IsBlock outer first last k until kept all
    → k < until
    → k < count_up first last
    → (s : State)
    → run_turn inside outer (actions_of all) at (first +ℤ pos k) s ≡ run_turn inside outer (actions_of kept) at turn s
turn_same inside outer at first last turn k until kept all is block more less s =
    sym (then_same (in_walked s (count_in 1 at)) _ _ (block k (omega arith) more (within first last k less) inside))
    ∙ ap (λ z. run_turn inside outer (actions_of kept) at z s) (sym is)

pub block_after : (outer : List ℤ) (first last : ℤ) (k until : ℕ) (kept all : List Action)
    → IsBlock outer first last k until kept all
    → IsBlock outer first last (k + 1) until kept all
block_after outer first last k until kept all block j from = block j (omega arith)
