-- What holds of all items that occur in a function, by their turns, holds of the items of its groups in theirs.
use Rattle.std.proofs.Common.{◌≡◌, ◌<◌, ◌+◌, refl, subst, ap, arith, ℕ, zero, suc, ◌++◌, inl, inr, List, [], ◌∷◌, map}
use Rattle.std.proofs.Common.{slice_get, Some}
use Rattle.std.specs.List.{range_with_len}
use Rattle.lists.proofs.Places.{some_once}
use Rattle.silage_syntax.specs.Tree.{Manifest, Item, equation, call, loop, initial, Items, no_item, item, Func, Program}
use Rattle.silage_syntax.specs.Manifests.{Indices}
use Rattle.silage_meaning.specs.Instances.{Occurs, OccursIn}
use Rattle.element_rules.proofs.LoopTurns.{among_turn}
use Rattle.type_rules.specs.Translation.{typed_item, typed_items}
use Rattle.type_rules.specs.TypedTree as typed
use Rattle.loop_expand.specs.declared.columns.Turns.{Turns}
use Rattle.loop_expand.specs.Private.Turns.{indices_at, view_turns, turns_within}
use Rattle.loop_expand.specs.Private.Groups.{Group, plain_items, grouped, loop_groups, loops_groups, groups_of}
use Rattle.loop_expand.proofs.ProgramFacts.{IsIn, of_within}
use Rattle.loop_expand.proofs.TurnRows.{at_either}

at_in : (xs : List Indices) (j : ℕ) (x : Indices) → slice_get xs j ≡ Some x → IsIn x xs
at_in [] j x e = absurd (cc e)
at_in (y ∷ xs) zero x e = inl (some_once e refl)
at_in (y ∷ xs) (suc j) x e = inr (at_in xs j x e)

module _ (p : Program) (f : Func) (P : Indices → typed.TypedItem → Type 0) where
  abbrev pub HoldsIn : Group → Type 0
  HoldsIn g =
      (j k : ℕ) (indices : Indices) (y : typed.TypedItem)
      → slice_get g.turns j ≡ Some indices
      → slice_get g.items k ≡ Some y
      → P indices y

  abbrev pub Holds : List Group → Type 0
  Holds groups = (i : ℕ) (g : Group) → slice_get groups i ≡ Some g → HoldsIn g

  abbrev Within : Items → Indices → Type 0
  Within ys outer = (x : Item) (indices : Indices) → Occurs ys outer x indices → P indices (typed_item p f x)

  abbrev AllWithin : Items → List Indices → Type 0
  AllWithin ys turns = (outer : Indices) → IsIn outer turns → Within ys outer

  abbrev AllIn : Item → List Indices → Type 0
  AllIn y turns =
      (outer : Indices)
      → IsIn outer turns
      → (x : Item) (indices : Indices)
      → OccursIn y outer x indices
      → P indices (typed_item p f x)

  one_holds : (own : typed.TypedItem) (rest : List typed.TypedItem) (outer : Indices)
      → P outer own
      → ((k : ℕ) (y : typed.TypedItem) → slice_get rest k ≡ Some y → P outer y)
      → (k : ℕ) (y : typed.TypedItem)
      → slice_get (own ∷ rest) k ≡ Some y
      → P outer y
  one_holds own rest outer h all zero y e = subst (P outer) (some_once refl e) h
  one_holds own rest outer h all (suc k) y e = all k y e

  plain_hold : (ys : Items) (outer : Indices)
      → Within ys outer
      → (k : ℕ) (y : typed.TypedItem)
      → slice_get (plain_items (typed_items p f ys)) k ≡ Some y
      → P outer y
  plain_hold no_item outer all k y e = absurd (cc e)
  plain_hold (item (equation place v) rest) outer all k y e =
      one_holds _ _ outer (all _ _ (inl (refl, refl))) (plain_hold rest outer (λ x indices o. all x indices (inr o))) k
      y e
  plain_hold (item (call places n args a) rest) outer all k y e =
      one_holds _ _ outer (all _ _ (inl (refl, refl))) (plain_hold rest outer (λ x indices o. all x indices (inr o))) k
      y e
  plain_hold (item (initial place amount l) rest) outer all k y e =
      one_holds _ _ outer (all _ _ (inl (refl, refl))) (plain_hold rest outer (λ x indices o. all x indices (inr o))) k
      y e
  plain_hold (item (loop index lo hi items a) rest) outer all k y e =
      plain_hold rest outer (λ x indices o. all x indices (inr o)) k y e

  both_hold : (gs hs : List Group) → Holds gs → Holds hs → Holds (gs ++ hs)
  both_hold gs hs a b i g at = elim (at_either gs hs i g at) [ inl (j, h) ↦ a j g h | inr (j, h) ↦ b j g h ]

  own_hold : (ys : Items) (turns : List Indices)
      → AllWithin ys turns
      → Holds (record { turns = turns; items = plain_items (typed_items p f ys) } ∷ [])
  own_hold ys turns all zero g at =
      subst HoldsIn (some_once refl at)
      (λ j k indices y turn e. plain_hold ys indices (all indices (at_in turns j indices turn)) k y e)
  own_hold ys turns all (suc i) g at = absurd (cc at)

  none_hold : Holds []
  none_hold i g at = absurd (cc at)

  grouped_hold : (ys : Items) (turns : List Indices) (loops : List Group)
      → AllWithin ys turns
      → Holds loops
      → Holds (grouped turns (typed_items p f ys) loops)
  grouped_hold ys [] loops all h = none_hold
  grouped_hold ys (t ∷ turns) loops all h =
      both_hold loops (record { turns = t ∷ turns; items = plain_items (typed_items p f ys) } ∷ []) h
      (own_hold ys (t ∷ turns) all)

  inner_within : (items : Items) (index : List ℕ) (lo hi : Manifest) (a : ℕ) (turns : List Indices)
      → AllIn (loop index lo hi items a) turns
      → AllWithin items (turns_within turns index lo hi)
  inner_within items index lo hi a turns all inner h x indices o =
      let w = of_within index lo hi turns inner h in
      all w.outer w.there x indices
      (w.turn, among_turn w.outer lo hi w.turn w.among, subst (λ (z : Indices). Occurs items z x indices) w.is o)

  mutual
    loop_holds : (y : Item) (turns : List Indices) → AllIn y turns → Holds (loop_groups turns (typed_item p f y))
    loop_holds (equation place x) turns all = none_hold
    loop_holds (call places n args a) turns all = none_hold
    loop_holds (initial place amount l) turns all = none_hold
    loop_holds (loop index lo hi items a) turns all =
        let sub = inner_within items index lo hi a turns all in
        grouped_hold items (turns_within turns index lo hi)
        (loops_groups (turns_within turns index lo hi) (typed_items p f items)) sub
        (loops_hold items (turns_within turns index lo hi) sub)

    loops_hold : (ys : Items) (turns : List Indices)
        → AllWithin ys turns
        → Holds (loops_groups turns (typed_items p f ys))
    loops_hold no_item turns all = none_hold
    loops_hold (item y rest) turns all =
        both_hold (loop_groups turns (typed_item p f y)) (loops_groups turns (typed_items p f rest))
        (loop_holds y turns (λ outer h x indices o. all outer h x indices (inl o)))
        (loops_hold rest turns (λ outer h x indices o. all outer h x indices (inr o)))

  pub groups_hold : Within f.items [] → Holds (groups_of (typed_items p f f.items))
  groups_hold all =
      grouped_hold f.items ([] ∷ []) (loops_groups ([] ∷ []) (typed_items p f f.items)) outside
      (loops_hold f.items ([] ∷ []) outside)
    where
      outside : AllWithin f.items ([] ∷ [])
      outside outer (inl e) x indices o = all x indices (subst (λ (z : Indices). Occurs f.items z x indices) e o)
      outside outer (inr h) x indices o = absurd h

-- the turn with a number
pub turn_there : (turns : Turns) (k : ℕ) → k < turns.count → slice_get (view_turns turns) k ≡ Some (indices_at turns k)
turn_there turns k less =
    let same : 0 + k ≡ k = omega arith in
    subst (λ m. slice_get (view_turns turns) k ≡ Some (indices_at turns m)) same
    (by (indices_at turns) 0 turns.count k less)
  where
    by : (F : ℕ → Indices) (a n k : ℕ) → k < n → slice_get (map F (range_with_len a n)) k ≡ Some (F (a + k))
    by F a zero k less = absurd (omega arith)
    by F a (suc n) zero less = ap (λ m. Some (F m)) (omega arith)
    by F a (suc n) (suc k) less =
        let next : a + 1 + k ≡ a + suc k = omega arith in
        subst (λ m. slice_get (map F (range_with_len (a + 1) n)) k ≡ Some (F m)) next (by F (a + 1) n k (omega arith))
