-- Which turns groups have.
use Rattle.std.proofs.Common.{◌≡◌, ◌∙◌, ◌<◌, ◌+◌, ◌+ℤ◌, ◌≤ℤ◌, ◌⊎◌, inl, inr, ℕ, ℤ, pos, List, [], ◌∷◌, ◌++◌, length}
use Rattle.std.proofs.Common.{Bool, Some, Result, Ok, Err, IfOk, IsTrue, sym, ap, subst, append_assoc, arith}
use Rattle.std.proofs.lemmas.Bool.Decides.{eqb_tells}
use Rattle.elaboration_run.specs.declared.lanes.Group.{Group}
use Rattle.elaboration_run.specs.declared.lanes.Lanes.{Lanes}
use Rattle.elaboration_code.specs.declared.numbers.Number.{Number}
use Rattle.elaboration_code.specs.Numbers.{number_value}
use Rattle.elaboration_run.specs.Private.Lanes.{at, column, turns_at}
use Rattle.elaboration_run.specs.Private.EmptyLoops.{IsIn, Holds, Keeps, IsMore, Reaches}

module _ (outer turns : List ℤ) where
  pub in_front : (groups : List Group) (g : Group) → Holds outer groups turns → Holds outer (groups ++ g ∷ []) turns
  in_front [] g h = absurd h
  in_front (x ∷ groups) g (inl h) = inl h
  in_front (x ∷ groups) g (inr h) = inr (in_front groups g h)

  pub at_last : (groups : List Group) (g : Group) → IsIn outer g turns → Holds outer (groups ++ g ∷ []) turns
  at_last [] g h = inl h
  at_last (x ∷ groups) g h = inr (at_last groups g h)

  pub front_or_last : (groups : List Group) (g : Group)
      → Holds outer (groups ++ g ∷ []) turns
      → Holds outer groups turns ⊎ IsIn outer g turns
  front_or_last [] g (inl h) = inr h
  front_or_last [] g (inr h) = absurd h
  front_or_last (x ∷ groups) g (inl h) = inl (inl h)
  front_or_last (x ∷ groups) g (inr h) =
      elim (front_or_last groups g h) [ inl before ↦ inl (inr before) | inr last ↦ inr last ]

  pub held_by_none : (groups : List Group) → length groups ≡ 0 → Holds outer groups turns → ⊥
  held_by_none [] e h = h
  held_by_none (g ∷ groups) e h = absurd (omega (arith, e))

-- a group without its last turn, and then with it
pub one_turn_more : (old rest new : List Group) (last g : Group) (turn : List ℤ)
    → ((outer turns : List ℤ) → Holds outer old turns → Holds outer rest turns ⊎ IsIn outer last turns)
    → new ≡ rest ++ g ∷ []
    → g.count ≡ last.count + 1
    → ((k : ℕ) → k < last.count → column g.rows k ≡ column last.rows k)
    → column g.rows last.count ≡ turn
    → (outer : List ℤ)
    → IsMore outer old new (outer ++ turn)
one_turn_more old rest new last g turn split items count before here outer =
    let all = λ (ts : List ℤ) (h : Holds outer (rest ++ g ∷ []) ts).
    subst (λ (groups : List Group). Holds outer groups ts) (sym items) h in (
      λ ts h. all ts (elim (split outer ts h) [
        | inl held ↦ in_front outer ts rest g held
        | inr in_last ↦
            let (k, less, is) = in_last in
            at_last outer ts rest g (k, omega (arith, less, count), ap (λ xs. outer ++ xs) (before k less) ∙ is)
      ]),
      all (outer ++ turn)
          (at_last outer (outer ++ turn) rest g (last.count, omega (arith, count), ap (λ xs. outer ++ xs) here)),
    )

-- The first turns of a loop in the lane k are among those that the groups have.
module _ (l : Lanes) (first last : ℤ) (k : ℕ) where
  abbrev pub HasFirst : (old now : List Group) → (j : ℕ) → Type 0
  HasFirst old now j =
      Keeps l.outer.now old now
      × ((i : ℕ) → i < j → (first +ℤ pos i) ≤ℤ last → Holds l.outer.now now (turns_at l k ++ (first +ℤ pos i) ∷ []))

  pub has_more : (old now new : List Group) (j : ℕ) (turn : List ℤ)
      → IsMore l.outer.now now new (l.outer.now ++ turn)
      → turn ≡ column l.inner.now k ++ (first +ℤ pos j) ∷ []
      → HasFirst old now j
      → HasFirst old new (j + 1)
  has_more old now new j turn more is so_far = (
    λ ts h. more.0 ts (so_far.0 ts h),
    λ i less inside. elim (eqb_tells i j) [
      | inl at_j ↦
          subst (λ (ts : List ℤ). Holds l.outer.now new ts)
          (ap (λ xs. l.outer.now ++ xs) is
          ∙ sym (append_assoc l.outer.now (column l.inner.now k) ((first +ℤ pos j) ∷ []))
          ∙ ap (λ n. turns_at l k ++ (first +ℤ pos n) ∷ []) (sym at_j.1)) more.1
      | inr apart ↦ let other = apart.1 in more.0 _ (so_far.1 i (omega (arith, other)) inside)
    ],
  )

module _ (outer : List ℤ) where
  pub keeps_reached : (old new : List Group) (lo hi : Number) (ts : List ℤ)
      → Keeps outer old new
      → Reaches outer old lo hi ts
      → Reaches outer new lo hi ts
  keeps_reached old new lo hi ts keeps (first, last, from, to, each) =
      (first, last, from, to, λ j inside. keeps _ (each j inside))

  -- one more group whose turns are looked at
  pub reached_more : (some more : List Group) (g : Group) (old new : List Group) (lo hi : Number)
      → more ≡ some ++ g ∷ []
      → Keeps outer old new
      → ((ts : List ℤ) → Holds outer some ts → Reaches outer old lo hi ts)
      → ((k : ℕ) → k < g.count → Reaches outer new lo hi (outer ++ column g.rows k))
      → (ts : List ℤ)
      → Holds outer more ts
      → Reaches outer new lo hi ts
  reached_more some more g old new lo hi items keeps before now ts h =
      elim (front_or_last outer ts some g (subst (λ (groups : List Group). Holds outer groups ts) items h)) [
        | inl held ↦ keeps_reached old new lo hi ts keeps (before ts held)
        | inr last ↦ let (k, less, is) = last in subst (λ (ts : List ℤ). Reaches outer new lo hi ts) is (now k less)
      ]

-- the bounds of a loop, in rows
pub reached_ok : {E : Type 0} (l : Lanes) (lo hi : Number) (first last : List ℤ) (groups : List Group)
    → ((k : ℕ) → k < l.count → number_value (turns_at l k) lo ≡ Some (at first k))
    → ((k : ℕ) → k < l.count → number_value (turns_at l k) hi ≡ Some (at last k))
    → (r : Result Bool E)
    → IfOk r (λ has.
    IsTrue has
    → (k : ℕ)
    → k < l.count
    → (j : ℕ)
    → (at first k +ℤ pos j) ≤ℤ at last k
    → Holds l.outer.now groups (turns_at l k ++ (at first k +ℤ pos j) ∷ []))
    → IfOk r (λ has. IsTrue has → (k : ℕ) → k < l.count → Reaches l.outer.now groups lo hi (turns_at l k))
reached_ok l lo hi first last groups from to (Ok has) h = λ yes k less. (
  at first k,
  at last k,
  from k less,
  to k less,
  h yes k less,
)
reached_ok l lo hi first last groups from to (Err e) h = tt
