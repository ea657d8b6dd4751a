-- In an expansion in which each instance is made by a step of its own, an element has one number.
use Rattle.std.proofs.Common.{◌≡◌, refl, sym, subst, ◌∙◌, ap, arith, ℕ, ◌+◌, ◌<◌, ◌≤◌, ◌⊎◌, inl, inr, List, [], ◌∷◌}
use Rattle.std.proofs.Common.{◌++◌, length, length-append, slice_get, Some}
use Rattle.std.proofs.lemmas.Bool.{cases_lt}
use Rattle.std.proofs.lemmas.Option.{slice_get_within}
use Rattle.lists.proofs.Places.{some_once, at_left, at_end}
use Rattle.silage_meaning.specs.Instances.{Step, Instance as Path, main, inside}
use Rattle.element_rules.specs.declared.elements.Instance.{Instance}
use Rattle.element_rules.specs.Tables.{Table, rules, mark, in_order, enters, Row, nothing, ◌▹◌}
use Rattle.element_rules.specs.Expansion.{entered, instances_after, row_instances}
use Rattle.element_rules.specs.Numbering.{HasPath, of_main, of_call}
use Rattle.element_rules.proofs.NumberedInstances.{Extends, extends_then, table_extends}

abbrev mutual
  -- a step by which the table enters an instance itself
  pub Enters : Table → Step → Type 0
  Enters (rules R) s = ⊥
  Enters (mark m) s = ⊥
  Enters (in_order row) s = RowEnters row s
  Enters (enters func step T) s = s ≡ step

  pub RowEnters : Row → Step → Type 0
  RowEnters nothing s = ⊥
  RowEnters (T ▹ row) s = Enters T s ⊎ RowEnters row s

abbrev mutual
  -- no step enters two instances, in the table and in those of the instances that it enters
  pub IsOnce : Table → Type 0
  IsOnce (rules R) = Unit {0}
  IsOnce (mark m) = Unit {0}
  IsOnce (in_order row) = RowIsOnce row
  IsOnce (enters func step T) = IsOnce T

  pub RowIsOnce : Row → Type 0
  RowIsOnce nothing = Unit {0}
  RowIsOnce (T ▹ row) = IsOnce T × RowIsOnce row × ((s : Step) → Enters T s → RowEnters row s → ⊥)

abbrev step_of : Instance → Step
step_of i = record { at = i.site; turns = i.turns }

module _ (es : List Instance) where
  -- of the instances from a to b: a parent is the instance with this number, by one of these steps, or is one of them;
  -- and no two have one parent and one step
  pub record Spread (number a b : ℕ) (Here : Step → Type 0) : Type 0 where
    pub parent : (n : ℕ) (i : Instance)
        → a ≤ n
        → n < b
        → slice_get es n ≡ Some i
        → ((i.parent ≡ number) × Here (step_of i)) ⊎ ((a ≤ i.parent) × (i.parent < b))
    pub once : (m n : ℕ) (i j : Instance)
        → a ≤ m
        → m < b
        → a ≤ n
        → n < b
        → slice_get es m ≡ Some i
        → slice_get es n ≡ Some j
        → i.parent ≡ j.parent
        → step_of i ≡ step_of j
        → m ≡ n

  none_spread : (number a b : ℕ) (Here : Step → Type 0) → a ≡ b → Spread number a b Here
  none_spread number a b Here same = record {
    parent = λ n i low high e. absurd (omega arith);
    once = λ m n i j low high low' high' e f g h. absurd (omega arith);
  }

  grows : (number : ℕ) (front : List Instance) (T : Table) → length front ≤ length (instances_after number front T)
  grows number front T =
      let e = table_extends number front T in omega (arith, ap length e.is, length-append front e.more)

  -- two parts, one after the other
  both_spread : (number a c b : ℕ) (Here Later : Step → Type 0)
      → number < a
      → a ≤ c
      → c ≤ b
      → ((s : Step) → Here s → Later s → ⊥)
      → Spread number a c Here
      → Spread number c b Later
      → Spread number a b (λ s. Here s ⊎ Later s)
  both_spread number a c b Here Later first low high apart x y = record { parent = parent; once = once }
    where
      parent : (n : ℕ) (i : Instance)
          → a ≤ n
          → n < b
          → slice_get es n ≡ Some i
          → ((i.parent ≡ number) × (Here (step_of i) ⊎ Later (step_of i))) ⊎ ((a ≤ i.parent) × (i.parent < b))
      parent n i least most e = elim (cases_lt n c) [
        | inl less ↦ elim (x.parent n i least less e) [
          | inl h ↦ inl (h.0, inl h.1)
          | inr h ↦ inr (h.0, (let t = h.1 in omega arith))
        ]
        | inr more ↦ elim (y.parent n i more most e) [
          | inl h ↦ inl (h.0, inr h.1)
          | inr h ↦ inr ((let t = h.0 in omega arith), h.1)
        ]
      ]

      crossed : (m n : ℕ) (i j : Instance)
          → a ≤ m
          → m < c
          → c ≤ n
          → n < b
          → slice_get es m ≡ Some i
          → slice_get es n ≡ Some j
          → i.parent ≡ j.parent
          → step_of i ≡ step_of j
          → ⊥
      crossed m n i j lm hm ln hn e f g h = elim (x.parent m i lm hm e) [
        | inl p ↦ elim (y.parent n j ln hn f) [
          | inl q ↦ apart (step_of j) (subst Here h p.1) q.1
          | inr q ↦ let t = p.0 in let u = q.0 in omega arith
        ]
        | inr p ↦ elim (y.parent n j ln hn f) [
          | inl q ↦ let t = p.0 in let u = q.0 in omega arith
          | inr q ↦ let t = p.1 in let u = q.0 in omega arith
        ]
      ]

      once : (m n : ℕ) (i j : Instance)
          → a ≤ m
          → m < b
          → a ≤ n
          → n < b
          → slice_get es m ≡ Some i
          → slice_get es n ≡ Some j
          → i.parent ≡ j.parent
          → step_of i ≡ step_of j
          → m ≡ n
      once m n i j lm hm ln hn e f g h = elim (cases_lt m c) [
        | inl less ↦ elim (cases_lt n c) [
          | inl too ↦ x.once m n i j lm less ln too e f g h
          | inr more ↦ absurd (crossed m n i j lm less more hn e f g h)
        ]
        | inr more ↦ elim (cases_lt n c) [
          | inl less ↦ absurd (crossed n m j i ln less more hm f e (sym g) (sym h))
          | inr too ↦ y.once m n i j more hm too hn e f g h
        ]
      ]

  -- an instance, with those inside it
  entry_spread : (number a b : ℕ) (own : Instance) (step : Step) (Inner : Step → Type 0)
      → number < a
      → a < b
      → slice_get es a ≡ Some own
      → own.parent ≡ number
      → step_of own ≡ step
      → Spread a (a + 1) b Inner
      → Spread number a b (λ s. s ≡ step)
  entry_spread number a b own step Inner first room here its_parent its_step x = record { parent = parent; once = once }
    where
      parent : (n : ℕ) (i : Instance)
          → a ≤ n
          → n < b
          → slice_get es n ≡ Some i
          → ((i.parent ≡ number) × (step_of i ≡ step)) ⊎ ((a ≤ i.parent) × (i.parent < b))
      parent n i least most e = elim (cases_lt a n) [
        | inl less ↦ elim (x.parent n i (omega arith) most e) [
          | inl h ↦ let t = h.0 in inr (omega arith, omega arith)
          | inr h ↦ let t = h.0 in inr (omega arith, h.1)
        ]
        | inr more ↦
            let same : n ≡ a = omega arith in
            let it : own ≡ i = some_once here (subst (λ (k : ℕ). slice_get es k ≡ Some i) same e) in
            inl (
              subst (λ (z : Instance). z.parent ≡ number) it its_parent,
              subst (λ (z : Instance). step_of z ≡ step) it its_step,
            )
      ]

      apart : (n : ℕ) (j : Instance) → a < n → n < b → slice_get es n ≡ Some j → j.parent ≡ number → ⊥
      apart n j low high f g = elim (x.parent n j (omega arith) high f) [
        | inl q ↦ let t = q.0 in omega arith
        | inr q ↦ let t = q.0 in omega arith
      ]

      of_own : (n : ℕ) (i : Instance) → n ≡ a → slice_get es n ≡ Some i → i.parent ≡ number
      of_own n i same e =
          let it : own ≡ i = some_once here (subst (λ (k : ℕ). slice_get es k ≡ Some i) same e) in
          subst (λ (z : Instance). z.parent ≡ number) it its_parent

      once : (m n : ℕ) (i j : Instance)
          → a ≤ m
          → m < b
          → a ≤ n
          → n < b
          → slice_get es m ≡ Some i
          → slice_get es n ≡ Some j
          → i.parent ≡ j.parent
          → step_of i ≡ step_of j
          → m ≡ n
      once m n i j lm hm ln hn e f g h = elim (cases_lt a m) [
        | inl less ↦ elim (cases_lt a n) [
          | inl too ↦ x.once m n i j (omega arith) hm (omega arith) hn e f g h
          | inr more ↦ absurd (apart m i less hm e (g ∙ of_own n j (omega arith) f))
        ]
        | inr more ↦ elim (cases_lt a n) [
          | inl less ↦ absurd (apart n j less hn f (sym g ∙ of_own m i (omega arith) e))
          | inr too ↦ omega arith
        ]
      ]

  mutual
    pub table_spread : (T : Table) (number : ℕ) (front : List Instance)
        → number < length front
        → IsOnce T
        → Extends (instances_after number front T) es
        → Spread number (length front) (length (instances_after number front T)) (Enters T)
    table_spread (rules R) number front less once ext = none_spread number (length front) (length front) _ refl
    table_spread (mark m) number front less once ext = none_spread number (length front) (length front) _ refl
    table_spread (in_order row) number front less once ext = row_spread row number front less once ext
    table_spread (enters func step T) number front less once ext =
        let own = entered func number step in
        let size : length (front ++ own ∷ []) ≡ length front + 1 = length-append front (own ∷ []) in
        let all =
        extends_then (front ++ own ∷ []) (instances_after (length front) (front ++ own ∷ []) T) es
        (table_extends (length front) (front ++ own ∷ []) T) ext in
        let here : slice_get es (length front) ≡ Some own =
        ap (λ l. slice_get l (length front)) all.is
        ∙ at_left (front ++ own ∷ []) all.more (length front) own (at_end front own) in
        let inner = table_spread T (length front) (front ++ own ∷ []) (omega arith) once ext in
        let more = grows (length front) (front ++ own ∷ []) T in
        entry_spread number (length front) (length (instances_after (length front) (front ++ own ∷ []) T)) own step
        (Enters T) less (omega arith) here refl refl
        (subst
        (λ (k : ℕ). Spread (length front) k (length (instances_after (length front) (front ++ own ∷ []) T)) (Enters T))
        size inner)

    row_spread : (row : Row) (number : ℕ) (front : List Instance)
        → number < length front
        → RowIsOnce row
        → Extends (row_instances number front row) es
        → Spread number (length front) (length (row_instances number front row)) (RowEnters row)
    row_spread nothing number front less once ext = none_spread number (length front) (length front) _ refl
    row_spread (T ▹ row) number front less once ext =
        let mid = instances_after number front T in
        let first = grows number front T in
        let rest = grows number mid (in_order row) in
        both_spread number (length front) (length mid) (length (row_instances number mid row)) (Enters T)
        (RowEnters row) less first rest once.2
        (table_spread T number front less once.0
        (extends_then mid (row_instances number mid row) es (table_extends number mid (in_order row)) ext))
        (row_spread row number mid (omega arith) once.1 ext)

  -- a list of steps leads to one number
  pub number_once : Spread 0 1 (length es) (λ s. Unit {0})
      → (a : Path) (m n : ℕ)
      → HasPath es m a
      → HasPath es n a
      → m ≡ n
  number_once spread main _ _ (of_main e) (of_main f) = refl
  number_once spread (inside q s) m n (of_call {i = i} less e h) (of_call {i = j} more f k) =
      spread.once m n i j (omega arith) (slice_get_within es m i e) (omega arith) (slice_get_within es n j f) e f
      (number_once spread q i.parent j.parent h k) refl
