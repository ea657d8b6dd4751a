-- A cycle has no conflict where its word passes a test, in hardware whose units can have an issue in each cycle.
use Rattle.std.proofs.Common.{◌≡◌, ◌<◌, ◌==◌, ◌&&◌, ◌+◌, refl, sym, subst, ◌∙◌, arith, ℕ, zero, suc, Bool, true, false}
use Rattle.std.proofs.Common.{not, ◌||◌, cond, if◌then◌else◌, length, is_some, List, [], ◌∷◌, count_by, find, Some}
use Rattle.std.proofs.Common.{Option, ℤ, pos, negsuc, nat_lt}
use Rattle.std.proofs.Common.{true≢false, inl, inr}
use Rattle.std.specs.List.{list_all, list_any}
use Rattle.std.proofs.lemmas.Bool.{and_parts, cases_lt, eqb-true}
use Rattle.std.proofs.lemmas.List.Sums.{sum_by-cons}
use Rattle.std.proofs.lemmas.Bool.Decides.{nat_tests}
use Rattle.lists.specs.Rows.{Rows}
use Rattle.fix_word.specs.declared.operation.Op.{Op}
use Rattle.fix_word.specs.declared.operation.Op.TheVariants as op
use Rattle.micro_image.specs.declared.conflict.ConflictKind.TheVariants.{Busy, TwoDrivers, FileTwice, NoDriver}
use Rattle.micro_image.specs.declared.conflict.ConflictKind.TheVariants.{NoResult, Address}
use Rattle.micro_image.specs.declared.image.Enable.{Enable}
use Rattle.micro_image.specs.declared.image.Issue.{Issue}
use Rattle.micro_image.specs.declared.image.Take.{Take}
use Rattle.micro_image.specs.Conflict.{IsClear, IsClearBelow, IsMemory, IsOutside, file_of}
use Rattle.micro_image.specs.Fields.{Microprogram, unit_of}
use Rattle.micro_image.specs.Log.{Result, Log, operand}
use Rattle.micro_image.proofs.Lists.{find-passes}

-- none of the rest has the number of the first
abbrev apart : {A : Type 0} → (A → ℕ) → List A → Bool
apart f [] = true
apart f (x ∷ xs) = list_all (λ y. not (f y == f x)) xs && apart f xs

not_here : (b : Bool) (n : ℕ) → not b ≡ true → n ≡ 0 → cond b 1 0 + n ≡ 0
not_here true n differs e = absurd (true≢false (sym differs))
not_here false n differs e = omega (arith, e)

-- the count of a list by its first
counted : {A : Type 0} (f : A → ℕ) (k : ℕ) (x : A) (xs : List A)
    → count_by (λ y. f y == k) (x ∷ xs) ≡ cond (f x == k) 1 0 + count_by (λ y. f y == k) xs
counted f k x xs = sum_by-cons (λ y. cond (f y == k) 1 0) x xs

none_counted : {A : Type 0} (f : A → ℕ) (k : ℕ) (xs : List A)
    → list_all (λ y. not (f y == k)) xs ≡ true
    → count_by (λ y. f y == k) xs ≡ 0
none_counted f k [] h = refl
none_counted f k (x ∷ xs) h =
    let parts = and_parts (not (f x == k)) (list_all (λ y. not (f y == k)) xs) h in
    counted f k x xs ∙ not_here (f x == k) (count_by (λ y. f y == k) xs) parts.0 (none_counted f k xs parts.1)

one_here : (b : Bool) (n : ℕ) → (b ≡ true → n ≡ 0) → n < 2 → cond b 1 0 + n < 2
one_here true n none rest = omega (arith, none refl)
one_here false n none rest = omega (arith, rest)

at_most_once : {A : Type 0} (f : A → ℕ) (xs : List A) → apart f xs ≡ true → (k : ℕ) → count_by (λ y. f y == k) xs < 2
at_most_once f [] h k = omega arith
at_most_once f (x ∷ xs) h k =
    let parts = and_parts (list_all (λ y. not (f y == f x)) xs) (apart f xs) h in
    rw (counted f k x xs) (one_here (f x == k) (count_by (λ y. f y == k) xs)
    (λ e. subst (λ n. count_by (λ y. f y == n) xs ≡ 0) (eqb-true (f x) k e) (none_counted f (f x) xs parts.0))
    (at_most_once f xs parts.1 k))

-- an element that is counted, with what holds of each
record Counted {A : Type 0} (f : A → ℕ) (k : ℕ) (p : A → Bool) : Type 0 where
  element : A
  number : f element ≡ k
  passes : p element ≡ true

this_or_later : {R : Type 0} (b : Bool) (n : ℕ) → (b ≡ true → R) → (0 < n → R) → 0 < cond b 1 0 + n → R
this_or_later true n here later some = here refl
this_or_later false n here later some = later (omega (arith, some))

some_counted : {A : Type 0} (f : A → ℕ) (k : ℕ) (p : A → Bool) (xs : List A)
    → list_all p xs ≡ true
    → 0 < count_by (λ y. f y == k) xs
    → Counted f k p
some_counted f k p [] all some = absurd (omega (arith, some))
some_counted f k p (x ∷ xs) all some =
    let parts = and_parts (p x) (list_all p xs) all in
    this_or_later (f x == k) (count_by (λ y. f y == k) xs)
    (λ e. record { element = x; number = eqb-true (f x) k e; passes = parts.0 }) (some_counted f k p xs parts.1)
    (rw (counted f k x xs) at some)

any_here : (a b : Bool) (n : ℕ) → (a || b) ≡ true → (b ≡ true → 0 < n) → 0 < cond a 1 0 + n
any_here true b n h later = omega arith
any_here false b n h later = omega (arith, later h)

any_counted : {A : Type 0} (f : A → ℕ) (k : ℕ) (xs : List A)
    → list_any (λ y. f y == k) xs ≡ true
    → 0 < count_by (λ y. f y == k) xs
any_counted f k [] h = absurd (cc)
any_counted f k (x ∷ xs) h =
    rw (counted f k x xs)
    (any_here (f x == k) (list_any (λ y. f y == k) xs) (count_by (λ y. f y == k) xs) h (any_counted f k xs))

found_here : {A : Type 0} (p : A → Bool) (b : Bool) (y x : A) (rest : Option A)
    → (if b then Some y else rest) ≡ Some x
    → p y ≡ true
    → (rest ≡ Some x → p x ≡ true)
    → p x ≡ true
found_here p true y x rest e here later = let same : y ≡ x = cc in subst (λ z. p z ≡ true) same here
found_here p false y x rest e here later = later e

found_passes : {A : Type 0} (p q : A → Bool) (xs : List A) (x : A)
    → list_all p xs ≡ true
    → find q xs ≡ Some x
    → p x ≡ true
found_passes p q [] x all e = absurd (cc)
found_passes p q (y ∷ ys) x all e =
    let parts = and_parts (p y) (list_all p ys) all in
    found_here p (q y) y x (find q ys) e parts.0 (found_passes p q ys x parts.1)

-- one of the cells
abbrev inside : ℕ → ℤ → Bool
inside cells (pos address) = nat_lt address cells
inside cells (negsuc n) = false

not_outside : (cells : ℕ) (address : ℤ) → inside cells address ≡ true → IsOutside cells address → ⊥
not_outside cells (pos address) is out = grind (arith, nat_tests)
not_outside cells (negsuc n) is out = cc

abbrev is_memory : Op → Bool
is_memory op.Load = true
is_memory op.Store = true
is_memory _ = false

memory_passes : (o : Op) (b : Bool) → (not (is_memory o) || b) ≡ true → IsMemory o → b ≡ true
memory_passes op.Load b h is = h
memory_passes op.Store b h is = h
memory_passes _ b h is = absurd is

module _ (micro : Microprogram) (z : Rows) where
  -- a load or a store has the number of a cell
  abbrev addressed : ℕ → Issue → Bool
  addressed t issue =
      not (is_memory issue.op)
      || inside (length (unit_of micro issue.unit).cells) (operand micro (Log micro z t) t issue 0)

  -- the buses and the files of cycle t are apart, and what is taken and driven is there
  unfoldable pub quiet : ℕ → Bool
  quiet t =
      apart (λ (enable : Enable). enable.bus) (micro.word_at t).enables
      && (apart file_of (micro.word_at t).takes
      && (list_all (λ (take : Take). list_any (λ (enable : Enable). enable.bus == take.bus) (micro.word_at t).enables)
      (micro.word_at t).takes
      && (list_all (λ (enable : Enable). is_some (Result micro z enable.unit t)) (micro.word_at t).enables
      && list_all (addressed t) (micro.word_at t).issues)))

  record IsQuiet (t : ℕ) : Type 0 where
    buses : apart (λ (enable : Enable). enable.bus) (micro.word_at t).enables ≡ true
    files : apart file_of (micro.word_at t).takes ≡ true
    driven :
        list_all (λ (take : Take). list_any (λ (enable : Enable). enable.bus == take.bus) (micro.word_at t).enables)
        (micro.word_at t).takes ≡ true
    resulting : list_all (λ (enable : Enable). is_some (Result micro z enable.unit t)) (micro.word_at t).enables ≡ true
    inside_cells : list_all (addressed t) (micro.word_at t).issues ≡ true

  is_quiet : (t : ℕ) → quiet t ≡ true → IsQuiet t
  unfolding quiet
  is_quiet t h =
      let first = and_parts (apart (λ (enable : Enable). enable.bus) (micro.word_at t).enables) _ h in
      let second = and_parts (apart file_of (micro.word_at t).takes) _ first.1 in
      let third = and_parts
      (list_all (λ (take : Take). list_any (λ (enable : Enable). enable.bus == take.bus) (micro.word_at t).enables)
      (micro.word_at t).takes) _ second.1 in
      let fourth = and_parts
      (list_all (λ (enable : Enable). is_some (Result micro z enable.unit t)) (micro.word_at t).enables) _ third.1 in
      record {
        buses = first.0;
        files = second.0;
        driven = third.0;
        resulting = fourth.0;
        inside_cells = fourth.1;
      }

  clear : (t : ℕ) → ((u : ℕ) → (unit_of micro u).gap ≡ 1) → IsQuiet t → IsClear micro z t
  clear t gaps h Busy u (here, (s, before, within, there)) = omega (arith, before, within, gaps u)
  clear t gaps h TwoDrivers b two =
      omega (arith, two, at_most_once (λ (enable : Enable). enable.bus) (micro.word_at t).enables h.buses b)
  clear t gaps h FileTwice file two = omega (arith, two, at_most_once file_of (micro.word_at t).takes h.files file)
  clear t gaps h NoDriver b (taken, undriven) =
      let take = some_counted (λ (take : Take). take.bus) b
      (λ (take : Take). list_any (λ (enable : Enable). enable.bus == take.bus) (micro.word_at t).enables)
      (micro.word_at t).takes h.driven taken in
      let some = any_counted (λ (enable : Enable). enable.bus) take.element.bus (micro.word_at t).enables take.passes in
      let here = subst (λ n. 0 < count_by (λ (enable : Enable). enable.bus == n) (micro.word_at t).enables) take.number
      some in
      omega (arith, here, undriven)
  clear t gaps h NoResult u (drives, none) =
      let enable = some_counted (λ (enable : Enable). enable.unit) u
      (λ (enable : Enable). is_some (Result micro z enable.unit t)) (micro.word_at t).enables h.resulting drives in
      true≢false (sym (subst (λ n. is_some (Result micro z n t) ≡ true) enable.number enable.passes) ∙ none)
  clear t gaps h Address u (issue, is, memory, outside) =
      let passes = found_passes (addressed t) (λ s. s.unit == u) (micro.word_at t).issues issue h.inside_cells is in
      let on = find-passes (λ s. s.unit == u) (micro.word_at t).issues issue is in
      let cells = memory_passes issue.op _ passes memory in
      not_outside _ _ cells
      (subst (λ n. IsOutside (length (unit_of micro n).cells) (operand micro (Log micro z t) t issue 0))
      (sym (eqb-true issue.unit u on)) outside)

  abbrev all_quiet : ℕ → Bool
  all_quiet zero = true
  all_quiet (suc n) = quiet n && all_quiet n

  -- no cycle below n has a conflict
  pub clear_below : (n : ℕ) → ((u : ℕ) → (unit_of micro u).gap ≡ 1) → all_quiet n ≡ true → IsClearBelow micro z n
  clear_below zero gaps h t below = absurd (omega (arith, below))
  clear_below (suc n) gaps h t below =
      let parts = and_parts (quiet n) (all_quiet n) h in
      elim (cases_lt t n) [
        | inl less ↦ clear_below n gaps parts.1 t less
        | inr more ↦
            let same : n ≡ t = omega (arith, below, more) in
            subst (λ m. IsClear micro z m) same (clear n gaps (is_quiet n parts.0))
      ]
