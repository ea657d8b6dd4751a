-- The operands of a node at a place are at places before it, in elements that are read, and raw words.
use Rattle.std.proofs.Common.{◌≡◌, refl, sym, subst, arith, ℕ, zero, suc, ◌+◌, ◌-◌, ◌<◌, ◌≤◌, inl, inr, Bool, true}
use Rattle.std.proofs.Common.{false, List, [], ◌∷◌, ◌++◌, length}
use Rattle.std.specs.Prelude.{slice_get, All, Some}
use Rattle.std.proofs.lemmas.Option.{none-some, same_Some}
use Rattle.std.proofs.lemmas.List.Elements.{All-nil, All-cons}
use Rattle.signal_graph.specs.Flat.{Expr, raw, read, calculation, Parts, no_part, part, Body, word, value, Program}
use Rattle.signal_graph.specs.Flat.{size, size_of_parts}
use Rattle.signal_graph.specs.FlatSolves.{element_of, ElementReads}
use Rattle.signal_graph.specs.Values.{Reads, PartsRead, BodyReads}
use Rattle.signal_graph.specs.GraphOf.{Operand, number, place, element, Made, nothing, constant, input, operation}
use Rattle.signal_graph.specs.GraphOf.{operand_at, operands_from, made_by, made_by_parts, has_pass, pass}
use Rattle.signal_graph.proofs.Places.{made_of}
use Rattle.signal_graph.proofs.Parts.{length_made, length_made_parts}
use Rattle.signal_graph.proofs.Bodies.{its_width, input_made, with_pass, value_made}

-- the fact holds of each of the list and its place, where the places begin at k
AllFrom : (ℕ → Made → Type 0) → ℕ → List Made → Type 0
AllFrom P k ms = (i : ℕ) (m : Made) → slice_get ms i ≡ Some m → P (k + i) m

module _ (P : ℕ → Made → Type 0) where
  all_none : (k : ℕ) → AllFrom P k []
  unfolding AllFrom
  all_none k i m h = absurd (none-some m h)

  all_one : (k : ℕ) (m : Made) → P k m → AllFrom P k (m ∷ [])
  unfolding AllFrom
  all_one k m is zero n h =
      let same : k ≡ k + 0 = omega arith in
      subst (λ (x : Made). P (k + 0) x) (same_Some m n h) (subst (λ (i : ℕ). P i m) same is)
  all_one k m is (suc i) n h = absurd (none-some n h)

  all_append : (k : ℕ) (xs ys : List Made) → AllFrom P k xs → AllFrom P (k + length xs) ys → AllFrom P k (xs ++ ys)
  unfolding AllFrom
  all_append k [] ys f g i m h =
      let back : k + 0 + i ≡ k + i = omega arith in
      subst (λ (j : ℕ). P j m) back (g i m h)
  all_append k (x ∷ xs) ys f g zero m h = f 0 m h
  all_append k (x ∷ xs) ys f g (suc i) m h =
      let back : k + 1 + i ≡ k + suc i = omega arith in
      subst (λ (j : ℕ). P j m) back (all_append (k + 1) xs ys (λ j n at. front j n at) (λ j n at. rest j n at) i m h)
    where
      front : (j : ℕ) (n : Made) → slice_get xs j ≡ Some n → P (k + 1 + j) n
      front j n at = let same : k + suc j ≡ k + 1 + j = omega arith in subst (λ (z : ℕ). P z n) same (f (suc j) n at)

      rest : (j : ℕ) (n : Made) → slice_get ys j ≡ Some n → P (k + 1 + length xs + j) n
      rest j n at =
          let same : k + suc (length xs) + j ≡ k + 1 + length xs + j = omega arith in
          subst (λ (z : ℕ). P z n) same (g j n at)

module _ (R : ℕ → ℕ → Type 0) where
  -- an operand of a node at place k
  abbrev pub IsBefore : ℕ → Operand → Type 0
  IsBefore k (number m) = Unit {0}
  IsBefore k (place l) = l < k
  IsBefore k (element d ago) = R d ago

  abbrev pub AreBefore : ℕ → Made → Type 0
  AreBefore k nothing = Unit {0}
  AreBefore k (constant m) = Unit {0}
  AreBefore k (input j) = Unit {0}
  AreBefore k (operation o fmt os) = All (IsBefore k) os

  some_size : (x : Expr) → 1 ≤ size x
  some_size (raw m) = omega arith
  some_size (read d ago) = omega arith
  some_size (calculation o fmt parts) = omega arith

  operand_before : (x : Expr) (l k : ℕ) → l < k → ((d ago : ℕ) → Reads x d ago → R d ago) → IsBefore k (operand_at l x)
  operand_before (raw m) l k lt reads = tt {0}
  operand_before (read d ago) l k lt reads = reads d ago (refl, refl)
  operand_before (calculation o fmt parts) l k lt reads = lt

  operands_before : (parts : Parts) (b k : ℕ)
      → b + size_of_parts parts ≤ k
      → ((d ago : ℕ) → PartsRead parts d ago → R d ago)
      → All (IsBefore k) (operands_from b parts)
  operands_before no_part b k le reads = All-nil (IsBefore k)
  operands_before (part x rest) b k le reads =
      All-cons (IsBefore k) (operand_at (b + size x - 1) x) (operands_from (b + size x) rest)
      (operand_before x (b + size x - 1) k (omega (arith, some_size x)) (λ d ago r. reads d ago (inl r)))
      (operands_before rest (b + size x) k (omega arith) (λ d ago r. reads d ago (inr r)))

  mutual
    before_made : (x : Expr) (b : ℕ) → ((d ago : ℕ) → Reads x d ago → R d ago) → AllFrom AreBefore b (made_by b x)
    before_made (raw m) b reads = all_one AreBefore b (constant m) (tt {0})
    before_made (read d ago) b reads = all_one AreBefore b nothing (tt {0})
    before_made (calculation o fmt parts) b reads =
        let last = operation o fmt (operands_from b parts) in
        all_append AreBefore b (made_by_parts b parts) (last ∷ []) (before_parts parts b reads)
        (all_one AreBefore (b + length (made_by_parts b parts)) last
        (operands_before parts b (b + length (made_by_parts b parts)) (omega (arith, length_made_parts b parts)) reads))

    before_parts : (parts : Parts) (b : ℕ)
        → ((d ago : ℕ) → PartsRead parts d ago → R d ago)
        → AllFrom AreBefore b (made_by_parts b parts)
    before_parts no_part b reads = all_none AreBefore b
    before_parts (part x rest) b reads =
        all_append AreBefore b (made_by b x) (made_by_parts (b + size x) rest)
        (before_made x b (λ d ago r. reads d ago (inl r)))
        (subst (λ (n : ℕ). AllFrom AreBefore (b + n) (made_by_parts (b + size x) rest)) (sym (length_made b x))
        (before_parts rest (b + size x) (λ d ago r. reads d ago (inr r))))

module _ (p : Program) (e : ℕ) where
  with_pass_before : (x : Expr) (b : Bool)
      → (element_of p e).body ≡ value x
      → AllFrom (AreBefore (ElementReads p e)) 0 (with_pass p e x b)
  with_pass_before x true h =
      let R = ElementReads p e in
      let last = pass (its_width p e) x in
      all_append (AreBefore R) 0 (made_by 0 x) (last ∷ []) (before_made R x 0 (reads x h))
      (all_one (AreBefore R) (0 + length (made_by 0 x)) last
      (All-cons (IsBefore R (0 + length (made_by 0 x))) (operand_at 0 x) []
      (operand_before R x 0 (0 + length (made_by 0 x)) (omega (arith, length_made 0 x, some_size R x)) (reads x h))
      (All-nil (IsBefore R (0 + length (made_by 0 x))))))
    where
      reads : (x : Expr) → (element_of p e).body ≡ value x → (d ago : ℕ) → Reads x d ago → ElementReads p e d ago
      reads y g d ago r = subst (λ (body : Body). BodyReads body d ago) (sym g) r
  with_pass_before x false h =
      let R = ElementReads p e in
      all_append (AreBefore R) 0 (made_by 0 x) []
      (before_made R x 0 (λ d ago r. subst (λ (body : Body). BodyReads body d ago) (sym h) r))
      (all_none (AreBefore R) (0 + length (made_by 0 x)))

  body_before : (body : Body) → (element_of p e).body ≡ body → AllFrom (AreBefore (ElementReads p e)) 0 (made_of p e)
  body_before (word j) h =
      subst (λ (ms : List Made). AllFrom (AreBefore (ElementReads p e)) 0 ms) (sym (input_made p e j h))
      (all_one (AreBefore (ElementReads p e)) 0 (input j) (tt {0}))
  body_before (value x) h =
      subst (λ (ms : List Made). AllFrom (AreBefore (ElementReads p e)) 0 ms)
      (sym (value_made p e x (has_pass p e x) h refl))
      (with_pass_before x (has_pass p e x) h)

  pub all_before : (k : ℕ) (m : Made) → slice_get (made_of p e) k ≡ Some m → AreBefore (ElementReads p e) k m
  unfolding AllFrom
  all_before k m h =
      let same : 0 + k ≡ k = omega arith in
      subst (λ (i : ℕ). AreBefore (ElementReads p e) i m) same (body_before (element_of p e).body refl k m h)
