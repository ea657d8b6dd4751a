-- How a file is laid out: fields, one after another. A layout says what is read in front of the digits that are left,
-- bytes or bits, or which of its fields ends the reading.
use Rattle.std.specs.Prelude.{◌≡◌, ◌⊎◌, ℕ, zero, suc, ◌+◌, ◌<◌, ◌≤◌, List, [], ◌∷◌, ◌++◌, length, Result, Ok, Err, Bool}
use Rattle.std.specs.Prelude.{true, false}
use Rattle.micro_file.specs.declared.misread.Misread.{Misread}
use Rattle.micro_file.specs.declared.misread.Misread.TheVariants.{Short, Field}

-- a value and what is left behind it, or why there is none
abbrev pub Reading : Type 0 → Type 0
Reading A = Result (A × List ℕ) Misread

abbrev pub Layout : Type 0 → Type 1
Layout A = List ℕ → Reading A → Type 0

module _ {A : Type 0} (spell : A → List ℕ) (Allowed : A → Type 0) where
  -- an allowed value is spelled in front
  pub record Stands (left : List ℕ) (x : A) (rest : List ℕ) : Type 0 where
    pub allowed : Allowed x
    pub text : left ≡ spell x ++ rest

  -- the field is whole, and no allowed value is spelled in front
  pub record IsRefused (left : List ℕ) : Type 0 where
    pub some : A
    pub whole : length (spell some) ≤ length left
    pub none : (x : A) (rest : List ℕ) → ¬ Stands left x rest

  -- too few digits are left for any value of the field
  abbrev pub IsShort : List ℕ → Type 0
  IsShort left = (x : A) → length left < length (spell x)

  -- a field, which is blamed so where it is whole and not allowed
  abbrev pub field_or : (List ℕ → Misread) → Layout A
  field_or blame left (Ok x) = Stands left x.0 x.1
  field_or blame left (Err misread) =
      ((misread ≡ Short) × IsShort left) ⊎ ((misread ≡ blame left) × IsRefused left)

  -- a field, which is told by how much is left where it begins
  abbrev pub field : Layout A
  field = field_or (λ left. Field (length left))

-- a value that takes nothing
abbrev pub given : {A : Type 0} → A → Layout A
given x left reading = reading ≡ Ok (x, left)

-- a layout, and behind it the one that its value calls for
abbrev pub chain : {A B : Type 0} → Layout A → (A → Layout B) → Layout B
chain {A} first next left reading =
    ((misread : Misread) × (reading ≡ Err misread) × first left (Err misread))
    ⊎ ((x : A) × (rest : List ℕ) × first left (Ok (x, rest)) × next x rest reading)

infixl 10 ◌>>=◌
abbrev pub ◌>>=◌ : {A B : Type 0} → Layout A → (A → Layout B) → Layout B
first >>= next = chain first next

-- a layout that knows its place
abbrev pub placed : {A : Type 0} → (List ℕ → Layout A) → Layout A
placed layout left = layout left left

-- a value that is such; else what begins at the place is not allowed
abbrev pub judged : {A : Type 0} → (place : List ℕ) → Type 0 → A → Layout A
judged place Such x left (Ok y) = (y ≡ (x, left)) × Such
judged place Such x left (Err misread) = (misread ≡ Field (length place)) × ¬ Such

-- the first where it is so, else the second
abbrev pub choice : {A : Type 0} → Bool → Layout A → Layout A → Layout A
choice true this other = this
choice false this other = other

-- so many values after those in front, each in the knowledge of those before it
unfoldable pub many : {A : Type 0} → (List A → Layout A) → List A → ℕ → Layout (List A)
many one front zero = given front
many one front (suc n) = one front >>= λ x. many one (front ++ x ∷ []) n

-- what so many numbers, from the first on, put one after another behind those in front
unfoldable pub each : {A : Type 0} → (List A → ℕ → Layout (List A)) → List A → (first count : ℕ) → Layout (List A)
each one front first zero = given front
each one front first (suc n) = one front first >>= λ xs. each one xs (first + 1) n
