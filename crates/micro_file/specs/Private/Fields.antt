-- Fields that are read. Each is read from the front of what is left, bytes or bits, and judged when it is whole: it is
-- a value and what is left behind it, or why there is none.
use Rattle.std.specs.Prelude.{ℕ, zero, suc, ◌+◌, ◌-◌, ◌^◌, List, [], ◌∷◌, ◌++◌, length, Option, Some, None, Result, Ok}
use Rattle.std.specs.Prelude.{Err}
use Rattle.std.specs.Prelude.{Bool, ◌&&◌, if◌then◌else◌, ℤ, pos, neg_ℤ, int_le, int_lt, slice_get}
use Rattle.micro_file.specs.declared.misread.Misread.{Misread}
use Rattle.micro_file.specs.declared.misread.Misread.TheVariants.{Field}

-- a value and what is left behind it, or why it could not be read
abbrev pub Reading : Type 0 → Type 0
Reading A = Result (A × List ℕ) Misread

-- what is read next, at what was read; the first field that is misread is the last that is read
infixl 10 ◌>>=◌
abbrev pub ◌>>=◌ : {A B : Type 0} → Result A Misread → (A → Result B Misread) → Result B Misread
(Ok x) >>= f = f x
(Err misread) >>= f = Err misread

-- the field in front of what is left is not allowed
abbrev pub refused : {A : Type 0} → List ℕ → Result A Misread
refused left = Err (Field (length left))

-- what the field in front has, if it is allowed
abbrev pub kept : {A : Type 0} → List ℕ → Bool → A → Result A Misread
kept left allowed x = if allowed then Ok x else refused left

-- what the field in front names, if it is there
abbrev pub found : {A : Type 0} → List ℕ → Option A → Result A Misread
found left None = refused left
found left (Some x) = Ok x

-- the element of a table whose place the number in front is
abbrev pub element : {A : Type 0} → List A → List ℕ → ℕ × List ℕ → Reading A
element table left n = found left (slice_get table n.0) >>= λ x. Ok (x, n.1)

-- a machine word holds the number
abbrev pub is_raw_word : ℤ → Bool
is_raw_word z = int_le (neg_ℤ (pos (2 ^ 39))) z && int_lt z (pos (2 ^ 39))

-- 0 ≤ z < n
abbrev pub is_below : ℕ → ℤ → Bool
is_below n z = int_le (pos 0) z && int_lt z (pos n)

-- the last of a list
abbrev pub last_of : {A : Type 0} → List A → Option A
last_of xs = slice_get xs (length xs - 1)

-- this many values after those in front, each read in the knowledge of those before it
unfoldable pub many_at : {A : Type 0}
    → (List A → List ℕ → Reading A)
    → List A
    → ℕ
    → List ℕ
    → Reading (List A)
many_at one front zero left = Ok (front, left)
many_at one front (suc n) left = one front left >>= λ x. many_at one (front ++ x.0 ∷ []) n x.1

-- what so many numbers, from the first on, put one after another behind those in front
unfoldable pub each_at : {A : Type 0}
    → (List A → ℕ → List ℕ → Reading (List A))
    → List A
    → (first count : ℕ)
    → List ℕ
    → Reading (List A)
each_at one front first zero left = Ok (front, left)
each_at one front first (suc n) left = one front first left >>= λ x. each_at one x.0 (first + 1) n x.1
