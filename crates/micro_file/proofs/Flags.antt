-- A flag in front of what is left, and a value behind others.
use Rattle.std.proofs.Common.{◌≡◌, ℕ, zero, suc, ◌-◌, ◌<◌, ◌⊎◌, inl, inr, List, [], ◌∷◌, ◌++◌, length, get_or, Some, Ok}
use Rattle.std.proofs.Common.{refl, arith}
use Rattle.std.specs.Prelude.{slice_get}
use Rattle.std.specs.List.{All}
use Rattle.std.proofs.Math.Seq.{get_or-append_seam}
use Rattle.std.proofs.lemmas.List.{length-append}
use Rattle.std.proofs.lemmas.Option.{slice_get-get_or}
use Rattle.micro_image.specs.Bits.{bits}
use Rattle.micro_bits.proofs.Bits.{IsDigits}
use Rattle.micro_file.specs.Private.Bits.{number_at}
use Rattle.micro_file.specs.Private.Fields.{last_of}
use Rattle.micro_file.proofs.BitLeaves.{number_reader}
use Rattle.micro_file.proofs.Readers.{bit_values, Takes}
use Rattle.micro_file.proofs.Several.{Behind}

-- a flag was taken, 0 or 1
abbrev pub IsFlag : (left : List ℕ) → ℕ × List ℕ → Type 0
IsFlag left flag =
    ((flag.0 ≡ 0) × Takes bit_values left (0 ∷ []) flag.1) ⊎ ((flag.0 ≡ 1) × Takes bit_values left (1 ∷ []) flag.1)

flag_is : (left rest : List ℕ) (n : ℕ) → n < 2 → Takes bit_values left (bits 1 n) rest → IsFlag left (n, rest)
unfolding bits
flag_is left rest zero lt text = inl (refl, text)
flag_is left rest (suc zero) lt text = inr (refl, text)
flag_is left rest (suc (suc n)) lt text = absurd (omega (arith, lt))

-- a bit is a flag
pub flag_took : (left : List ℕ)
    → IsDigits bit_values left
    → (flag : ℕ × List ℕ)
    → number_at 1 left ≡ Ok flag
    → IsFlag left flag
flag_took left fits flag e =
    let t = (number_reader 1).took left fits flag e in
    flag_is left flag.1 flag.0 (omega (arith, t.allowed)) t.text

-- the flags 0 and 1 are read
pub no_flag : (rest : List ℕ) → number_at 1 (0 ∷ rest) ≡ Ok (0, rest)
unfolding bits
no_flag rest = (number_reader 1).again 0 rest (omega arith)

pub a_flag : (rest : List ℕ) → number_at 1 (1 ∷ rest) ≡ Ok (1, rest)
unfolding bits
a_flag rest = (number_reader 1).again 1 rest (omega arith)

-- a value that is behind each is behind the last one
pub behind_each : {A : Type 0} (R : A → A → Type 0) (xs : List A) (y : A)
    → All (λ x. R x y) xs
    → Behind R (last_of xs) y
behind_each R [] y all = tt
behind_each R (x ∷ xs) y all =
    let there : slice_get (x ∷ xs) (length (x ∷ xs) - 1) ≡ Some (get_or (x ∷ xs) (length (x ∷ xs) - 1) x) =
    slice_get-get_or (x ∷ xs) (length (x ∷ xs) - 1) x (omega arith) in
    rw there (all (length (x ∷ xs) - 1) x (omega arith))

-- the last one is the one behind the others
pub last_behind : {A : Type 0} (xs : List A) (x : A) → last_of (xs ++ x ∷ []) ≡ Some x
last_behind xs x =
    let size : length (xs ++ x ∷ []) - 1 ≡ length xs = omega (arith, length-append xs (x ∷ [])) in
    let there : slice_get (xs ++ x ∷ []) (length xs) ≡ Some (get_or (xs ++ x ∷ []) (length xs) x) =
    slice_get-get_or (xs ++ x ∷ []) (length xs) x (omega (arith, length-append xs (x ∷ []))) in
    rw (size, there, get_or-append_seam xs x [] x) refl
