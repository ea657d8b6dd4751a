-- The last dot of a text, found from its end.
use Rattle.std.proofs.Common.{◌≡◌, ℕ, zero, suc, ◌+◌, ◌-◌, ◌<◌, ◌==◌, length-drop, true, false, List, [], ◌∷◌, length}
use Rattle.std.proofs.Common.{take, drop, get_or, Some, None, refl, sym, arith}
use Rattle.std.proofs.Math.Seq.{take-length}
use Rattle.std.proofs.lemmas.Bool.Decides.{nat_tests}
use Rattle.std.proofs.lemmas.List.{drop_more}
use Rattle.datapath.specs.Names.{last_dot}

is_dot : (b : ℕ) → b ≡ 46 → (b == 46) ≡ true
is_dot b h = grind (arith, nat_tests)

pub is_other : (b : ℕ) → (b ≡ 46 → ⊥) → (b == 46) ≡ false
is_other b h = grind (arith, nat_tests)

-- the last dot stands at k
pub last_dot_at : (xs : List ℕ) (k : ℕ)
    → k < length xs
    → get_or xs k 0 ≡ 46
    → last_dot (drop (suc k) xs) ≡ None
    → Some (take k xs, drop (suc k) xs) ≡ last_dot xs
last_dot_at [] k lt dot after = absurd (omega arith)
last_dot_at (b ∷ bs) zero lt dot after = rw (after, is_dot b dot) refl
last_dot_at (b ∷ bs) (suc k) lt dot after = rw (← last_dot_at bs k (omega arith) dot after) refl

-- no dot stands from k on
pub last_dot_none : (xs : List ℕ) (k : ℕ)
    → k < length xs
    → (get_or xs k 0 ≡ 46 → ⊥)
    → last_dot (drop (k + 1) xs) ≡ None
    → last_dot (drop k xs) ≡ None
last_dot_none xs k lt other after = rw (drop_more xs k 0 lt, after, is_other (get_or xs k 0) other) refl

-- as `&text[..k]` and `&text[k + 1..]` read
pub last_dot_here : (xs : List ℕ) (k n : ℕ)
    → n ≡ k + 1
    → k < length xs
    → get_or xs k 0 ≡ 46
    → last_dot (drop n xs) ≡ None
    → Some (take k xs, take (length xs - n) (drop n xs)) ≡ last_dot xs
last_dot_here xs k n at lt dot after =
    let same : n ≡ suc k = omega arith in
    let none : last_dot (drop (suc k) xs) ≡ None = rw (← same) after in
    let count : length xs - n ≡ length (drop n xs) = sym (length-drop n xs) in
    rw (count, take-length (drop n xs), same) (last_dot_at xs k lt dot none)
