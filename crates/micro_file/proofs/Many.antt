-- Reading values one after the other, as a loop does.
use Rattle.std.proofs.Common.{◌≡◌, ℕ, suc, ◌-◌, ◌+◌, ◌≤◌, ◌<◌, List, [], ◌∷◌, ◌++◌, Result, Ok, Err, refl, sym, ◌∙◌}
use Rattle.std.proofs.Common.{arith}
use Rattle.micro_file.specs.declared.misread.Misread.{Misread}
use Rattle.micro_file.specs.declared.misread.Unread.{Unread}
use Rattle.micro_file.specs.declared.misread.Unread.TheVariants as unread
use Rattle.micro_file.specs.Private.Fields.{Reading, ◌>>=◌, many_at}
use Rattle.micro_file.specs.Private.Reads.{Fails}

-- what is read first fails, so all does
pub fails_then : {A B : Type 0} (e : Unread) (r : Result A Misread) (f : A → Result B Misread)
    → Fails e r
    → Fails e (r >>= f)
fails_then (unread.Misread misread) r f h = rw h refl
fails_then unread.Memory r f h = tt

module _ {A : Type 0} (one : List A → List ℕ → Reading A) (front : List A) (count i : ℕ) (bytes : List ℕ)
    (total : Reading (List A)) (so_far : many_at one front (count - i) bytes ≡ total) where
  -- the step of a loop that reads one more
  pub goes_on : (x : A) (after : List ℕ)
      → i < count
      → one front bytes ≡ Ok (x, after)
      → many_at one (front ++ x ∷ []) (count - (i + 1)) after ≡ total
  unfolding many_at
  goes_on x after lt h =
      let k : count - i ≡ suc (count - (i + 1)) = omega arith in
      let step : many_at one front (count - i) bytes
      ≡ many_at one (front ++ x ∷ []) (count - (i + 1)) after = rw (k, h) refl in
      sym step ∙ so_far

  -- what could not be read ends the loop
  pub ends : (e : Unread) → i < count → Fails e (one front bytes) → Fails e total
  unfolding many_at
  ends unread.Memory lt h = tt
  ends (unread.Misread misread) lt h =
      let k : count - i ≡ suc (count - (i + 1)) = omega arith in
      let step : many_at one front (count - i) bytes ≡ Err misread = rw (k, h) refl in
      sym so_far ∙ step

  pub is_done : count ≤ i → total ≡ Ok (front, bytes)
  unfolding many_at
  is_done le =
      let k : count - i ≡ 0 = omega arith in
      let step : many_at one front (count - i) bytes ≡ Ok (front, bytes) = rw k refl in
      sym so_far ∙ step
