-- Reading the values of several numbers one after the other, as a loop does.
use Rattle.std.proofs.Common.{◌≡◌, ℕ, suc, ◌-◌, ◌+◌, ◌≤◌, ◌<◌, List, Ok, Err, refl, sym, ◌∙◌}
use Rattle.std.proofs.Common.{arith}
use Rattle.micro_file.specs.declared.misread.Unread.{Unread}
use Rattle.micro_file.specs.declared.misread.Unread.TheVariants as unread
use Rattle.micro_file.specs.Private.Fields.{Reading, each_at}
use Rattle.micro_file.specs.Private.Reads.{Fails}

module _ {A : Type 0} (one : List A → ℕ → List ℕ → Reading (List A)) (front : List A) (count i : ℕ) (bits : List ℕ)
    (total : Reading (List A)) (so_far : each_at one front i (count - i) bits ≡ total) where
  -- the step of a loop that reads those of one more number
  pub goes_on : (whole : List A) (after : List ℕ)
      → i < count
      → one front i bits ≡ Ok (whole, after)
      → each_at one whole (i + 1) (count - (i + 1)) after ≡ total
  unfolding each_at
  goes_on whole after lt h =
      let k : count - i ≡ suc (count - (i + 1)) = omega arith in
      let step : each_at one front i (count - i) bits
      ≡ each_at one whole (i + 1) (count - (i + 1)) after = rw (k, h) refl in
      sym step ∙ so_far

  -- what could not be read ends the loop
  pub ends : (e : Unread) → i < count → Fails e (one front i bits) → Fails e total
  unfolding each_at
  ends unread.Memory lt h = tt
  ends (unread.Misread misread) lt h =
      let k : count - i ≡ suc (count - (i + 1)) = omega arith in
      let step : each_at one front i (count - i) bits ≡ Err misread = rw (k, h) refl in
      sym so_far ∙ step

  pub is_done : count ≤ i → total ≡ Ok (front, bits)
  unfolding each_at
  is_done le =
      let k : count - i ≡ 0 = omega arith in
      let step : each_at one front i (count - i) bits ≡ Ok (front, bits) = rw k refl in
      sym so_far ∙ step
