-- A loop that passes flags which are 0 before it reads what stands behind the next one.
use Rattle.std.proofs.Common.{◌≡◌, ◌≢◌, ℕ, zero, suc, ◌-◌, ◌+◌, ◌≤◌, ◌<◌, List, [], ◌∷◌, ◌++◌, length, drop, get_or}
use Rattle.std.proofs.Common.{replicate, Ok, refl, sym, ap, ◌∙◌, arith}
use Rattle.std.proofs.lemmas.List.{drop_more, drop_all, drop-drop, length-drop}
use Rattle.micro_file.specs.declared.misread.Unread.{Unread}
use Rattle.micro_file.specs.declared.misread.Unread.TheVariants as unread
use Rattle.micro_file.specs.Private.Fields.{Reading, ◌>>=◌, each_at}
use Rattle.micro_file.specs.Private.Reads.{Fails}
use Rattle.micro_file.specs.Private.WordFlags.{over_at}
use Rattle.micro_file.proofs.Groupwise as groupwise
use Rattle.micro_file.proofs.Idle.{flags_go_on}

module _ {A : Type 0} (one : List A → ℕ → List ℕ → Reading (List A))
    (none : (front : List A) (k : ℕ) (rest : List ℕ)
    → one front k (0 ∷ rest) ≡ Ok (front, rest)) (front : List A) (count i : ℕ) (bits : List ℕ)
    (total : Reading (List A)) (within : i ≤ count) (so_far : each_at one front i (count - i) bits ≡ total) (passed : ℕ)
    (rest : List ℕ) (most : passed ≤ count - i) (zeros : bits ≡ replicate passed 0 ++ rest) where
  behind : each_at one front (i + passed) (count - (i + passed)) rest ≡ total
  behind = flags_go_on one none front count i bits total so_far passed rest most zeros

  pub is_done : i + passed ≡ count → total ≡ Ok (front, rest)
  is_done all = groupwise.is_done one front count (i + passed) rest total behind (omega (arith, all))

  module _ (some : i + passed ≢ count) where
    pub inside : i + passed < count
    inside = omega (arith, some, most, within)

    pub goes_on : (whole : List A) (after : List ℕ)
        → one front (i + passed) rest ≡ Ok (whole, after)
        → (i + passed + 1 ≤ count) × (each_at one whole (i + passed + 1) (count - (i + passed + 1)) after ≡ total)
    goes_on whole after h = (
      omega (arith, inside),
      groupwise.goes_on one front count (i + passed) rest total behind whole after inside h,
    )

    pub ends : (e : Unread) → Fails e (one front (i + passed) rest) → Fails e total
    ends e h = groupwise.ends one front count (i + passed) rest total behind e inside h

-- ---- the same over a list

module _ {A B : Type 0} (one : List A → B → List ℕ → Reading (List A))
    (none : (front : List A) (y : B) (rest : List ℕ) → one front y (0 ∷ rest) ≡ Ok (front, rest)) where
  -- zeros of the first ones
  over_zeros : (n : ℕ) (ys : List B) (front : List A) (rest : List ℕ)
      → n ≤ length ys
      → over_at one front ys (replicate n 0 ++ rest) ≡ over_at one front (drop n ys) rest
  unfolding over_at
  over_zeros zero ys front rest le = refl
  over_zeros (suc n) [] front rest le = absurd (omega (arith, le))
  over_zeros (suc n) (y ∷ ys) front rest le =
      rw (none front y (replicate n 0 ++ rest)) (over_zeros n ys front rest (omega (arith, le)))

  module _ (ys : List B) (front : List A) (k : ℕ) (bits : List ℕ) (total : Reading (List A)) (within : k ≤ length ys)
      (so_far : over_at one front (drop k ys) bits ≡ total) (passed : ℕ) (rest : List ℕ) (most : passed ≤ length ys - k)
      (zeros : bits ≡ replicate passed 0 ++ rest) where
    over_behind : over_at one front (drop (k + passed) ys) rest ≡ total
    over_behind =
        let left : length (drop k ys) ≡ length ys - k = length-drop k ys in
        sym (ap (λ (zs : List B). over_at one front zs rest) (drop-drop passed k ys))
        ∙ sym (over_zeros passed (drop k ys) front rest (omega (arith, left, most)))
        ∙ ap (over_at one front (drop k ys)) (sym zeros)
        ∙ so_far

    pub over_done : k + passed ≡ length ys → total ≡ Ok (front, rest)
    unfolding over_at
    over_done all =
        sym over_behind
        ∙ ap (λ (zs : List B). over_at one front zs rest) (drop_all (k + passed) ys (omega (arith, all)))

    module _ (some : k + passed ≢ length ys) (y : B) (is : y ≡ get_or ys (k + passed) y) where
      here : drop (k + passed) ys ≡ y ∷ drop (k + passed + 1) ys
      here =
          drop_more ys (k + passed) y (omega (arith, some, most, within))
          ∙ ap (λ (z : B). z ∷ drop (k + passed + 1) ys) (sym is)

      step : (one front y rest >>= λ x. over_at one x.0 (drop (k + passed + 1) ys) x.1) ≡ total
      unfolding over_at
      step = sym (ap (λ (zs : List B). over_at one front zs rest) here) ∙ over_behind

      pub over_goes_on : (whole : List A) (after : List ℕ)
          → one front y rest ≡ Ok (whole, after)
          → (k + passed + 1 ≤ length ys) × (over_at one whole (drop (k + passed + 1) ys) after ≡ total)
      over_goes_on whole after h = (omega (arith, some, most, within), rw h at step)

      pub over_ends : (e : Unread) → Fails e (one front y rest) → Fails e total
      over_ends unread.Memory h = tt
      over_ends (unread.Misread misread) h = sym (rw h at step)
