-- Sums of sizes.
use Rattle.std.proofs.Common.{◌≡◌, ℕ, zero, suc, ◌+◌, ◌*◌, ◌<◌, ◌≤◌, ap, arith}
use Rattle.std.proofs.lemmas.Bool.{cases_lt}
use Rattle.std.proofs.Common.{inl, inr, ◌^◌, List, length, get_or, refl, subst, ◌∙◌}
use Rattle.std.proofs.lemmas.List.{get_or_read_under}
use Rattle.std.specs.List.{All}
use Rattle.micro_image.specs.declared.image.Image.{Image}
use Rattle.micro_image.specs.declared.image.UnitDesc.{UnitDesc}
use Rattle.micro_image.specs.Fields.{nth, no_unit}
use Rattle.micro_bits.specs.Idle.{sizes, files_of}

-- as many of one size
pub sizes_alike : (size first count : ℕ) → sizes (λ _. size) first count ≡ count * size
unfolding sizes
sizes_alike size first zero = omega arith
sizes_alike size first (suc n) =
    let more : suc n * size ≡ size + n * size = omega arith in
    omega (arith, sizes_alike size (first + 1) n, more)

module _ (size : ℕ → ℕ) where
  -- there is none
  pub no_sizes : sizes size 0 0 ≡ 0
  unfolding sizes
  no_sizes = omega arith

  sizes_more : (a n : ℕ) → sizes size a (suc n) ≡ sizes size a n + size (a + n)
  unfolding sizes
  sizes_more a zero =
      let same : size a ≡ size (a + 0) = ap size (omega arith) in
      omega (arith, same)
  sizes_more a (suc n) =
      let same : size (a + 1 + n) ≡ size (a + suc n) = ap size (omega arith) in
      let rest : sizes size (a + 1) (suc n) ≡ sizes size (a + 1) n + size (a + 1 + n) = sizes_more (a + 1) n in
      omega (arith, same, rest)

  -- one more
  pub start_more : (n : ℕ) → sizes size 0 (suc n) ≡ sizes size 0 n + size n
  start_more n =
      let same : size (0 + n) ≡ size n = ap size (omega arith) in
      omega (arith, sizes_more 0 n, same)

  -- a group ends where a later one starts, or before
  pub start_rises : (m n : ℕ) → m < n → sizes size 0 m + size m ≤ sizes size 0 n
  start_rises m zero lt = absurd (omega (arith, lt))
  start_rises m (suc n) lt = elim (cases_lt m n) [
    | inl less ↦ omega (arith, start_rises m n less, start_more n)
    | inr le ↦
        let same : m ≡ n = omega (arith, lt, le) in
        let starts : sizes size 0 m ≡ sizes size 0 n = ap (λ (k : ℕ). sizes size 0 k) same in
        let sized : size m ≡ size n = ap size same in
        omega (arith, starts, sized, start_more n)
  ]

-- the files of one more unit
module _ (image : Image) (items : List UnitDesc) (k files more : ℕ) (unit : UnitDesc) (same : items ≡ image.units)
    (lt : k < length items) (is : unit ≡ get_or items k unit) (own : more ≡ length unit.files) where
  own_files : more ≡ files_of image k
  own_files =
      let read : unit ≡ nth items k no_unit =
      get_or_read_under items k (length items) unit no_unit is lt refl in
      own ∙ ap (λ (u : UnitDesc). length u.files) (read ∙ ap (λ (units : List UnitDesc). nth units k no_unit) same)

  pub files_go_on : files ≡ sizes (files_of image) 0 k → files + more ≡ sizes (files_of image) 0 (k + 1)
  files_go_on so_far =
      let next : sizes (files_of image) 0 (suc k) ≡ sizes (files_of image) 0 (k + 1) =
      ap (λ (n : ℕ). sizes (files_of image) 0 n) (omega arith) in
      omega (arith, own_files, so_far, start_more (files_of image) k, next)

  pub few_go_on : All (λ unit. length unit.files ≤ 2 ^ 8) image.units → files ≤ 256 * k → files + more ≤ 256 * (k + 1)
  few_go_on ports so_far =
      let there : k < length image.units = subst (λ (units : List UnitDesc). k < length units) same lt in
      let bound : files_of image k ≤ 2 ^ 8 = ports k no_unit there in
      omega (arith, own_files, bound, so_far)
