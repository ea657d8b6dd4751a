-- Rows in a list: what one has after another was written.
use Rattle.std.proofs.Common.{◌≡◌, ℕ, ◌+◌, ◌-◌, ◌*◌, ◌<◌, ◌≤◌, ◌⊎◌, List, ◌++◌, length, get_or, take, drop, ap, sym}
use Rattle.std.proofs.Common.{◌∙◌}
use Rattle.std.proofs.Common.{arith, inl, inr, append_assoc}
use Rattle.std.proofs.lemmas.Bool.{cases_lt}
use Rattle.std.proofs.lemmas.List.{length-append, length-drop, length-take-le, get_or-take, get_or-drop}
use Rattle.std.proofs.lemmas.List.{get_or_append_left, get_or-append_right, same_lists, drop_at, take_at}
use Rattle.std.proofs.Common.{mul-le-mul_right}

-- a row by its words
abbrev pub part : {A : Type 0} → (width from : ℕ) → List A → List A
part width from xs = take width (drop from xs)

pub length-part : {A : Type 0} (width from : ℕ) (xs : List A)
    → from + width ≤ length xs
    → length (part width from xs) ≡ width
length-part width from xs h = length-take-le width (drop from xs) (omega (arith, h, length-drop from xs))

pub get_or-part : {A : Type 0} (width from : ℕ) (xs : List A) (i : ℕ) (d : A)
    → i < width
    → get_or (part width from xs) i d ≡ get_or xs (from + i) d
get_or-part width from xs i d h = get_or-take width (drop from xs) i d h ∙ get_or-drop from xs i d

-- A part of a list is written.
module _ {A : Type 0} (from width : ℕ) (old mid : List A) (count : length mid ≡ width)
    (room : from + width ≤ length old) where
  front_length : length (take from old ++ mid) ≡ from + width
  front_length =
      length-append (take from old) mid
      ∙ omega (arith, length-take-le from old (omega (arith, room)), count)

  pub length-written : length (take from old ++ mid ++ drop (from + width) old) ≡ length old
  length-written =
      length-append (take from old ++ mid) (drop (from + width) old)
      ∙ omega (arith, front_length, length-drop (from + width) old, room)

  pub written_here : part width from (take from old ++ mid ++ drop (from + width) old) ≡ mid
  written_here =
      ap (λ (l : List A). take width l)
      (ap (λ (l : List A). drop from l) (append_assoc (take from old) mid (drop (from + width) old))
      ∙ drop_at (take from old) (mid ++ drop (from + width) old) from (length-take-le from old (omega (arith, room))))
      ∙ take_at mid (drop (from + width) old) width count

  before : (i : ℕ) (d : A)
      → i < from
      → get_or (take from old ++ mid ++ drop (from + width) old) i d ≡ get_or old i d
  before i d h =
      let inside : i < length (take from old) =
      omega (arith, h, length-take-le from old (omega (arith, room))) in
      let in_front : i < length (take from old ++ mid) = omega (arith, h, front_length) in
      get_or_append_left (take from old ++ mid) (drop (from + width) old) d i in_front
      ∙ get_or_append_left (take from old) mid d i inside
      ∙ get_or-take from old i d h

  behind : (i : ℕ) (d : A)
      → from + width ≤ i
      → get_or (take from old ++ mid ++ drop (from + width) old) i d ≡ get_or old i d
  behind i d h =
      let same : from + width + (i - (from + width)) ≡ i = omega (arith, h) in
      get_or-append_right (take from old ++ mid) (drop (from + width) old) (from + width) i d front_length h
      ∙ get_or-drop (from + width) old (i - (from + width)) d
      ∙ ap (λ (k : ℕ). get_or old k d) same

  -- a part that ends before it or begins behind it
  pub written_other : (other : ℕ)
      → other + width ≤ length old
      → (other + width ≤ from) ⊎ (from + width ≤ other)
      → part width other (take from old ++ mid ++ drop (from + width) old) ≡ part width other old
  written_other other within apart =
      let long : other + width ≤ length (take from old ++ mid ++ drop (from + width) old) =
      omega (arith, within, length-written) in
      same_parts _ old long within (λ i d h. at i d h apart)
    where
      at : (i : ℕ) (d : A)
          → i < width
          → (other + width ≤ from) ⊎ (from + width ≤ other)
          → get_or (take from old ++ mid ++ drop (from + width) old) (other + i) d ≡ get_or old (other + i) d
      at i d h (inl early) = before (other + i) d (omega (arith, h, early))
      at i d h (inr late) = behind (other + i) d (omega (arith, late))

      same_parts : (xs ys : List A)
          → other + width ≤ length xs
          → other + width ≤ length ys
          → ((i : ℕ) (d : A) → i < width → get_or xs (other + i) d ≡ get_or ys (other + i) d)
          → part width other xs ≡ part width other ys
      same_parts xs ys long_x long_y same =
          same_lists (part width other xs) (part width other ys)
          (length-part width other xs long_x ∙ sym (length-part width other ys long_y))
          (λ i d h.
          let inside : i < width = omega (arith, h, length-part width other xs long_x) in
          get_or-part width other xs i d inside ∙ same i d inside ∙ sym (get_or-part width other ys i d inside))

-- rows of so many words at different places are apart
pub rows_apart : (width k place : ℕ)
    → (k ≡ place → ⊥)
    → (k * width + width ≤ place * width) ⊎ (place * width + width ≤ k * width)
rows_apart width k place apart =
    elim (cases_lt k place) [
      | inl early ↦
          let more : (k + 1) * width ≤ place * width = mul-le-mul_right width (omega (arith, early)) in
          inl (omega (arith, more))
      | inr late ↦
          let more : (place + 1) * width ≤ k * width = mul-le-mul_right width (omega (arith, late, apart)) in
          inr (omega (arith, more))
    ]

-- a row at a place that is there
pub row_within : (width place places : ℕ) → place < places → place * width + width ≤ places * width
row_within width place places h =
    let more : (place + 1) * width ≤ places * width = mul-le-mul_right width (omega (arith, h)) in
    omega (arith, more)
