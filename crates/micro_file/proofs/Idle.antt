-- A word that does nothing is all zeros.
use Rattle.std.proofs.Common.{◌≡◌, ℕ, zero, suc, ◌+◌, ◌-◌, ◌*◌, ◌≤◌, List, [], ◌∷◌, ◌++◌, length, replicate, Ok}
use Rattle.std.proofs.Common.{refl, sym, ◌∙◌, ap, arith, append_assoc}
use Rattle.std.proofs.lemmas.List.{replicate-append-replicate, length-replicate, length-append, take_at}
use Rattle.micro_image.specs.declared.image.Enable.{Enable}
use Rattle.micro_image.specs.declared.image.Image.{Image}
use Rattle.micro_image.specs.declared.image.Issue.{Issue}
use Rattle.micro_image.specs.declared.image.Take.{Take}
use Rattle.micro_image.specs.Fields.{nth, no_unit, no_word}
use Rattle.operations.specs.declared.units.PortRef.{PortRef}
use Rattle.micro_file.specs.Private.Fields.{Reading, each_at}
use Rattle.micro_file.specs.Private.PackedWords.{most_takes, slot_at, slots_at, drive_at, unit_drives_at, drives_at}
use Rattle.micro_file.specs.Private.PackedWords.{takes_at, file_takes_at, unit_takes_at, word_takes_at, packed_word_at}
use Rattle.micro_bits.proofs.Sizes.{sizes_alike}
use Rattle.micro_bits.specs.Idle.{sizes, files_of, idle_bits}
use Rattle.micro_file.specs.Private.Zeros.{StartsWithZeros}
use Rattle.micro_file.proofs.Flags.{no_flag}
use Rattle.micro_file.proofs.PortTakes.{takes_end}

-- so many zeros, and more behind them
zeros_behind : (m n : ℕ) (rest : List ℕ)
    → replicate (m + n) 0 ++ rest ≡ replicate m 0 ++ (replicate n 0 ++ rest)
zeros_behind m n rest =
    rw (sym (replicate-append-replicate {A = ℕ} m n 0)) (append_assoc (replicate m 0) (replicate n 0) rest)

-- zeros in front, and more behind them
pub more_zeros : (m n : ℕ) (bits own rest : List ℕ)
    → bits ≡ replicate m 0 ++ own
    → own ≡ replicate n 0 ++ rest
    → bits ≡ replicate (m + n) 0 ++ rest
more_zeros m n bits own rest h more =
    rw (zeros_behind m n rest) (h ∙ ap (λ (xs : List ℕ). replicate m 0 ++ xs) more)

-- how many are left behind them
pub zeros_left : (n : ℕ) (own rest : List ℕ) → own ≡ replicate n 0 ++ rest → length own ≡ n + length rest
zeros_left n own rest e =
    omega (arith, ap length e, length-append (replicate n 0) rest, length-replicate {A = ℕ} n 0)

pub starts_with : (n : ℕ) (bits rest : List ℕ) → bits ≡ replicate n 0 ++ rest → StartsWithZeros n bits
starts_with n bits rest e = rw e (take_at (replicate n 0) rest n (length-replicate {A = ℕ} n 0))

-- where zeros are no values of any number, they are none of all
module _ {A : Type 0} (one : List A → ℕ → List ℕ → Reading (List A)) (size : ℕ → ℕ)
    (none : (front : List A) (k : ℕ) (rest : List ℕ)
    → one front k (replicate (size k) 0 ++ rest) ≡ Ok (front, rest)) where
  none_of_each : (front : List A) (first count : ℕ) (rest : List ℕ)
      → each_at one front first count (replicate (sizes size first count) 0 ++ rest) ≡ Ok (front, rest)
  unfolding each_at sizes
  none_of_each front first zero rest = refl
  none_of_each front first (suc n) rest =
      rw (
        zeros_behind (size first) (sizes size (first + 1) n) rest,
        none front first (replicate (sizes size (first + 1) n) 0 ++ rest),
      ) (none_of_each front (first + 1) n rest)

-- the same of a size that all have
module _ {A : Type 0} (one : List A → ℕ → List ℕ → Reading (List A)) (size : ℕ)
    (none : (front : List A) (k : ℕ) (rest : List ℕ) → one front k (replicate size 0 ++ rest) ≡ Ok (front, rest)) where
  none_of_all : (front : List A) (first count : ℕ) (rest : List ℕ)
      → each_at one front first count (replicate (count * size) 0 ++ rest) ≡ Ok (front, rest)
  none_of_all front first count rest =
      rw (sym (sizes_alike size first count)) (none_of_each one (λ _. size) none front first count rest)

-- flags that are 0
module _ {A : Type 0} (one : List A → ℕ → List ℕ → Reading (List A))
    (none : (front : List A) (k : ℕ) (rest : List ℕ) → one front k (0 ∷ rest) ≡ Ok (front, rest)) where
  none_of_flags : (front : List A) (first count : ℕ) (rest : List ℕ)
      → each_at one front first count (replicate count 0 ++ rest) ≡ Ok (front, rest)
  none_of_flags front first count rest =
      let e : count * 1 ≡ count = omega arith in
      rw e at (none_of_all one 1 none front first count rest)

  -- where some stand in front, what is behind them is read
  flags_in_front : (front : List A) (first n more : ℕ) (rest : List ℕ)
      → each_at one front first (n + more) (replicate n 0 ++ rest) ≡ each_at one front (first + n) more rest
  unfolding each_at
  flags_in_front front first zero more rest =
      let e : first + 0 ≡ first = omega arith in
      let all : 0 + more ≡ more = omega arith in
      rw (e, all) refl
  flags_in_front front first (suc n) more rest =
      let e : first + suc n ≡ (first + 1) + n = omega arith in
      let all : suc n + more ≡ suc (n + more) = omega arith in
      rw (e, all, none front first (replicate n 0 ++ rest)) (flags_in_front front (first + 1) n more rest)

  -- the step of a loop that passes some
  pub flags_go_on : (front : List A) (count i : ℕ) (bits : List ℕ) (total : Reading (List A))
      → each_at one front i (count - i) bits ≡ total
      → (n : ℕ) (rest : List ℕ)
      → n ≤ count - i
      → bits ≡ replicate n 0 ++ rest
      → each_at one front (i + n) (count - (i + n)) rest ≡ total
  flags_go_on front count i bits total so_far n rest le h =
      let k : count - i ≡ n + (count - (i + n)) = omega arith in
      sym (flags_in_front front i n (count - (i + n)) rest) ∙ rw (k, h) at so_far

-- no bus is driven
pub no_drive : (unit : ℕ) (front : List Enable) (bus : ℕ) (rest : List ℕ)
    → drive_at unit front bus (0 ∷ rest) ≡ Ok (front, rest)
unfolding drive_at
no_drive unit front bus rest = rw (no_flag rest) refl

module _ (image : Image) where
  pub no_slot : (front : List Issue) (unit : ℕ) (rest : List ℕ) → slot_at image front unit (0 ∷ rest) ≡ Ok (front, rest)
  unfolding slot_at
  no_slot front unit rest = rw (no_flag rest) refl

  -- no bus is driven by the unit
  pub no_unit_drives : (front : List Enable) (unit : ℕ) (rest : List ℕ)
      → unit_drives_at image front unit (replicate image.buses 0 ++ rest) ≡ Ok (front, rest)
  unfolding unit_drives_at
  no_unit_drives front unit rest = none_of_flags (drive_at unit) (no_drive unit) front 0 image.buses rest

  -- nothing is taken into a register file
  pub none_taken : (port : PortRef) (size room : ℕ) (front : List Take) (rest : List ℕ)
      → takes_at image port size room front (0 ∷ rest) ≡ Ok (front, rest)
  none_taken port size room front rest = takes_end image port size room front (0 ∷ rest) rest (no_flag rest)

  no_file_takes : (unit : ℕ) (front : List Take) (port : ℕ) (rest : List ℕ)
      → file_takes_at image unit front port (0 ∷ rest) ≡ Ok (front, rest)
  unfolding file_takes_at
  no_file_takes unit front port rest =
      none_taken (record { unit = unit; port = port }) (length (nth (nth image.units unit no_unit).files port []))
      (most_takes - length front) front rest

  -- nothing is taken into the unit's files
  pub no_unit_takes : (front : List Take) (unit : ℕ) (rest : List ℕ)
      → unit_takes_at image front unit (replicate (files_of image unit) 0 ++ rest) ≡ Ok (front, rest)
  unfolding unit_takes_at
  no_unit_takes front unit rest =
      none_of_flags (file_takes_at image unit) (no_file_takes unit) front 0 (files_of image unit) rest

  -- they are read as the word
  pub idle_word_at : (rest : List ℕ) → packed_word_at image (replicate (idle_bits image) 0 ++ rest) ≡ Ok (no_word, rest)
  unfolding packed_word_at slots_at drives_at word_takes_at
  idle_word_at rest =
      let units : ℕ = length image.units in
      let takes : List ℕ = replicate (sizes (files_of image) 0 (length image.units)) 0 ++ rest in
      let drives : List ℕ = replicate (length image.units * image.buses) 0 ++ takes in
      rw (
        zeros_behind (length image.units + length image.units * image.buses)
            (sizes (files_of image) 0 (length image.units)) rest,
        zeros_behind (length image.units) (length image.units * image.buses) takes,
        none_of_flags (slot_at image) no_slot [] 0 (length image.units) drives,
        none_of_all (unit_drives_at image) image.buses no_unit_drives [] 0 (length image.units) takes,
        none_of_each (unit_takes_at image) (files_of image) no_unit_takes [] 0 (length image.units) rest,
      ) refl
