-- The microwords of version 2 are read as they are laid out.
use Rattle.std.proofs.Common.{◌≡◌, ℕ, zero, suc, ◌-◌, ◌≤◌, Bool, true, false, cond, eqb, ltb, List, [], ◌∷◌}
use Rattle.std.proofs.Common.{◌++◌}
use Rattle.std.proofs.Common.{length, Ok, Err, refl, sym, subst, arith, inl, inr}
use Rattle.std.proofs.lemmas.Bool.{cases_lt}
use Rattle.std.proofs.lemmas.Bool.Decides.{nat_tests}
use Rattle.std.proofs.lemmas.List.{get_or_past}
use Rattle.operations.specs.declared.units.PortRef.{PortRef}
use Rattle.micro_image.specs.declared.image.Enable.{Enable}
use Rattle.micro_image.specs.declared.image.Image.{Image}
use Rattle.micro_image.specs.declared.image.Issue.{Issue}
use Rattle.micro_image.specs.declared.image.Take.{Take}
use Rattle.micro_image.specs.declared.image.UnitDesc.{UnitDesc}
use Rattle.micro_image.specs.declared.image.Word.{Word}
use Rattle.micro_image.specs.Bits.{in_bits}
use Rattle.micro_image.specs.Fields.{nth, no_unit}
use Rattle.micro_image.specs.Valid.{TakeBefore}
use Rattle.micro_file.specs.Hardware.{issue_on}
use Rattle.micro_file.specs.Layout.{chain, given, each}
use Rattle.micro_file.specs.PackedWords as packed
use Rattle.micro_file.specs.PackedWords.{number, own_bits, take_at}
use Rattle.micro_file.specs.Words.{IsAfter, files_of}
use Rattle.micro_file.specs.Private.Bits.{at_bits, number_at, number_below}
use Rattle.micro_file.specs.Private.Fields.{Reading, ◌>>=◌, kept, refused, last_of}
use Rattle.micro_file.specs.Private.Hardware.{issue_on_at}
use Rattle.micro_file.specs.Private.Order.{is_next, take_before, kept_next}
use Rattle.micro_file.specs.Private.PackedWords.{put_behind, slot_at, slots_at, drive_at, unit_drives_at, drives_at}
use Rattle.micro_file.specs.Private.PackedWords.{most_takes, taken_at, takes_at, file_takes_at, unit_takes_at}
use Rattle.micro_file.specs.Private.PackedWords.{word_takes_at, packed_word_at}
use Rattle.micro_file.proofs.BitsForm.{reads_bits, few_registers}
use Rattle.micro_file.proofs.BitsTold.{tells_bits, number_told, whole_told, tells_flagged}
use Rattle.micro_file.proofs.HardwareTold.{issue_on_told}
use Rattle.micro_file.proofs.IssueOnReader.{HasFewWords}
use Rattle.micro_file.proofs.Issues.{HasFiles, AllHave}
use Rattle.micro_file.proofs.Layouts.{Is, tells_placed, tells_same, tells_given, tells_next, tells_each}
use Rattle.micro_file.proofs.Layouts.{tells_judged}
use Rattle.micro_file.proofs.Readers.{bit_values}
use Rattle.micro_file.proofs.Transfers.{take_sound, take_whole}
use Rattle.micro_file.proofs.WordsTold.{next_after, after_next}

-- the value, and what is left behind a bit
abbrev passed : {A : Type 0} → A → ℕ × List ℕ → Reading A
passed x n = Ok (x, n.1)

-- a bit that is 0
kept_zero : {A : Type 0} (left : List ℕ) (x : A) (r : Reading ℕ)
    → ((r >>= λ n. kept left (ltb n.0 1) n) >>= passed x)
    ≡ (r >>= λ flag. cond (eqb flag.0 0) (passed x flag) (refused left))
kept_zero left x (Err m) = refl
kept_zero {A} left x (Ok n) = by (eqb n.0 0) refl
  where
    below : (b : Bool) → eqb n.0 0 ≡ b → ltb n.0 1 ≡ b
    below true e = grind (arith, nat_tests)
    below false e = grind (arith, nat_tests)

    by : (b : Bool)
        → eqb n.0 0 ≡ b
        → (kept left (ltb n.0 1) n >>= passed x) ≡ cond (eqb n.0 0) (passed x n) (refused left)
    by true e = rw (e, below true e) refl
    by false e = rw (e, below false e) refl

no_files : HasFiles no_unit
no_files = record { registers = λ port lt. absurd (omega (arith, lt)); count = refl }

module _ (image : Image) (few : HasFewWords image) (have : AllHave image) (buses : image.buses ≤ 32) where
  -- the files of a unit, or of none
  files_at : (unit : ℕ) → HasFiles (nth image.units unit no_unit)
  files_at unit = elim (cases_lt unit (length image.units)) [
    | inl lt ↦ have unit no_unit lt
    | inr past ↦ subst HasFiles (sym (get_or_past image.units unit no_unit past)) no_files
  ]

  -- ---- issues

  slot_told : (front : List Issue) (unit : ℕ) → Is bit_values (packed.slot image front unit) (slot_at image front unit)
  unfolding packed.slot slot_at
  slot_told front unit left fits =
      let x : UnitDesc = nth image.units unit no_unit in
      tells_flagged (given front)
      (chain (issue_on in_bits own_bits image unit x) (λ issue. given (front ++ issue ∷ []))) left
      (λ rest. Ok (front, rest)) (λ rest. put_behind front (issue_on_at at_bits image unit x rest)) fits
      (tells_given bit_values front) (λ rest d.
      tells_next bit_values (issue_on in_bits own_bits image unit x) (λ issue. given (front ++ issue ∷ [])) rest
      (λ (i : Issue × List ℕ). Ok (front ++ i.0 ∷ [], i.1)) (issue_on_at at_bits image unit x rest)
      (issue_on_told reads_bits tells_bits image few unit x (files_at unit).registers (files_at unit).count rest d)
      (λ i e d2. tells_given bit_values (front ++ i.0 ∷ []) i.1 d2))

  slots_told : Is bit_values (each (packed.slot image) [] 0 (length image.units)) (slots_at image)
  unfolding slots_at
  slots_told = tells_each bit_values (packed.slot image) (slot_at image) slot_told [] 0 (length image.units)

  -- ---- enables

  drive_told : (unit : ℕ) (front : List Enable) (bus : ℕ)
      → Is bit_values (packed.drive unit front bus) (drive_at unit front bus)
  unfolding packed.drive drive_at
  drive_told unit front bus left fits =
      tells_next bit_values (number 1 2) _ left
      (λ (flag : ℕ × List ℕ).
      Ok (cond (eqb flag.0 0) front (front ++ record { unit = unit; bus = bus } ∷ []), flag.1))
      (number_at 1 left) (whole_told 1 left fits) (λ flag e d.
      tells_given bit_values (cond (eqb flag.0 0) front (front ++ record { unit = unit; bus = bus } ∷ [])) flag.1 d)

  unit_drives_told : (front : List Enable) (unit : ℕ)
      → Is bit_values (each (packed.drive unit) front 0 image.buses) (unit_drives_at image front unit)
  unfolding unit_drives_at
  unit_drives_told front unit =
      tells_each bit_values (packed.drive unit) (drive_at unit) (drive_told unit) front 0 image.buses

  drives_told :
      Is bit_values (each (λ front unit. each (packed.drive unit) front 0 image.buses) [] 0 (length image.units))
      (drives_at image)
  unfolding drives_at
  drives_told =
      tells_each bit_values (λ front unit. each (packed.drive unit) front 0 image.buses) (unit_drives_at image)
      unit_drives_told [] 0 (length image.units)

  -- ---- takes

  module _ (port : PortRef) (size : ℕ) (small : size ≤ 256) where
    taken_told : (front : List Take) (flag : List ℕ)
        → Is bit_values (packed.packed_take image port size front flag) (taken_at image port size front flag)
    unfolding packed.packed_take taken_at
    taken_told front flag left fits =
        tells_next bit_values (number 5 image.buses) _ left
        (λ (b : ℕ × List ℕ).
        number_below 8 size b.1 >>= λ r. kept_next take_before front flag (take_at port b.0 r.0, r.1))
        (number_below 5 image.buses left) (number_told 5 image.buses (omega (arith, buses)) left fits) (λ b e d.
        tells_next bit_values (number 8 size) _ b.1
        (λ (r : ℕ × List ℕ). kept_next take_before front flag (take_at port b.0 r.0, r.1)) (number_below 8 size b.1)
        (number_told 8 size (omega (arith, small)) b.1 d) (λ r e2 d2.
        tells_judged bit_values flag (IsAfter TakeBefore front (take_at port b.0 r.0)) (take_at port b.0 r.0) r.1
        (is_next take_before (last_of front) (take_at port b.0 r.0)) d2
        (next_after take_before TakeBefore (last_of front) (take_at port b.0 r.0) take_sound)
        (after_next take_before TakeBefore (last_of front) (take_at port b.0 r.0) take_whole)))

    takes_told : (room : ℕ) (front : List Take)
        → Is bit_values (packed.takes image port size room front) (takes_at image port size room front)
    unfolding packed.takes takes_at
    takes_told zero front left fits =
        tells_same bit_values (chain (number 1 1) (λ flag. given front)) left
        (number_below 1 1 left >>= λ n. Ok (front, n.1))
        (number_at 1 left >>= λ flag. cond (eqb flag.0 0) (Ok (front, flag.1)) (refused left))
        (kept_zero left front (number_at 1 left))
        (tells_next bit_values (number 1 1) (λ flag. given front) left (λ (n : ℕ × List ℕ). Ok (front, n.1))
        (number_below 1 1 left) (number_told 1 1 (omega arith) left fits)
        (λ n e d. tells_given bit_values front n.1 d))
    takes_told (suc room) front left fits =
        tells_placed bit_values
        (λ place.
        packed.flagged (given front)
        (chain (packed.packed_take image port size front place)
        (λ x. packed.takes image port size room (front ++ x ∷ []))))
        left (takes_at image port size (suc room) front left)
        (tells_flagged (given front)
        (chain (packed.packed_take image port size front left)
        (λ x. packed.takes image port size room (front ++ x ∷ []))) left
        (λ rest. Ok (front, rest))
        (λ rest.
        taken_at image port size front left rest >>= λ x. takes_at image port size room (front ++ x.0 ∷ []) x.1)
        fits (tells_given bit_values front) (λ rest d.
        tells_next bit_values (packed.packed_take image port size front left)
        (λ x. packed.takes image port size room (front ++ x ∷ [])) rest
        (λ (x : Take × List ℕ). takes_at image port size room (front ++ x.0 ∷ []) x.1)
        (taken_at image port size front left rest) (taken_told front left rest d)
        (λ x e d2. takes_told room (front ++ x.0 ∷ []) x.1 d2)))

  file_takes_told : (unit : ℕ) (front : List Take) (port : ℕ)
      → Is bit_values (packed.file_takes image unit front port) (file_takes_at image unit front port)
  unfolding packed.file_takes file_takes_at
  file_takes_told unit front port =
      takes_told (record { unit = unit; port = port }) (length (nth (files_of image unit) port []))
      (few_registers (files_of image unit) 0 (files_at unit).registers (omega arith) port) (most_takes - length front)
      front

  unit_takes_told : (front : List Take) (unit : ℕ)
      → Is bit_values (each (packed.file_takes image unit) front 0 (length (files_of image unit)))
      (unit_takes_at image front unit)
  unfolding unit_takes_at
  unit_takes_told front unit =
      tells_each bit_values (packed.file_takes image unit) (file_takes_at image unit) (file_takes_told unit) front 0
      (length (files_of image unit))

  word_takes_told :
      Is bit_values
      (each (λ front unit. each (packed.file_takes image unit) front 0 (length (files_of image unit))) [] 0
      (length image.units)) (word_takes_at image)
  unfolding word_takes_at
  word_takes_told =
      tells_each bit_values
      (λ front unit. each (packed.file_takes image unit) front 0 (length (files_of image unit))) (unit_takes_at image)
      unit_takes_told [] 0 (length image.units)

  -- ---- a word

  abbrev whole_word : List Issue → List Enable → List Take → Word
  whole_word issues enables takes = record { issues = issues; enables = enables; takes = takes }

  pub packed_word_told : Is bit_values (packed.packed_word image) (packed_word_at image)
  unfolding packed.packed_word packed_word_at
  packed_word_told left fits =
      tells_next bit_values (each (packed.slot image) [] 0 (length image.units)) _ left
      (λ (i : List Issue × List ℕ).
      drives_at image i.1 >>= λ e. word_takes_at image e.1 >>= λ t. Ok (whole_word i.0 e.0 t.0, t.1))
      (slots_at image left) (slots_told left fits) (λ i e d.
      tells_next bit_values
      (each (λ front unit. each (packed.drive unit) front 0 image.buses) [] 0 (length image.units)) _ i.1
      (λ (e : List Enable × List ℕ). word_takes_at image e.1 >>= λ t. Ok (whole_word i.0 e.0 t.0, t.1))
      (drives_at image i.1) (drives_told i.1 d) (λ en e2 d2.
      tells_next bit_values
      (each (λ front unit. each (packed.file_takes image unit) front 0 (length (files_of image unit))) [] 0
      (length image.units)) _ en.1
      (λ (t : List Take × List ℕ). Ok (whole_word i.0 en.0 t.0, t.1)) (word_takes_at image en.1)
      (word_takes_told en.1 d2) (λ t e3 d3. tells_given bit_values (whole_word i.0 en.0 t.0) t.1 d3)))
