-- The flags of unit after unit as one row of flags.
use Rattle.std.proofs.Common.{◌≡◌, ℕ, zero, suc, ◌+◌, ◌-◌, List, [], ◌∷◌, ◌++◌, length, Ok, Err, refl, sym, ap, ◌∙◌}
use Rattle.std.specs.List.{flat_map, range_with_len}
use Rattle.std.proofs.lemmas.List.Concat.{flat_map-cons}
use Rattle.micro_image.specs.declared.image.Enable.{Enable}
use Rattle.micro_image.specs.declared.image.Image.{Image}
use Rattle.micro_image.specs.declared.image.Issue.{Issue}
use Rattle.micro_image.specs.declared.image.Take.{Take}
use Rattle.micro_image.specs.declared.image.Word.{Word}
use Rattle.micro_image.specs.Fields.{nth, no_unit}
use Rattle.micro_file.specs.declared.word_flags.PortFile.{PortFile}
use Rattle.micro_file.specs.Private.Fields.{Reading, ◌>>=◌, each_at}
use Rattle.micro_file.specs.Private.PackedWords.{most_takes, slots_at, unit_drives_at, drives_at, file_takes_at}
use Rattle.micro_file.specs.Private.PackedWords.{unit_takes_at}
use Rattle.micro_file.specs.Private.PackedWords.{word_takes_at, packed_word_at}
use Rattle.micro_file.specs.Private.WordFlags.{drive_of, file_of, every_drive, every_file, on_at, into_at, over_at}
use Rattle.micro_file.specs.Private.WordFlags.{listed_drives_at, listed_takes_at, listed_word_at}
use Rattle.micro_file.proofs.Idle.{no_drive, none_taken}

then_same : {A B : Type 0} (r : Reading A) (f g : A × List ℕ → Reading B)
    → ((x : A × List ℕ) → f x ≡ g x)
    → (r >>= f) ≡ (r >>= g)
then_same (Ok x) f g e = e x
then_same (Err misread) f g e = refl

then_then : {A : Type 0} (r : Reading (List A)) (f g h : List A × List ℕ → Reading (List A))
    → ((x : List A × List ℕ) → h x ≡ (f x >>= g))
    → (r >>= h) ≡ ((r >>= f) >>= g)
then_then (Ok x) f g h e = e x
then_then (Err misread) f g h e = refl

module _ {A B : Type 0} (one : List A → B → List ℕ → Reading (List A)) where
  over_parts : (ys zs : List B) (front : List A) (bits : List ℕ)
      → over_at one front (ys ++ zs) bits ≡ (over_at one front ys bits >>= λ x. over_at one x.0 zs x.1)
  unfolding over_at
  over_parts [] zs front bits = refl
  over_parts (y ∷ ys) zs front bits =
      then_then (one front y bits) (λ x. over_at one x.0 ys x.1) (λ x. over_at one x.0 zs x.1)
      (λ x. over_at one x.0 (ys ++ zs) x.1) (λ x. over_parts ys zs x.0 x.1)

  -- a row of places
  row : (place : ℕ → B) (first n : ℕ) (front : List A) (bits : List ℕ)
      → each_at (λ front k. one front (place k)) front first n bits
      ≡ over_at one front (flat_map (λ k. place k ∷ []) (range_with_len first n)) bits
  unfolding each_at over_at
  row place first zero front bits = refl
  row place first (suc n) front bits =
      then_same (one front (place first) bits) (λ x. each_at (λ front k. one front (place k)) x.0 (first + 1) n x.1)
      (λ x. over_at one x.0 (flat_map (λ k. place k ∷ []) (range_with_len (first + 1) n)) x.1)
      (λ x. row place (first + 1) n x.0 x.1)
      ∙ ap (λ (ys : List B). over_at one front ys bits)
      (sym (flat_map-cons (λ k. place k ∷ []) first (range_with_len (first + 1) n)))

  -- row by row
  rows : (place : ℕ → ℕ → B) (count : ℕ → ℕ) (first n : ℕ) (front : List A) (bits : List ℕ)
      → each_at (λ front u. each_at (λ front k. one front (place u k)) front 0 (count u)) front first n bits
      ≡ over_at one front
      (flat_map (λ u. flat_map (λ k. place u k ∷ []) (range_with_len 0 (count u))) (range_with_len first n))
      bits
  unfolding each_at over_at
  rows place count first zero front bits = refl
  rows place count first (suc n) front bits =
      let of : ℕ → List B = λ u. flat_map (λ k. place u k ∷ []) (range_with_len 0 (count u)) in
      let others : List B = flat_map of (range_with_len (first + 1) n) in
      let more : List A × List ℕ → Reading (List A) =
      λ x. each_at (λ front u. each_at (λ front k. one front (place u k)) front 0 (count u)) x.0 (first + 1) n x.1 in
      ap (λ (r : Reading (List A)). r >>= more) (row (place first) 0 (count first) front bits)
      ∙ then_same (over_at one front (of first) bits) more (λ x. over_at one x.0 others x.1)
      (λ x. rows place count (first + 1) n x.0 x.1)
      ∙ sym (over_parts (of first) others front bits)
      ∙ ap (λ (ys : List B). over_at one front ys bits) (sym (flat_map-cons of first (range_with_len (first + 1) n)))

-- the drives of a word in one row
flat_drives : (image : Image) (bits : List ℕ) → drives_at image bits ≡ listed_drives_at (every_drive image) bits
unfolding drives_at unit_drives_at every_drive
flat_drives image bits =
    rows on_at drive_of (λ _. image.buses) 0 (length image.units) [] bits

-- its register files in one row
flat_takes : (image : Image) (bits : List ℕ) → word_takes_at image bits ≡ listed_takes_at image (every_file image) bits
unfolding word_takes_at unit_takes_at file_takes_at every_file
flat_takes image bits =
    rows (into_at image) (λ number. file_of (nth image.units number no_unit) number)
    (λ number. length (nth image.units number no_unit).files) 0 (length image.units) [] bits

-- what is made of takes
abbrev with_takes : List Issue → List Enable → List Take × List ℕ → Reading Word
with_takes issues enables takes = Ok (record { issues = issues; enables = enables; takes = takes.0 }, takes.1)

-- the whole word
pub flat_word : (image : Image) (bits : List ℕ)
    → listed_word_at image (every_drive image) (every_file image) bits ≡ packed_word_at image bits
unfolding listed_word_at packed_word_at
flat_word image bits =
    then_same (slots_at image bits)
    (λ issues.
    listed_drives_at (every_drive image) issues.1 >>= λ enables.
    listed_takes_at image (every_file image) enables.1 >>= with_takes issues.0 enables.0)
    (λ issues.
    drives_at image issues.1 >>= λ enables. word_takes_at image enables.1 >>= with_takes issues.0 enables.0)
    (λ issues.
    rw (sym (flat_drives image issues.1))
    (then_same (drives_at image issues.1)
    (λ enables. listed_takes_at image (every_file image) enables.1 >>= with_takes issues.0 enables.0)
    (λ enables. word_takes_at image enables.1 >>= with_takes issues.0 enables.0)
    (λ enables. rw (sym (flat_takes image enables.1)) refl)))

-- no bus is driven so
pub not_on : (front : List Enable) (drive : Enable) (rest : List ℕ) → on_at front drive (0 ∷ rest) ≡ Ok (front, rest)
not_on front drive rest = no_drive drive.unit front drive.bus rest

-- nothing is taken into the file
pub none_into : (image : Image) (front : List Take) (file : PortFile) (rest : List ℕ)
    → into_at image front file (0 ∷ rest) ≡ Ok (front, rest)
none_into image front file rest = none_taken image file.port file.size (most_takes - length front) front rest
