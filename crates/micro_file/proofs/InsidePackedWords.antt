-- Microwords of version 2 are misread inside the bits.
use Rattle.std.proofs.Common.{ℕ, zero, suc, ◌-◌, ◌≤◌, List, [], ◌∷◌, ◌++◌, length, Ok, arith}
use Rattle.micro_image.specs.declared.image.Enable.{Enable}
use Rattle.micro_image.specs.declared.image.Image.{Image}
use Rattle.micro_image.specs.declared.image.Issue.{Issue}
use Rattle.micro_image.specs.declared.image.Take.{Take}
use Rattle.micro_image.specs.Fields.{nth, no_unit}
use Rattle.operations.specs.declared.units.PortRef.{PortRef}
use Rattle.micro_file.specs.Private.Fields.{Reading, ◌>>=◌, refused, last_of}
use Rattle.micro_file.specs.Private.Bits.{at_bits, number_at, number_below}
use Rattle.micro_file.specs.Private.Order.{is_next, take_before}
use Rattle.micro_file.specs.Private.Hardware.{issue_on_at}
use Rattle.micro_file.specs.Private.PackedWords.{put_behind, slot_at, slots_at, drive_at, unit_drives_at, drives_at}
use Rattle.micro_file.specs.Private.PackedWords.{most_takes}
use Rattle.micro_file.specs.Private.PackedWords.{taken_at, takes_at, file_takes_at, unit_takes_at, word_takes_at}
use Rattle.micro_file.specs.Private.PackedWords.{packed_word_at}
use Rattle.micro_file.proofs.Inside.{IsInside, inside_more, next, behind, keeps, each_in}
use Rattle.micro_file.proofs.InsideBits.{inside_bits, number_in, below_in, flag_in}
use Rattle.micro_file.proofs.InsideUnits.{issue_on_in}
use Rattle.micro_file.proofs.WordLists.{lists_in}

put_in : {A : Type 0} (size : ℕ) (front : List A) (r : Reading A) → IsInside size r → IsInside size (put_behind front r)
put_in size front r h = next size r (λ x. Ok (front ++ x.0 ∷ [], x.1)) h (λ x le. le)

slot_in : (image : Image) (front : List Issue) (unit : ℕ) (bits : List ℕ)
    → IsInside (length bits) (slot_at image front unit bits)
unfolding slot_at
slot_in image front unit bits =
    let issue_at : List ℕ → Reading Issue = issue_on_at at_bits image unit (nth image.units unit no_unit) in
    flag_in bits front (λ rest. put_behind front (issue_at rest)) (λ rest le.
    put_in (length bits) front (issue_at rest)
    (inside_more (length rest) (length bits) (issue_at rest) le
    (issue_on_in inside_bits image unit (nth image.units unit no_unit) rest)))

slots_in : (image : Image) (bits : List ℕ) → IsInside (length bits) (slots_at image bits)
unfolding slots_at
slots_in image bits = each_in (slot_at image) (slot_in image) [] 0 (length image.units) bits

drive_in : (unit : ℕ) (front : List Enable) (bus : ℕ) (bits : List ℕ)
    → IsInside (length bits) (drive_at unit front bus bits)
unfolding drive_at
drive_in unit front bus bits = next (length bits) (number_at 1 bits) _ (number_in 1 bits) (λ flag le. le)

unit_drives_in : (image : Image) (front : List Enable) (unit : ℕ) (bits : List ℕ)
    → IsInside (length bits) (unit_drives_at image front unit bits)
unfolding unit_drives_at
unit_drives_in image front unit bits = each_in (drive_at unit) (drive_in unit) front 0 image.buses bits

drives_in : (image : Image) (bits : List ℕ) → IsInside (length bits) (drives_at image bits)
unfolding drives_at
drives_in image bits = each_in (unit_drives_at image) (unit_drives_in image) [] 0 (length image.units) bits

-- the flag of a take is in front of what is left, and is blamed where the take is out of order
taken_in : (image : Image) (port : PortRef) (size : ℕ) (front : List Take) (flag bits : List ℕ)
    → length bits ≤ length flag
    → IsInside (length flag) (taken_at image port size front flag bits)
unfolding taken_at
taken_in image port size front flag bits less =
    next (length flag) (number_below 5 image.buses bits) _
    (inside_more (length bits) (length flag) (number_below 5 image.buses bits) less (below_in 5 image.buses bits))
    (λ b lb.
    next (length flag) (number_below 8 size b.1) _
    (inside_more (length b.1) (length flag) (number_below 8 size b.1) lb (below_in 8 size b.1)) (λ r lr.
    let take : Take = record { port = port; bus = b.0; reg = r.0 } in
    keeps (length flag) flag (is_next take_before (last_of front) take) (take, r.1) (omega arith) lr))

takes_in : (image : Image) (port : PortRef) (size room : ℕ) (front : List Take) (bits : List ℕ)
    → IsInside (length bits) (takes_at image port size room front bits)
unfolding takes_at
takes_in image port size zero front bits = flag_in bits front (λ _. refused bits) (λ rest le. omega arith)
takes_in image port size (suc room) front bits =
    flag_in bits front
    (λ rest. taken_at image port size front bits rest >>= λ x. takes_at image port size room (front ++ x.0 ∷ []) x.1)
    (λ rest le.
    behind (length bits) (taken_at image port size front bits rest)
    (λ x. takes_at image port size room (front ++ x.0 ∷ []) x.1) (taken_in image port size front bits rest le)
    (λ x. takes_in image port size room (front ++ x.0 ∷ []) x.1))

file_takes_in : (image : Image) (unit : ℕ) (front : List Take) (port : ℕ) (bits : List ℕ)
    → IsInside (length bits) (file_takes_at image unit front port bits)
unfolding file_takes_at
file_takes_in image unit front port bits =
    takes_in image (record { unit = unit; port = port }) (length (nth (nth image.units unit no_unit).files port []))
    (most_takes - length front) front bits

unit_takes_in : (image : Image) (front : List Take) (unit : ℕ) (bits : List ℕ)
    → IsInside (length bits) (unit_takes_at image front unit bits)
unfolding unit_takes_at
unit_takes_in image front unit bits =
    each_in (file_takes_at image unit) (file_takes_in image unit) front 0
    (length (nth image.units unit no_unit).files) bits

word_takes_in : (image : Image) (bits : List ℕ) → IsInside (length bits) (word_takes_at image bits)
unfolding word_takes_at
word_takes_in image bits = each_in (unit_takes_at image) (unit_takes_in image) [] 0 (length image.units) bits

pub packed_word_in : (image : Image) (bits : List ℕ) → IsInside (length bits) (packed_word_at image bits)
unfolding packed_word_at
packed_word_in image =
    lists_in (slots_at image) (drives_at image) (word_takes_at image) (slots_in image) (drives_in image)
    (word_takes_in image)
