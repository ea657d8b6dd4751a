-- Bytes spell an image or have a fault, never both, and they have one fault at most.
use Rattle.std.proofs.Common.{◌≡◌, ◌⊎◌, inl, inr, ℕ, List, length, Result, Ok, Err, refl, sym, ap, ◌∙◌}
use Rattle.micro_image.specs.declared.image.Image.{Image}
use Rattle.micro_image.specs.Spells.{Spells}
use Rattle.micro_bits.proofs.Bits.{IsDigits}
use Rattle.micro_file.specs.declared.fault.FormFault.{FormFault}
use Rattle.micro_file.specs.declared.misread.Misread.{Misread}
use Rattle.micro_file.specs.Faults.{placed, IsFormFault}
use Rattle.micro_file.specs.Private.File.{whole_at}
use Rattle.micro_file.proofs.FileReader.{whole_spells, spelled_whole, bytes_are}
use Rattle.micro_file.proofs.FileTold.{misread_stops, stops_misread, bytes_digits}
use Rattle.micro_file.proofs.Layouts.{err_is}
use Rattle.micro_file.proofs.Readers.{byte_values, not_both}

-- what is misread is the fault
pub misread_fault : (bytes : List ℕ) (misread : Misread)
    → IsDigits byte_values bytes
    → whole_at bytes ≡ Err misread
    → IsFormFault bytes (placed (length bytes) misread)
misread_fault bytes misread fits e = record {
  are_bytes = bytes_are bytes fits;
  misread = misread;
  stops = misread_stops bytes misread fits e;
  place = refl;
}

-- and the fault is what is misread
pub fault_misread : (bytes : List ℕ) (fault : FormFault)
    → (faulty : IsFormFault bytes fault)
    → whole_at bytes ≡ Err faulty.misread
fault_misread bytes fault faulty =
    stops_misread bytes faulty.misread (bytes_digits bytes faulty.are_bytes) faulty.stops

pub spelled_or_faulty : (bytes : List ℕ)
    → IsDigits byte_values bytes
    → ((image : Image) × Spells bytes image) ⊎ ((fault : FormFault) × IsFormFault bytes fault)
spelled_or_faulty bytes fits = by (whole_at bytes) refl
  where
    by : (r : Result Image Misread)
        → whole_at bytes ≡ r
        → ((image : Image) × Spells bytes image) ⊎ ((fault : FormFault) × IsFormFault bytes fault)
    by (Ok image) e = inl (image, whole_spells bytes fits image e)
    by (Err misread) e = inr (placed (length bytes) misread, misread_fault bytes misread fits e)

pub spelled_no_fault : (bytes : List ℕ) (image : Image) (fault : FormFault)
    → Spells bytes image
    → IsFormFault bytes fault
    → ⊥
spelled_no_fault bytes image fault spells faulty =
    not_both (whole_at bytes) image faulty.misread (spelled_whole bytes image spells)
    (fault_misread bytes fault faulty)

pub one_fault : (bytes : List ℕ) (a b : FormFault) → IsFormFault bytes a → IsFormFault bytes b → a ≡ b
one_fault bytes a b x y = x.place ∙ ap (placed (length bytes)) same ∙ sym y.place
  where
    same : x.misread ≡ y.misread
    same = err_is {A = Image} x.misread y.misread (sym (fault_misread bytes a x) ∙ fault_misread bytes b y)
