-- In which cycles of a turn a cell has what it holds when the turn starts or ends, by hints that a certificate gives.
use Rattle.std.specs.Prelude.{◌≡◌, ℕ, ◌+◌, ◌-◌, ◌*◌, ◌<◌, ◌≤◌, ◌⊎◌, length}
use Rattle.micro_image.specs.declared.image.Image.{Image}
use Rattle.micro_image.specs.Fields.{nth}
use Rattle.image_labels.specs.declared.label.Label.{Label}
use Rattle.image_labels.specs.declared.label.Certificate.{Certificate}
use Rattle.image_labels.specs.Labels.{delay_on, ended_in, stored_label}

-- the last cycle in which a cell has what it holds when a turn starts, as the certificate has it
abbrev pub fresh_at : Certificate → (u x : ℕ) → ℕ
fresh_at certificate u x = nth certificate.fresh (u * 65536 + x) 0

-- the first cycle in which it has what it holds when the turn ends
abbrev pub settled_at : Certificate → (u x : ℕ) → ℕ
settled_at certificate u x = nth certificate.settled (u * 65536 + x) 0

-- by the certificate, no store into the cell ends in cycle c
abbrev pub IsQuiet : Certificate → (u x c : ℕ) → Type 0
IsQuiet certificate u x c = (c < fresh_at certificate u x) ⊎ (settled_at certificate u x ≤ c)

module _ (image : Image) (certificate : Certificate) where
  -- what ends on unit u in cycle c stores into no cell that is quiet then
  abbrev pub LeavesQuiet : (u c : ℕ) → Type 0
  LeavesQuiet u c =
      (x : ℕ)
      → IsQuiet certificate u x c
      → (before : Label)
      → stored_label image certificate (c - delay_on image u) x (ended_in image c u) before ≡ before

  -- in the first cycles of a turn, the stores on unit u are where the certificate has them
  abbrev pub AreQuiet : (u count : ℕ) → Type 0
  AreQuiet u count = (c : ℕ) → c < count → LeavesQuiet u c

  -- in all cycles, those on the first units are
  abbrev pub AreAllQuiet : (count : ℕ) → Type 0
  AreAllQuiet count = (u : ℕ) → u < count → AreQuiet u (length image.words)
