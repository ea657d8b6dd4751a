-- Since when registers of a turn are not written: all in a cycle, and by a certificate's hints, those that are read.
use Rattle.std.specs.Prelude.{◌≡◌, ℕ, ◌+◌, ◌*◌, ◌<◌, ◌≤◌, ◌⊎◌, false, List, length, All, IsTrue}
use Rattle.micro_image.specs.declared.image.Image.{Image}
use Rattle.micro_image.specs.declared.image.Issue.{Issue}
use Rattle.micro_image.specs.declared.image.Take.{Take}
use Rattle.micro_image.specs.Fields.{nth}
use Rattle.image_labels.specs.declared.label.Certificate.{Certificate}
use Rattle.image_labels.specs.declared.label.Hints.{Hints}
use Rattle.image_labels.specs.Labels.{is_into, word_in}
use Rattle.image_labels.specs.Private.Settled.{AreAllQuiet}

-- no take is into register r of port p of unit u
abbrev pub AreElsewhere : (u p r : ℕ) → List Take → Type 0
AreElsewhere u p r takes = All (λ take. is_into u p r take ≡ false) takes

-- the register is not written from cycle `since` on, before cycle c
abbrev pub IsUnwritten : Image → (u p r since c : ℕ) → Type 0
IsUnwritten image u p r since c = (b : ℕ) → since ≤ b → b < c → AreElsewhere u p r (word_in image b).takes

-- where a list of all registers has one
abbrev pub place_of : (u p r : ℕ) → ℕ
place_of u p r = u * 1024 + p * 256 + r

-- the list has for each of its registers a cycle since which it is not written before cycle c
abbrev pub AreUnwritten : Image → (last : List ℕ) → (c : ℕ) → Type 0
AreUnwritten image last c =
    (u p r : ℕ) → place_of u p r < length last → IsUnwritten image u p r (nth last (place_of u p r) 0) c

-- and, of those that these takes of cycle c write, the cycle after it
pub record AreNoted (image : Image) (last : List ℕ) (c : ℕ) (takes : List Take) : Type 0 where
  pub before : AreUnwritten image last c
  pub now : (u p r : ℕ)
      → place_of u p r < length last
      → (nth last (place_of u p r) 0 ≡ c + 1) ⊎ AreElsewhere u p r takes

-- since which cycle, as the certificate has it, the register is not written that the issue of cycle c on unit u reads
-- at port p
abbrev pub written_at : Certificate → (c u p : ℕ) → ℕ
written_at certificate c u p = nth certificate.written (c * 96 + u * 3 + p) 0

module _ (image : Image) (certificate : Certificate) where
  -- that is so of what the issue of cycle c reads at port p
  abbrev pub IsReadSince : (c : ℕ) → Issue → (p : ℕ) → Type 0
  IsReadSince c issue p =
      IsUnwritten image issue.unit p (nth issue.regs p 0) (written_at certificate c issue.unit p) c

  -- of what it reads at each port
  abbrev pub AreReadSince : (c : ℕ) → Issue → Type 0
  AreReadSince c issue = (p : ℕ) → p < 3 → IsReadSince c issue p

  -- of what the issues of the first cycles of a turn read
  abbrev pub AreAllReadSince : (count : ℕ) → Type 0
  AreAllReadSince count = (c : ℕ) → c < count → All (AreReadSince c) (word_in image c).issues

  -- the hints that were found right are so
  pub record AreRight (hints : Hints) : Type 0 where
    pub reads : IsTrue hints.reads → AreAllReadSince (length image.words)
    pub stores : IsTrue hints.stores → AreAllQuiet image certificate 32
