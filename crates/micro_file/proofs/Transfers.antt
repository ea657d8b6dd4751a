-- The enables and takes of a word, in any version.
use Rattle.std.proofs.Common.{◌≡◌, ◌<◌, Bool, true, List, length, Option, Some, None, ℤ, refl, arith}
use Rattle.std.specs.Prelude.{slice_get}
use Rattle.std.specs.List.{All, AllAdjacentBelow}
use Rattle.std.proofs.lemmas.Bool.Decides.{nat_tests}
use Rattle.micro_image.specs.declared.image.Image.{Image}
use Rattle.micro_image.specs.declared.image.Enable.{Enable}
use Rattle.micro_image.specs.declared.image.Take.{Take}
use Rattle.micro_image.specs.declared.image.UnitDesc.{UnitDesc}
use Rattle.micro_image.specs.Valid.{IsWithin, IsEnable, IsTake, IsRegister, EnableBefore, TakeBefore}
use Rattle.micro_file.specs.Private.Order.{enable_before, take_before, is_next}
use Rattle.micro_file.proofs.Several.{Behind}

module _ {A : Type 0} (before : A → A → Bool) (R : A → A → Type 0) where
  pub next_sound : ((a b : A) → before a b ≡ true → R a b)
      → (o : Option A) (x : A)
      → is_next before o x ≡ true
      → Behind R o x
  next_sound sound None x e = tt
  next_sound sound (Some last) x e = sound last x e

  pub next_whole : ((a b : A) → R a b → before a b ≡ true)
      → (o : Option A) (x : A)
      → Behind R o x
      → is_next before o x ≡ true
  next_whole whole None x h = refl
  next_whole whole (Some last) x h = whole last x h

pub enable_sound : (a b : Enable) → enable_before a b ≡ true → EnableBefore a b
enable_sound a b e = grind (arith, nat_tests)

pub enable_whole : (a b : Enable) → EnableBefore a b → enable_before a b ≡ true
enable_whole a b h = grind (arith, nat_tests)

pub take_sound : (a b : Take) → take_before a b ≡ true → TakeBefore a b
take_sound a b e = grind (arith, nat_tests)

pub take_whole : (a b : Take) → TakeBefore a b → take_before a b ≡ true
take_whole a b h = grind (arith, nat_tests)

-- the register is there, where its unit and its file are
pub is_register : (image : Image) (take : Take) (unit : UnitDesc) (file : List ℤ)
    → slice_get image.units take.port.unit ≡ Some unit
    → slice_get unit.files take.port.port ≡ Some file
    → take.reg < length file
    → IsRegister image take.port take.reg
is_register image take unit file there has lt = rw (there, has) lt

-- the transfers that a word may have, of which each comes after the one before
abbrev pub AreTransfers : {A : Type 0} → (A → Type 0) → (A → A → Type 0) → List A → Type 0
AreTransfers Is Before transfers =
    IsWithin 0 1024 (length transfers) × All Is transfers × AllAdjacentBelow Before transfers (length transfers)

-- the enables that a word may have
abbrev pub AreEnables : Image → List Enable → Type 0
AreEnables image = AreTransfers (IsEnable image) EnableBefore

-- the takes that a word may have
abbrev pub AreTakes : Image → List Take → Type 0
AreTakes image = AreTransfers (IsTake image) TakeBefore
