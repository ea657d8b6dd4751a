-- Which bytes are a microcode file of an image. Version 1 spells its fields in bytes, version 2 in packed bits.
use Rattle.std.specs.Prelude.{◌≡◌, ℕ, ◌^◌, ◌<◌, List, ◌∷◌, ◌++◌, codes, replicate}
use Rattle.std.specs.List.{All, flat_map}
use Rattle.micro_image.specs.declared.image.Image.{Image}
use Rattle.micro_image.specs.declared.version.Version.{Version}
use Rattle.micro_image.specs.declared.version.Version.TheVariants.{One, Two}
use Rattle.micro_image.specs.Bits.{bits, image_bits}
use Rattle.micro_image.specs.Bytes.{image_bytes}
use Rattle.micro_image.specs.Valid.{IsValid}

-- each is one byte
abbrev pub AreBytes : List ℕ → Type 0
AreBytes = All (λ b. b < 2 ^ 8)

-- the bits of bytes, the most significant of each first
abbrev pub bits_of : List ℕ → List ℕ
bits_of = flat_map (bits 8)

-- the bytes hold these bits, then zeros to the end of the last byte
pub record Holds (bytes spelled : List ℕ) : Type 0 where
  pub are_bytes : AreBytes bytes
  pub zeros : ℕ
  pub fewer : zeros < 8
  pub packed : bits_of bytes ≡ spelled ++ replicate zeros 0

-- what the magic bytes, SILM, and the version begin
abbrev pub begun : (version : ℕ) → List ℕ → List ℕ
begun version rest = codes "SILM" ++ version ∷ rest

-- the fields of the image in packed bits stand behind the version
pub record IsPacked (bytes : List ℕ) (image : Image) : Type 0 where
  pub rest : List ℕ
  pub begins : bytes ≡ begun 2 rest
  pub holds : Holds rest (image_bits image)

-- the bytes have the fields of the image in the order and form of a version, and nothing follows them
abbrev pub IsSpelled : Version → List ℕ → Image → Type 0
IsSpelled One bytes image = bytes ≡ begun 1 (image_bytes image)
IsSpelled Two bytes image = IsPacked bytes image

-- the bytes are those of the image in this version, and its fields are all allowed
pub record SpellsIn (version : Version) (bytes : List ℕ) (image : Image) : Type 0 where
  pub valid : IsValid image
  pub spelled : IsSpelled version bytes image

-- the same in either version
pub record Spells (bytes : List ℕ) (image : Image) : Type 0 where
  pub valid : IsValid image
  pub version : Version
  pub spelled : IsSpelled version bytes image
