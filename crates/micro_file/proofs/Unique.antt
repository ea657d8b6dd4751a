-- Bytes spell at most one image, in whichever version, and an image has one file in each.
use Rattle.std.proofs.Common.{◌≡◌, ℕ, List, sym, ◌∙◌}
use Rattle.micro_image.specs.declared.image.Image.{Image}
use Rattle.micro_image.specs.declared.version.Version.{Version}
use Rattle.micro_image.specs.declared.version.Version.TheVariants.{One, Two}
use Rattle.micro_image.specs.Spells.{SpellsIn, Spells}
use Rattle.micro_bits.proofs.Packing.{one_packing}
use Rattle.micro_file.proofs.FileReader.{spelled_whole}
use Rattle.micro_file.proofs.Readers.{ok_is}

pub Spells-unique : (bytes : List ℕ) (a b : Image) → Spells bytes a → Spells bytes b → a ≡ b
Spells-unique bytes a b h k = ok_is a b (sym (spelled_whole bytes a h) ∙ spelled_whole bytes b k)

-- what spells it in a version spells it
pub in_either : {version : Version} {bytes : List ℕ} {image : Image} → SpellsIn version bytes image → Spells bytes image
in_either {version} h = record { valid = h.valid; version = version; spelled = h.spelled }

-- an image has one file in each version
pub one_spelling : (version : Version) (a b : List ℕ) (image : Image)
    → SpellsIn version a image
    → SpellsIn version b image
    → a ≡ b
one_spelling One a b image h k = h.spelled ∙ sym k.spelled
one_spelling Two a b image h k = one_packing a b image h.spelled k.spelled
