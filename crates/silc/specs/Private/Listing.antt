-- The listing that `list` makes of MIC.
use Rattle.std.specs.Prelude.{◌≡◌}
use Rattle.desk_core.specs.View.{Name, Content, View}
use Rattle.desk_core.specs.Desk.{WhereSpecified}
use Rattle.desk_core.specs.Whole.{IsReadThrough}
use Rattle.micro_image.specs.declared.image.Image.{Image}
use Rattle.micro_image.specs.Spells.{Spells}
use Rattle.microcode_asm.specs.Listing.{listing_text}
use Rattle.silc_files.specs.Limits.{microcode_limit}
use Rattle.sample_commands.specs.Sim.{HasImage}

-- the text is the listing of the image that the bytes spell
pub record IsListingOf (content text : Content) : Type 0 where
  pub image : Image
  pub spells : Spells content image
  pub text_is : text ≡ listing_text image

-- the text is the listing of the image of MIC, which was read through
pub record IsMadeListing (mic : Name) (old new : View) (text : Content) : Type 0 where
  pub read : IsReadThrough mic microcode_limit old new
  pub image : Image
  pub text_is : text ≡ listing_text image
  pub specified : WhereSpecified old (λ files. HasImage mic files image)
