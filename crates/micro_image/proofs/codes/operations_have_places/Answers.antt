use Rattle.micro_image.proofs.Places.{once_placed, places_held}
use Rattle.micro_image.proofs.codes.operations_have_places.Goals as goal

pub returns : goal.returns
returns c = record { once = once_placed; held = places_held }
