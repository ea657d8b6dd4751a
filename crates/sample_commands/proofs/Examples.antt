-- Channels, worked out.
use Rattle.std.proofs.Common.{◌≡◌, refl, [], ◌∷◌, pos, neg_ℤ}
use Rattle.micro_image.proofs.Increment.{increment}
use Rattle.sample_loops.specs.Machines.{channels_of}

-- the input word of y = x + 1 on 8 bits
its_channel : channels_of increment.inputs ≡ record { low = neg_ℤ (pos 128); high = pos 127 } ∷ []
its_channel = refl
