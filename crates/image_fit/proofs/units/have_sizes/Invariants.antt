use Rattle.std.proofs.Common.{◌≡◌, ◌<◌, ℕ, [], length}
use Rattle.micro_image.specs.Fields.{nth}
use Rattle.image_fit.proofs.units.have_sizes.Given as goal

abbrev pub invariant-loop-port : goal.invariant-loop-port
invariant-loop-port l = (q : ℕ) → q < l.port → length (nth l.files q []) ≡ nth l.sizes q 0
