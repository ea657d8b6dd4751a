use Rattle.std.proofs.Common.{◌<◌, ℕ}
use Rattle.micro_image.specs.Fields.{microprogram_of, unit_of}
use Rattle.plan_soundness.specs.ImageOf.{IsUnitOf}
use Rattle.image_fit.proofs.units.check_units.Given as goal

abbrev pub invariant-loop-unit : goal.invariant-loop-unit
invariant-loop-unit l = (u : ℕ) → u < l.unit → IsUnitOf l.path u (unit_of (microprogram_of l.image) u)
