-- A manifest number that is in its range, or is not.
use Rattle.std.specs.Prelude.{◌≡◌, Some, None, ℤ, Result, Ok, Err}
use Rattle.silage_syntax.specs.Manifests.{in_range}
use Rattle.name_rules.specs.declared.fault.ManifestFault.{ManifestFault}
use Rattle.name_rules.specs.declared.fault.ManifestFault.TheVariants.{Overflow}

-- the number, or Overflow
abbrev pub IsRanged : ℤ → Result ℤ ManifestFault → Type 0
IsRanged z (Ok v) = in_range z ≡ Some v
IsRanged z (Err f) = (f ≡ Overflow) × (in_range z ≡ None)
