-- The fault that is met first in a manifest constant, from left to right, an operator after its parts.
use Rattle.std.specs.Prelude.{◌≡◌, ℕ, List, Some, None, ℤ, pos, neg_ℤ}
use Rattle.silage_syntax.specs.declared.tree.MOp.{MOp}
use Rattle.silage_syntax.specs.Tree.{Manifest, whole, counter, minus, both}
use Rattle.silage_syntax.specs.Manifests.{Indices, index_value, in_range, combined, manifest_value}
use Rattle.name_rules.specs.declared.fault.ManifestFault.{ManifestFault}
use Rattle.name_rules.specs.declared.fault.ManifestFault.TheVariants.{Overflow, Unbound}

-- this fault is the first: whatever comes before it has a value
pub data MeetsFirst (indices : Indices) : Manifest → ManifestFault → Type 0 where
  too_great : {n at : ℕ}
      → in_range (pos n) ≡ None
      → MeetsFirst indices (whole n at) Overflow
  unbound : {name : List ℕ} {at : ℕ}
      → index_value indices name ≡ None
      → MeetsFirst indices (counter name at) Unbound
  below_minus : {at : ℕ} {m : Manifest} {f : ManifestFault}
      → MeetsFirst indices m f
      → MeetsFirst indices (minus at m) f
  at_minus : {at : ℕ} {m : Manifest} {a : ℤ}
      → manifest_value indices m ≡ Some a
      → in_range (neg_ℤ a) ≡ None
      → MeetsFirst indices (minus at m) Overflow
  in_left : {at : ℕ} {o : MOp} {l r : Manifest} {f : ManifestFault}
      → MeetsFirst indices l f
      → MeetsFirst indices (both at o l r) f
  in_right : {at : ℕ} {o : MOp} {l r : Manifest} {a : ℤ} {f : ManifestFault}
      → manifest_value indices l ≡ Some a
      → MeetsFirst indices r f
      → MeetsFirst indices (both at o l r) f
  at_operator : {at : ℕ} {o : MOp} {l r : Manifest} {a b : ℤ}
      → manifest_value indices l ≡ Some a
      → manifest_value indices r ≡ Some b
      → in_range (combined o a b) ≡ None
      → MeetsFirst indices (both at o l r) Overflow
