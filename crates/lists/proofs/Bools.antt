-- What the parts of a test come to.
use Rattle.std.proofs.Common.{◌≡◌, ◌&&◌, Bool, true, false, refl}

pub both_true : (a b : Bool) → (a && b) ≡ true → (a ≡ true) × (b ≡ true)
both_true true b h = (refl, h)
both_true false b h = absurd (cc)

pub first_true : (a b : Bool) → (a && b) ≡ true → a ≡ true
first_true a b h = (both_true a b h).0

pub second_true : (a b : Bool) → (a && b) ≡ true → b ≡ true
second_true a b h = (both_true a b h).1
