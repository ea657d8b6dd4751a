use Rattle.std.proofs.Common.{◌≡◌, ◌==◌, ◌&&◌, ℕ, ℤ, ap, ap₂}
use Rattle.std.specs.Bool.{Decides}
use Rattle.std.specs.Ordering.{int_eq}
use Rattle.std.proofs.lemmas.Bool.Decides.{Decides-eqb, Decides-int_eq, Decides-and, Decides-like}
use Rattle.std.proofs.lemmas.Slice.Eq.{slice_eq-Decides}
use Rattle.image_labels.proofs.copies.same_inits.Goals as goal

same_init : (x y : ℕ × ℤ) → Decides (x.0 == y.0 && int_eq x.1 y.1) (x ≡ y)
same_init x y =
    Decides-like (x.0 == y.0 && int_eq x.1 y.1)
    (λ (both : (x.0 ≡ y.0) × (x.1 ≡ y.1)). ap₂ (λ (k : ℕ) (word : ℤ). (k, word)) both.0 both.1)
    (λ (e : x ≡ y). (ap (λ (i : ℕ × ℤ). i.0) e, ap (λ (i : ℕ × ℤ). i.1) e))
    (Decides-and (x.0 == y.0) (int_eq x.1 y.1) (Decides-eqb x.0 y.0) (Decides-int_eq x.1 y.1))

pub returns : goal.returns
returns c =
    let decides : Decides c.eq.result (c.as_slice.result.now ≡ c.as_slice-2.result.now) =
    slice_eq-Decides same_init c.as_slice.result.now c.as_slice-2.result.now c.eq.result c.eq.ensures in
    (λ is. cc (decides.0 is), λ same. decides.1 (cc))
