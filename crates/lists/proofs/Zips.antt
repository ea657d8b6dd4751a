-- Lists whose elements are related place by place.
use Rattle.std.proofs.Common.{◌≡◌, ◌++◌, List, [], ◌∷◌, length, suc, refl, ap}
use Rattle.std.specs.List.{AllZip}

module _ {A B : Type 0} (R : A → B → Type 0) where
  pub zip_push : (xs : List A) (ys : List B) (x : A) (y : B)
      → AllZip R xs ys
      → R x y
      → AllZip R (xs ++ x ∷ []) (ys ++ y ∷ [])
  zip_push [] [] x y zips here = (here, tt)
  zip_push [] (z ∷ ys) x y zips here = absurd zips
  zip_push (z ∷ xs) [] x y zips here = absurd zips
  zip_push (w ∷ xs) (z ∷ ys) x y zips here = (zips.0, zip_push xs ys x y zips.1 here)

  pub zip_length : (xs : List A) (ys : List B) → AllZip R xs ys → length ys ≡ length xs
  zip_length [] [] all = refl
  zip_length [] (y ∷ ys) all = absurd all
  zip_length (x ∷ xs) [] all = absurd all
  zip_length (x ∷ xs) (y ∷ ys) all = ap suc (zip_length xs ys all.1)
