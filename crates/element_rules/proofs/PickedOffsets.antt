-- The place that is picked is the offset that the subscripts select.
use Rattle.std.proofs.Common.{◌≡◌, ◌<◌, ◌+◌, ◌*◌, inl, inr, ℕ, suc, ℤ, pos, negsuc, List, [], ◌∷◌, Option, Some, None}
use Rattle.std.proofs.Common.{option_map, option_and_then, refl, sym, ap, arith}
use Rattle.std.proofs.lemmas.Bool.Decides.{leb_tells}
use Rattle.silage_syntax.specs.Tree.{Manifest}
use Rattle.silage_syntax.specs.Manifests.{Indices, manifest_value}
use Rattle.silage_syntax.specs.Names.{element_count, IsOffset}
use Rattle.element_rules.specs.ElementRules.{index_below, picked}

module _ (indices : Indices) where
  offset_by : (dim : ℕ) (dims : List ℕ) (sub : Manifest) (subs : List Manifest) (v : Option ℤ)
      → manifest_value indices sub ≡ v
      → (rest : Option ℕ)
      → ((j : ℕ) → rest ≡ Some j → IsOffset indices dims subs j)
      → (k : ℕ)
      → option_and_then (λ i. option_map (λ rest. i * element_count dims + rest) rest)
      (option_and_then (index_below dim) v) ≡ Some k
      → IsOffset indices (dim ∷ dims) (sub ∷ subs) k
  offset_by dim dims sub subs None is rest inner k e = absurd (cc)
  offset_by dim dims sub subs (Some (negsuc n)) is rest inner k e = absurd (cc)
  offset_by dim dims sub subs (Some (pos i)) is rest inner k e = elim (leb_tells (suc i) dim) [
    | inl less ↦ behind rest inner (rw less.0 at e) less.1
    | inr more ↦ let none = rw more.0 at e in absurd (cc)
  ]
    where
      behind : (rest : Option ℕ)
          → ((j : ℕ) → rest ≡ Some j → IsOffset indices dims subs j)
          → option_map (λ rest. i * element_count dims + rest) rest ≡ Some k
          → i < dim
          → IsOffset indices (dim ∷ dims) (sub ∷ subs) k
      behind None inner e less = absurd (cc)
      behind (Some j) inner e less =
          let same : i * element_count dims + j ≡ k = cc in (i, j, is, less, inner j refl, sym same)

  pub picked_offset : (dims : List ℕ) (subs : List Manifest) (k : ℕ)
      → picked indices dims subs ≡ Some k
      → IsOffset indices dims subs k
  picked_offset [] [] k e = cc
  picked_offset [] (sub ∷ subs) k e = absurd (cc)
  picked_offset (dim ∷ dims) [] k e = absurd (cc)
  picked_offset (dim ∷ dims) (sub ∷ subs) k e =
      offset_by dim dims sub subs (manifest_value indices sub) refl (picked indices dims subs) (picked_offset dims subs)
      k e

  pub offset_picked : (dims : List ℕ) (subs : List Manifest) (k : ℕ)
      → IsOffset indices dims subs k
      → picked indices dims subs ≡ Some k
  offset_picked [] [] k e = ap Some (sym e)
  offset_picked [] (sub ∷ subs) k h = absurd h
  offset_picked (dim ∷ dims) [] k h = absurd h
  offset_picked (dim ∷ dims) (sub ∷ subs) k (i, rest, is, less, inner, e) = elim (leb_tells (suc i) dim) [
    | inl below ↦ rw (is, offset_picked dims subs rest inner, below.0) (ap Some (sym e))
    | inr more ↦ absurd (omega (arith, more.1))
  ]
