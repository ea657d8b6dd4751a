-- The place that subscripts pick is less than the number of elements.
use Rattle.std.proofs.Common.{◌≡◌, ◌<◌, ◌≤◌, ◌+◌, ◌*◌, ◌-◌, ◌&&◌, ◌∙◌, ℕ, Bool, true, false, List, [], ◌∷◌, map, take}
use Rattle.std.proofs.Common.{drop, length, get_or, ap, ap₂, arith}
use Rattle.std.specs.Prelude.{nat_le, IsTrue}
use Rattle.std.specs.List.{list_all}
use Rattle.std.proofs.lemmas.Bool.{leb-true}
use Rattle.std.proofs.lemmas.List.{take_all}
use Rattle.lists.proofs.Bools.{second_true}
use Rattle.silage_syntax.specs.declared.tree.Manifest.{Manifest}
use Rattle.silage_syntax.specs.Manifests.{Indices}
use Rattle.silage_syntax.specs.Names.{element_count, IsOffset}
use Rattle.silage_syntax.specs.Tree.{Manifest as Tree, view_manifest}
use Rattle.silage_meaning.proofs.Elements.{place_below}
use Rattle.name_rules.specs.Meanings.{is_dim, are_dims, most_elements}
use Rattle.loop_expand.specs.Private.Facts.{natural, offset}
use Rattle.loop_expand.proofs.FlatReads.{offset_is}

pub offset_fits : (indices : Indices) (dims : List ℕ) (subs : List Manifest) (sub : Manifest) (n count rest : ℕ)
    → 1 ≤ length dims
    → 1 ≤ length subs
    → sub ≡ get_or subs 0 sub
    → IsTrue (are_dims dims)
    → (k : ℕ)
    → IsOffset indices dims (map view_manifest subs) k
    → n ≡ natural indices (view_manifest sub)
    → count ≡ element_count (take (length dims - 1) (drop 1 dims))
    → rest
    ≡ offset indices (take (length dims - 1) (drop 1 dims))
    (map view_manifest (take (length subs - 1) (drop 1 subs)))
    → n * count + rest < 8192
offset_fits indices [] subs sub n count rest some any is sized k placed is_n is_count is_rest = absurd (omega arith)
offset_fits indices (d ∷ dims) [] sub n count rest some any is sized k placed is_n is_count is_rest =
    absurd (omega arith)
offset_fits indices (d ∷ dims) (s ∷ subs) sub n count rest some any is sized k placed is_n is_count is_rest =
    let all = take_all (length (d ∷ dims) - 1) dims (omega arith) in
    let each = take_all (length (s ∷ subs) - 1) subs (omega arith) in
    let whole : n * count + rest ≡ offset indices (d ∷ dims) (map view_manifest (s ∷ subs)) =
    ap₂ ◌+◌ (ap₂ ◌*◌ (is_n ∙ ap (λ m. natural indices (view_manifest m)) is) (is_count ∙ ap element_count all))
    (is_rest ∙ ap₂ (λ (ds : List ℕ) (ms : List Manifest). offset indices ds (map view_manifest ms)) all each) in
    let few =
    leb-true (element_count (d ∷ dims)) most_elements
    (second_true (list_all is_dim (d ∷ dims)) (nat_le (element_count (d ∷ dims)) most_elements) sized) in
    omega (
      arith,
      whole,
      offset_is indices (d ∷ dims) (map view_manifest (s ∷ subs)) k placed,
      place_below indices (d ∷ dims) (map view_manifest (s ∷ subs)) k placed,
      few,
    )

-- the place is within the elements
pub offset_below : (indices : Indices) (dims : List ℕ) (subs : List Tree) (k : ℕ)
    → IsOffset indices dims subs k
    → offset indices dims subs < element_count dims
offset_below indices dims subs k placed =
    omega (arith, offset_is indices dims subs k placed, place_below indices dims subs k placed)
