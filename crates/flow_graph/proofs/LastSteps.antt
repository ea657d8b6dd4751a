-- The number of a place takes the place of that before it of the same element.
use Rattle.std.proofs.Common.{◌≡◌, ℕ, ◌+◌, ◌<◌, inl, inr, List, Some, get_or, sym, ap, subst, ◌∙◌, arith}
use Rattle.std.specs.Prelude.{slice_get}
use Rattle.std.proofs.Math.ListN.{set}
use Rattle.std.proofs.lemmas.Bool.{cases_eq}
use Rattle.std.proofs.lemmas.List.{length-set, get_or-set_same, get_or-set_other}
use Rattle.lists.proofs.Places.{some_once}
use Rattle.signal_graph.specs.GraphOf.{Site}
use Rattle.flow_graph.specs.Private.LastPlaces.{LastUpTo}

pub one_last : (all : List Site) (numbers last : List ℕ) (elements n : ℕ) (s : Site)
    → slice_get all n ≡ Some s
    → s.element < elements
    → LastUpTo all numbers elements n last
    → LastUpTo all numbers elements (n + 1) (set last s.element (get_or numbers n 0))
one_last all numbers last elements n s here within h =
    let v = get_or numbers n 0 in
    let size = h.size in
    record {
      size = length-set last s.element v ∙ h.size;
      at = λ j t below there final. elim (cases_eq j n) [
        | inl same ↦
            (let is : s ≡ t = some_once here (subst (λ (k : ℕ). slice_get all k ≡ Some t) same there) in
            subst (λ (u : Site). get_or (set last s.element v) u.element 0 ≡ get_or numbers j 0) is
            (get_or-set_same last s.element v 0 (omega arith) ∙ ap (λ k. get_or numbers k 0) (sym same)))
        | inr other ↦ elim (cases_eq t.element s.element) [
          | inl same ↦ absurd (let low = final n s (omega arith) here (sym same) in omega arith)
          | inr apart ↦ get_or-set_other last s.element t.element v 0 apart
              ∙ h.at j t (omega arith) there (λ k u before at same. final k u (omega arith) at same)
        ]
      ];
    }
