-- What a sound program gives the elements of a phase: reads that are there and not too long ago.
use Rattle.std.proofs.Common.{◌≡◌, ℕ, ◌+◌, ◌<◌, ◌≤◌, List, [], ◌∷◌, ◌++◌, length, get_or, map, sym, ap, ◌∙◌}
use Rattle.std.proofs.Common.{arith, append-nil, subst}
use Rattle.std.proofs.lemmas.List.{length-map, get_or-map}
use Rattle.signal_graph.specs.declared.flat.FlatElem.{FlatElem}
use Rattle.signal_graph.specs.Flat.{view_elem}
use Rattle.std.specs.List.{flat_map, range_with_len}
use Rattle.std.proofs.lemmas.List.Concat.{flat_map-append}
use Rattle.std.proofs.lemmas.Option.{slice_get_within}
use Rattle.lists.proofs.Ranges.{range_more}
use Rattle.signal_graph.specs.Flat.{Expr, raw, read, calculation, Parts, no_part, part, Body, word, value, Element}
use Rattle.signal_graph.specs.Flat.{Program}
use Rattle.fix_word.specs.declared.types.SigType.{SigType}
use Rattle.signal_graph.specs.FlatRules.{IsExpr, AreExprs, IsBodyOf, IsFlat}
use Rattle.rate_unfold.specs.Frames.{Rates}
use Rattle.rate_unfold.specs.Private.Limits.{HasShortReads, HaveShortReads, IsShortBody, IsShort, AreShort}
use Rattle.rate_unfold.specs.Private.Unfolding.{elements_in_phase}

module _ (p : Program) where
  mutual
    expr_short : (x : Expr) → IsExpr p x → HasShortReads (length p.elems) x
    expr_short (raw w) is = tt
    expr_short (read e k) is = record { element = is.element; delay = is.delay }
    expr_short (calculation o fmt parts) is = parts_short parts is.1

    parts_short : (parts : Parts) → AreExprs p parts → HaveShortReads (length p.elems) parts
    parts_short no_part are = tt
    parts_short (part x rest) are = (expr_short x are.0, parts_short rest are.1)

  body_short : (ty : SigType) (body : Body)
      → length p.inputs ≤ 16
      → IsBodyOf p ty body
      → IsShortBody (length p.elems) body
  body_short ty (word i) few is = let there = slice_get_within p.inputs i ty is in omega (arith, there, few)
  body_short ty (value x) few is = expr_short x is.sound

  pub are_short : IsFlat p → AreShort (length p.elems) p.elems
  are_short sound k d less =
      let e = get_or p.elems k d in body_short e.ty e.body sound.input_count.1 (sound.elements k d less).body

-- the elements of one more phase
pub phases_more : (r : Rates) (elems : List Element) (n : ℕ)
    → flat_map (elements_in_phase r elems) (range_with_len 0 (n + 1))
    ≡ flat_map (elements_in_phase r elems) (range_with_len 0 n) ++ elements_in_phase r elems n
phases_more r elems n =
    ap (flat_map (elements_in_phase r elems)) (range_more 0 n)
    ∙ flat_map-append (elements_in_phase r elems) (range_with_len 0 n) ((0 + n) ∷ [])
    ∙ ap (λ (xs : List Element). flat_map (elements_in_phase r elems) (range_with_len 0 n) ++ xs)
    (append-nil (elements_in_phase r elems (0 + n)) ∙ ap (elements_in_phase r elems) (omega arith))

pub element_within : (n : ℕ) (xs : List FlatElem) (i : ℕ) (x : FlatElem)
    → AreShort n (map view_elem xs)
    → i < length xs
    → x ≡ get_or xs i x
    → IsShort n (view_elem x)
element_within n xs i x short less is =
    subst (IsShort n) (get_or-map view_elem xs i x (view_elem x) less ∙ sym (ap view_elem is))
    (short i (view_elem x) (omega (arith, less, length-map xs view_elem)))
