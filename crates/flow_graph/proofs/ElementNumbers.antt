-- The number of the last place of the end of an element's chain of aliases is that of the element's node.
use Rattle.std.proofs.Common.{◌≡◌, ℕ, zero, suc, ◌+◌, ◌-◌, ◌<◌, inl, inr, Bool, true, false, List, [], ◌∷◌, Some}
use Rattle.std.proofs.Common.{length, map, refl, sym, ap, subst, ◌∙◌, arith}
use Rattle.std.specs.Prelude.{ℤ, slice_get, slice_index_or}
use Rattle.std.proofs.lemmas.Bool.{cases_lt}
use Rattle.std.proofs.lemmas.List.{length-append, length-map, get_or-map}
use Rattle.std.proofs.lemmas.Option.{none-some, same_Some, slice_get_within}
use Rattle.signal_graph.specs.Flat.{Expr, raw, read, calculation, Body, word, value, Program, size}
use Rattle.signal_graph.specs.FlatSolves.{element_of}
use Rattle.signal_graph.specs.GraphOf.{Made, constant, input, operation, operands_from, made_by, pass, has_pass, Site}
use Rattle.signal_graph.specs.GraphOf.{sites, word_node, node_at, IsNumber, input_node, pass_node, own_node, word_alias}
use Rattle.signal_graph.specs.Keeps.{IsElementNode}
use Rattle.signal_graph.proofs.Members.{at_member, member_at}
use Rattle.signal_graph.proofs.Places.{site, made_of, place_in, in_place}
use Rattle.signal_graph.proofs.Parts.{length_made}
use Rattle.signal_graph.proofs.Bodies.{its_width, input_made, value_made, pass_made, calculation_made, word_made}
use Rattle.signal_graph.proofs.Targets.{now_read}
use Rattle.flow_graph.specs.Private.Aliases.{IsEnd, IsInside, AreEnds}
use Rattle.flow_graph.specs.Private.LastPlaces.{IsLastPlace, AreLast}
use Rattle.flow_graph.specs.Private.NodesBy.{IsSomething}
use Rattle.flow_graph.specs.Private.Nodes.{AreNumbers}
use Rattle.flow_graph.specs.Private.ElementNodes.{AreElementNumbers}
use Rattle.flow_graph.proofs.FirstSites.{IsFrom, AreRising, elements_rise}
use Rattle.flow_graph.proofs.PlaceNumbers.{target_at, place_number}

from_later : (y s : Site) (e k : ℕ) → IsFrom e k y → IsFrom y.element (y.place + 1) s → IsFrom e k s
from_later y s e k (inl a) (inl b) = inl (omega arith)
from_later y s e k (inl a) (inr b) = inl (let same = b.0 in omega arith)
from_later y s e k (inr a) (inl b) = inl (let same = a.0 in omega arith)
from_later y s e k (inr a) (inr b) = inr (a.0 ∙ b.0, let p = a.1 in let q = b.1 in omega arith)

all_from : (ys : List Site) (e k : ℕ) → AreRising e k ys → (i : ℕ) (s : Site) → slice_get ys i ≡ Some s → IsFrom e k s
all_from [] e k rising i s h = absurd (none-some s h)
all_from (y ∷ ys) e k rising zero s h = subst (λ (t : Site). IsFrom e k t) (same_Some y s h) rising.0
all_from (y ∷ ys) e k rising (suc i) s h =
    from_later y s e k rising.0 (all_from ys y.element (y.place + 1) rising.1 i s h)

-- a later place is a higher one
pub later_above : (ys : List Site) (e k : ℕ)
    → AreRising e k ys
    → (i j : ℕ) (s t : Site)
    → i < j
    → slice_get ys i ≡ Some s
    → slice_get ys j ≡ Some t
    → IsFrom s.element (s.place + 1) t
later_above [] e k rising i j s t less h g = absurd (none-some s h)
later_above (y ∷ ys) e k rising i zero s t less h g = absurd (omega arith)
later_above (y ∷ ys) e k rising zero (suc j) s t less h g =
    subst (λ (u : Site). IsFrom u.element (u.place + 1) t) (same_Some y s h)
    (all_from ys y.element (y.place + 1) rising.1 j t g)
later_above (y ∷ ys) e k rising (suc i) (suc j) s t less h g =
    later_above ys y.element (y.place + 1) rising.1 i j s t (omega arith) h g

module _ (p : Program) where
  is_last : (j : ℕ) (s : Site)
      → slice_get (sites p) j ≡ Some s
      → s.place + 1 ≡ length (made_of p s.element)
      → IsLastPlace (sites p) (length (sites p)) j s
  is_last j s at last k t below there same = elim (cases_lt j k) [
    | inl less ↦ elim (later_above (sites p) 0 0 (elements_rise p 0 p.elems) j k s t less at there) [
      | inl above ↦ absurd (omega arith)
      | inr above ↦ (let high = above.1 in
          let is = in_place p t (at_member (sites p) k t there) in
          let low = slice_get_within (made_of p t.element) t.place t.made is.made in
          let size = ap (λ (e : ℕ). length (made_of p e)) same in
          absurd (omega arith))
    ]
    | inr most ↦ most
  ]

  -- the last place of an element, where its node is made or its word is
  record IsEndPlace (e k : ℕ) (made : Made) : Type 0 where
    pub there : slice_get (made_of p e) k ≡ Some made
    pub last : k + 1 ≡ length (made_of p e)
    pub some : IsSomething made

  module _ (numbers : List ℕ) (words : List (ℤ × ℕ)) (are : AreNumbers (sites p) numbers words) (last : List ℕ)
      (count : ℕ) (ends : AreLast (sites p) numbers count last) where
    by_place : (e k : ℕ) (made : Made)
        → e < length p.elems
        → IsEndPlace e k made
        → IsNumber p (target_at e k made) (slice_index_or last e 0)
    by_place e k made el is =
        let s = site e k made in
        let (j, at) = member_at (sites p) s (place_in p s (record { element = el; made = is.there })) in
        subst (λ (v : ℕ). IsNumber p (target_at e k made) v)
        (sym (ends.at j s (slice_get_within (sites p) j s at) at (is_last j s at is.last)))
        (place_number p numbers words are j s at is.some)

    by_value : (e : ℕ) (x : Expr) (b : Bool)
        → e < length p.elems
        → IsEnd p e
        → (element_of p e).body ≡ value x
        → has_pass p e x ≡ b
        → IsElementNode p e (slice_index_or last e 0)
    by_value e x true el end h is =
        let there = pass_made p e x h is in
        let count = ap (λ (ms : List Made). length ms) (value_made p e x true h is) in
        let long : size x + 1 ≡ length (made_of p e) =
        omega (arith, count, length-append (made_by 0 x) (pass (its_width p e) x ∷ []), length_made 0 x) in
        record {
          target = node_at e (size x);
          node = pass_node h is;
          number =
              by_place e (size x) (pass (its_width p e) x) el
              (record { there = there; last = long; some = tt {0} });
        }
    by_value e (raw m) false el end h is =
        let count = ap (λ (ms : List Made). length ms) (value_made p e (raw m) false h is) in
        record {
          target = word_node m;
          node = word_alias (record { body = h; pass = is });
          number =
              by_place e 0 (constant m) el
              (record { there = word_made p e m h; last = omega (arith, count); some = tt {0} });
        }
    by_value e (read d ago) false el end h is =
        let now = now_read p e d ago is in
        let body = subst (λ (k : ℕ). (element_of p e).body ≡ value (read d k)) now h in
        let no_pass = subst (λ (k : ℕ). has_pass p e (read d k) ≡ false) now is in
        absurd (end d (record { body = body; pass = no_pass }))
    by_value e (calculation o fmt parts) false el end h is =
        let x = calculation o fmt parts in
        let count = ap (λ (ms : List Made). length ms) (value_made p e x false h is) in
        let long : size x - 1 + 1 ≡ length (made_of p e) =
        omega (arith, count, length-append (made_by 0 x) [], length_made 0 x) in
        record {
          target = node_at e (size x - 1);
          node = own_node h;
          number =
              by_place e (size x - 1) (operation o fmt (operands_from 0 parts)) el
              (record { there = calculation_made p e o fmt parts h; last = long; some = tt {0} });
        }

    by_body : (e : ℕ) (b : Body)
        → e < length p.elems
        → IsEnd p e
        → (element_of p e).body ≡ b
        → IsElementNode p e (slice_index_or last e 0)
    by_body e (word j) el end h =
        let is = input_made p e j h in
        let there = subst (λ (ms : List Made). slice_get ms 0 ≡ Some (input j)) (sym is) refl in
        let count = ap (λ (ms : List Made). length ms) is in
        record {
          target = node_at e 0;
          node = input_node h;
          number =
              by_place e 0 (input j) el (record { there = there; last = omega (arith, count); some = tt {0} });
        }
    by_body e (value x) el end h = by_value e x (has_pass p e x) el end h refl

    pub end_number : (e : ℕ) → e < length p.elems → IsEnd p e → IsElementNode p e (slice_index_or last e 0)
    end_number e el end = by_body e (element_of p e).body el end refl

    pub all_elements : (leads : List ℕ)
        → length leads ≡ length p.elems
        → IsInside leads
        → AreEnds p leads
        → AreElementNumbers p (map (λ (d : ℕ). slice_index_or last d 0) leads)
    all_elements leads same inside is = record {
      size = length-map leads (λ (d : ℕ). slice_index_or last d 0) ∙ same;
      at = λ e el. (let within : e < length leads = omega arith in
          let d = slice_index_or leads e 0 in
          let low = inside e within in
          let node = end_number d (omega arith) (is.ends e within) in
          subst (λ (v : ℕ). IsElementNode p e v)
          (sym (get_or-map (λ (k : ℕ). slice_index_or last k 0) leads e 0 0 within))
          (record {
            target = node.target;
            node = is.named e within node.target node.node;
            number = node.number;
          }));
    }
