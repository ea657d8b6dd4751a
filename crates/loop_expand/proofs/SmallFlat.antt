-- The flat program of a checked program is small, so it is sound.
use Rattle.std.proofs.Common.{◌≡◌, subst, ◌∙◌, ap, arith, ℕ, ◌+◌, ◌*◌, ◌≤◌, ◌⊎◌, inl, inr, List, map, slice_get, Option}
use Rattle.std.proofs.Common.{Some, option_map}
use Rattle.std.proofs.lemmas.List.Sums.{sum-map}
use Rattle.std.proofs.lemmas.Option.{slice_get-map, slice_get_within}
use Rattle.lists.specs.Rows.{Rows}
use Rattle.lists.proofs.Places.{some_once, place_of}
use Rattle.silage_syntax.specs.Tree.{Func, Program}
use Rattle.silage_syntax.specs.Names.{main_of}
use Rattle.silage_meaning.specs.Instances.{Element}
use Rattle.silage_meaning.specs.Value.{Words}
use Rattle.silage_meaning.specs.Solves.{Source, word, value, same, number, IsStream, IsOneSolution}
use Rattle.silage_meaning.specs.Rules.{HasNoDelaylessLoop}
use Rattle.element_rules.specs.declared.elements.Elements.{Elements}
use Rattle.element_rules.specs.Expansion.{IsExpansion}
use Rattle.element_rules.specs.ElementRules.{weight}
use Rattle.signal_graph.specs.Flat as flat
use Rattle.signal_graph.specs.Flat.{size_of_body}
use Rattle.signal_graph.specs.FlatRules.{IsFlat}
use Rattle.loop_expand.specs.Checked.{IsChecked}
use Rattle.element_rules.specs.Numbers.{IsNumberOf}
use Rattle.loop_expand.specs.FlatOf.{IsFlatOf}
use Rattle.element_rules.proofs.Charges.{Charge, charge, charges_few}
use Rattle.loop_expand.proofs.Expanded.{main_there, numbering}
use Rattle.loop_expand.proofs.FlatCount.{element_count_is}
use Rattle.loop_expand.proofs.FlatSizes.{source_weight, body_size}
use Rattle.loop_expand.proofs.Numbers.{stands}
use Rattle.element_rules.proofs.OnceTables.{distinct_numbers}
use Rattle.element_rules.proofs.OwnCharges.{program_charges, IsChargedFor, charged_for}
use Rattle.loop_expand.proofs.OwnPlaces.{HasPlace, sum_by_places}
use Rattle.loop_expand.proofs.SoundFlat.{IsSmall, flat_sound, one_solution}

module _ (p : Program) (checked : IsChecked p) (es : Elements) (made : IsExpansion p es) (f : flat.Program)
    (flat_of : IsFlatOf p es f) where
  module _ (g : Func) (is_main : main_of p ≡ Some g) where
    abbrev charges : List Charge
    charges = program_charges p checked.elements g is_main

    abbrev amounts : List ℕ
    amounts = map (λ (c : Charge). c.amount) charges

    -- a charge is for the element with a number
    abbrev IsFor : (k place : ℕ) → Type 0
    IsFor k place = (c : Charge) × (slice_get charges place ≡ Some c) × IsNumberOf es k c.of

    for_one : (k l place : ℕ) → IsFor k place → IsFor l place → k ≡ l
    for_one k l place (c, there, is) (d, too, also) =
        distinct_numbers p checked.names checked.positions es made d.of k l
        (subst (λ (z : Charge). IsNumberOf es k z.of) (some_once there too) is) also

    by_charge : (k : ℕ) (e : Element)
        → IsNumberOf es k e
        → (source : Source)
        → IsChargedFor p checked.elements g is_main e source
        → (size : ℕ)
        → size ≤ 1 + 3 * source_weight source
        → (size ≤ 1) ⊎ HasPlace amounts (IsFor k) size
    by_charge k e is (word j) has size most = inl most
    by_charge k e is (same other theirs ours) has size most = inl most
    by_charge k e is (number c j ty) has size most = inl most
    by_charge k e is (value s x ty) has size most =
        let at = place_of charges (charge e (weight x)) has in
        inr (record {
          place = at.0;
          amount = weight x;
          there = slice_get-map (λ (c : Charge). c.amount) charges at.0
              ∙ ap (λ (o : Option Charge). option_map (λ (c : Charge). c.amount) o) at.1;
          takes = (charge e (weight x), at.1, is);
          most = most;
        })

    sized : (k : ℕ) (x : flat.Element)
        → slice_get f.elems k ≡ Some x
        → (size_of_body x.body ≤ 1) ⊎ HasPlace amounts (IsFor k) (size_of_body x.body)
    sized k x there =
        let s =
        stands p es (numbering p checked es made) k
        (let count = flat_of.count in let less = slice_get_within f.elems k x there in omega arith) in
        let it = flat_of.elements k s.of x s.number there in
        by_charge k s.of s.number it.source (charged_for p checked.elements g is_main s.of it.source it.defined)
        (size_of_body x.body) (body_size p es it.source x.body it.body)

    small_by : IsSmall f
    small_by =
        let sum = sum_by_places (λ (x : flat.Element). size_of_body x.body) f.elems amounts IsFor for_one sized in
        let same = sum-map (λ (c : Charge). c.amount) charges in
        let few = charges_few p checked.elements g is_main in
        let count = element_count_is p checked es made f flat_of in
        omega arith

  -- the flat program has at most 2^17 raw words, reads and operations
  pub flat_small : IsSmall f
  flat_small = let m = main_there p checked in small_by m.0 m.1

  -- it breaks no rule
  pub flat_is_sound : IsFlat f
  flat_is_sound = flat_sound p checked es made f flat_of flat_small

  -- so a checked program without a delay-free loop has exactly one solution
  pub has_one_solution : HasNoDelaylessLoop p
      → (stream : Rows)
      → IsStream p stream
      → (words : Words) × IsOneSolution p stream words
  has_one_solution loopless stream rows = one_solution p checked es made f flat_of flat_small loopless stream rows
