-- The edges by the numbers of words, places and elements lead to the operands.
use Rattle.std.proofs.Common.{◌≡◌, refl, sym, ap, subst, ◌∙◌, ℕ, suc, ◌+◌, ◌-◌, List, [], ◌∷◌, map, arith}
use Rattle.std.specs.Prelude.{ℤ, slice_get, slice_index_or, All, Option, Some, is_some, unwrap_or}
use Rattle.std.specs.List.{AllZip}
use Rattle.std.proofs.lemmas.List.Elements.{All-contains}
use Rattle.std.proofs.lemmas.Option.{slice_get_within}
use Rattle.fix_word.specs.declared.operation.Op.{Op}
use Rattle.fix_word.specs.declared.types.Format.{Format}
use Rattle.signal_graph.specs.Flat.{Program}
use Rattle.signal_graph.specs.FlatRules.{IsFlat}
use Rattle.signal_graph.specs.GraphOf.{Operand, number, place, element, Made, nothing, constant, input, operation, Site}
use Rattle.signal_graph.specs.GraphOf.{sites, word_node, node_at, IsNumber, IsEdgeTo}
use Rattle.signal_graph.proofs.Members.{at_member}
use Rattle.signal_graph.proofs.Places.{site, made_of, in_place}
use Rattle.signal_graph.proofs.Numbers.{MakesNode, has_word_number}
use Rattle.signal_graph.specs.declared.graph.Edge.{Edge}
use Rattle.flow_graph.specs.Private.Edges.{edge_by, HasNumber}
use Rattle.flow_graph.specs.Private.ElementNodes.{AreElementNumbers}
use Rattle.flow_graph.specs.Private.NodesBy.{IsSomething}
use Rattle.flow_graph.specs.Private.Nodes.{word_position, AreNumbers}
use Rattle.flow_graph.specs.Private.Words.{number_in}
use Rattle.flow_graph.proofs.ElementPlaces.{among}
use Rattle.flow_graph.proofs.FirstSites.{nodes_are}
use Rattle.flow_graph.proofs.OperandPlaces.{IsNaming, AreNaming, all_named}
use Rattle.flow_graph.proofs.PlaceNumbers.{target_at, place_number}

something : (made : Made) → MakesNode made → IsSomething made
something nothing makes = absurd makes
something (constant m) makes = absurd makes
something (input j) makes = tt {0}
something (operation o fmt os) makes = tt {0}

own_number : (p : Program) (e k v : ℕ) (made : Made)
    → MakesNode made
    → IsNumber p (target_at e k made) v
    → IsNumber p (node_at e k) v
own_number p e k v nothing makes h = absurd makes
own_number p e k v (constant m) makes h = absurd makes
own_number p e k v (input j) makes h = h
own_number p e k v (operation o fmt os) makes h = h

module _ (p : Program) (sound : IsFlat p) (places : List ℕ) (words : List (ℤ × ℕ))
    (are : AreNumbers (sites p) places words) (elements : List ℕ) (all : AreElementNumbers p elements) (i : ℕ)
    (s : Site) (at : slice_get (sites p) i ≡ Some s) where
  abbrev edge : Operand → Edge
  edge = edge_by words places elements (i - s.place)

  one_edge : (o : Operand)
      → IsNaming p s.element o
      → HasNumber words places elements (i - s.place) o × IsEdgeTo p s.element o (edge o)
  one_edge (number m) (k, h) =
      let (v, n) = has_word_number p s.element k m (in_place p s (at_member (sites p) i s at)).element h in
      let met : number_in words m ≡ Some v = are.met m ∙ ap (word_position m) (nodes_are p) ∙ n in
      let same : v ≡ unwrap_or (number_in words m) 0 = sym (ap (λ (o : Option ℕ). unwrap_or o 0) met) in
      (ap (λ (o : Option ℕ). is_some o) met, (subst (λ (w : ℕ). IsNumber p (word_node m) w) same n, refl))
  one_edge (place k) (made, h, makes) =
      let there = (among p i s at).others k made h in
      let within = slice_get_within (sites p) (i - s.place + k) (site s.element k made) there in
      let size = are.size in
      let v = slice_index_or places (i - s.place + k) 0 in
      let n = place_number p places words are (i - s.place + k) (site s.element k made) there (something made makes) in
      (omega arith, (own_number p s.element k v made makes n, refl))
  one_edge (element d ago) low =
      let node = all.at d low in
      let size = all.size in
      (omega arith, (node.target, node.node, node.number, refl))

  its_operands : (made : Made) → s.made ≡ made → AreNaming p s.element made
  its_operands made same =
      let is = in_place p s (at_member (sites p) i s at) in
      subst (AreNaming p s.element) same
      (All-contains (AreNaming p s.element) (made_of p s.element) s.made (all_named p s.element sound is.element)
      (at_member (made_of p s.element) s.place s.made is.made))

  pub have_numbers : (o : Op) (fmt : Format) (os : List Operand)
      → s.made ≡ operation o fmt os
      → All (HasNumber words places elements (i - s.place)) os
  have_numbers o fmt os same k d lt =
      (one_edge (slice_index_or os k d) (its_operands (operation o fmt os) same k d lt)).0

  zipped : (os : List Operand) → All (IsNaming p s.element) os → AllZip (IsEdgeTo p s.element) os (map edge os)
  zipped [] naming = tt
  zipped (o ∷ os) naming =
      ((one_edge o (naming 0 o (omega arith))).1, zipped os (λ k d lt. naming (suc k) d (omega arith)))

  pub edges_lead : (o : Op) (fmt : Format) (os : List Operand)
      → s.made ≡ operation o fmt os
      → AllZip (IsEdgeTo p s.element) os (map edge os)
  edges_lead o fmt os same = zipped os (its_operands (operation o fmt os) same)
