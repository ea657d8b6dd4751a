-- The nodes that are made place after place.
use Rattle.std.proofs.Common.{◌≡◌, refl, sym, ap, subst, ◌∙◌, ℕ, ◌+◌, ◌-◌, ◌<◌, ◌≤◌, inl, inr, Bool, true, false, List}
use Rattle.std.proofs.Common.{[], ◌∷◌, ◌++◌, Option, Some, None, length, take, map, arith}
use Rattle.std.specs.Prelude.{ℤ, pos, ◌==◌, not, is_none, slice_get, slice_index_or}
use Rattle.std.specs.List.{AllZip}
use Rattle.std.proofs.lemmas.Bool.{cases_lt, eqb-true, eq-eqb, ne_eqb}
use Rattle.std.proofs.lemmas.Bool.Decides.{Decides-int_eq}
use Rattle.std.proofs.lemmas.List.{take_more, take_all}
use Rattle.std.proofs.lemmas.List.Quantifiers.{position-Some}
use Rattle.std.proofs.lemmas.Option.{none-some, same_Some, slice_get_within, slice_get-get_or, get_or_from_slice_get}
use Rattle.lists.proofs.Zips.{zip_push}
use Rattle.fix_word.specs.declared.operation.Op.{Op}
use Rattle.fix_word.specs.declared.operation.Op.TheVariants as op
use Rattle.fix_word.specs.declared.types.Format.{Format}
use Rattle.signal_graph.specs.Operations.{class_of}
use Rattle.signal_graph.specs.Rules.{width_of, plain}
use Rattle.signal_graph.specs.Flat.{Program}
use Rattle.signal_graph.specs.FlatRules.{IsFlat}
use Rattle.signal_graph.specs.FlatSolves.{element_of}
use Rattle.signal_graph.specs.GraphOf.{Operand, Made, nothing, constant, input, operation, Site, sites, element_sites}
use Rattle.signal_graph.specs.GraphOf.{word_node, is_target, is_constant, node_format, node_width, inits_at, IsEdgeTo}
use Rattle.signal_graph.specs.GraphOf.{IsMade}
use Rattle.signal_graph.specs.declared.graph.Edge.{Edge}
use Rattle.signal_graph.specs.declared.graph.Node.{Node}
use Rattle.signal_graph.proofs.Members.{at_member, zip_length}
use Rattle.signal_graph.proofs.Made.{IsSoundMade, place_sound}
use Rattle.signal_graph.proofs.Nodes.{length_sites_from}
use Rattle.signal_graph.proofs.Places.{site, made_of, in_place}
use Rattle.flow_graph.specs.Private.Edges.{edge_by, HasNumber}
use Rattle.flow_graph.specs.Private.ElementNodes.{AreElementNumbers}
use Rattle.flow_graph.specs.Private.Nodes.{word_position, is_made_after, with_site, nodes_of, IsPlaceNumber, AreNumbers}
use Rattle.flow_graph.specs.Private.NodesBy.{IsSomething, CanBeMade, IsNodeBy, is_made_by, is_end_before, AreMadeUpTo}
use Rattle.flow_graph.specs.Private.NodesBy.{AreMade}
use Rattle.flow_graph.proofs.ElementNumbers.{later_above}
use Rattle.flow_graph.proofs.ElementPlaces.{among}
use Rattle.flow_graph.proofs.FirstSites.{elements_rise, nodes_are}
use Rattle.flow_graph.proofs.NumberSteps.{kept, grown, nodes_push}
use Rattle.flow_graph.proofs.PlaceEdges.{have_numbers, edges_lead}
use Rattle.flow_graph.proofs.Positions.{position_end}

pub same_node : (o : Op) (arg : ℤ) (f g : Format) (es fs : List Edge) (is js : List (ℕ × ℤ)) (w u : ℕ)
    → f ≡ g
    → es ≡ fs
    → is ≡ js
    → w ≡ u
    → (let a : Node = record { op = o; fmt = f; arg = arg; edges = es; inits = is; width = w; ram = 0 } in
    let b : Node = record { op = o; fmt = g; arg = arg; edges = fs; inits = js; width = u; ram = 0 } in
    a ≡ b)
same_node o arg f g es fs is js w u fmt edges inits width =
    let node : Format → List Edge → List (ℕ × ℤ) → ℕ → Node =
    λ f es is w. record { op = o; fmt = f; arg = arg; edges = es; inits = is; width = w; ram = 0 } in
    ap (λ f. node f es is w) fmt ∙ ap (λ es. node g es is w) edges ∙ ap (λ is. node g fs is w) inits
    ∙ ap (λ w. node g fs js w) width

pub operation_by :
    (width : ℕ) (inits : List (ℕ × ℤ)) (edge : Operand → Edge) (o : Op) (fmt : Format) (os : List Operand) (made : Made)
    (f : Format) (es : List Edge) (is : List (ℕ × ℤ)) (w : ℕ)
    → made ≡ operation o fmt os
    → f ≡ node_format (class_of o) fmt
    → es ≡ map edge os
    → is ≡ inits
    → w ≡ node_width (class_of o) fmt
    → IsNodeBy width inits edge made
    (record { op = o; fmt = f; arg = pos 0; edges = es; inits = is; width = w; ram = 0 })
operation_by width inits edge o fmt os made f es is w same a b c d =
    subst
    (λ (m : Made). IsNodeBy width inits edge m
    (record { op = o; fmt = f; arg = pos 0; edges = es; inits = is; width = w; ram = 0 }))
    (sym same)
    (same_node o (pos 0) f (node_format (class_of o) fmt) es (map edge os) is inits w (node_width (class_of o) fmt)
    a b c d)

same_test : (nodes : List Site) (s : Site) (made : Made) (v : ℕ)
    → s.made ≡ made
    → IsPlaceNumber nodes s made v
    → is_made_by v (length nodes) made ≡ is_made_after nodes made
same_test nodes s nothing v is h = refl
same_test nodes s (input j) v is h = refl
same_test nodes s (operation o fmt os) v is h = refl
same_test nodes s (constant m) v is h = by (word_position m nodes) refl
  where
    by : (o : Option ℕ) → word_position m nodes ≡ o → (v == length nodes) ≡ is_none (word_position m nodes)
    by None e =
        let more = grown nodes s (constant m) is (ap (λ (o : Option ℕ). is_none o) e) in
        let sure = ap (is_constant m) is ∙ (Decides-int_eq m m).1 refl in
        let here = position_end (is_target (word_node m)) nodes s e sure in
        let same : v ≡ length nodes = same_Some v (length nodes) (sym h ∙ ap (word_position m) more ∙ here) in
        eq-eqb v (length nodes) same ∙ sym (ap (λ (o : Option ℕ). is_none o) e)
    by (Some w) e =
        let as_before = kept nodes s (constant m) is (ap (λ (o : Option ℕ). is_none o) e) in
        let low = (position-Some (is_target (word_node m)) nodes v s (sym (ap (word_position m) as_before) ∙ h)).0 in
        ne_eqb v (length nodes) (λ same. omega arith) ∙ sym (ap (λ (o : Option ℕ). is_none o) e)

module _ (p : Program) (i : ℕ) (s : Site) (at : slice_get (sites p) i ≡ Some s) where
  next_nodes : nodes_of (take (i + 1) (sites p)) ≡ with_site (nodes_of (take i (sites p))) s
  next_nodes =
      let all = sites p in
      let within = slice_get_within all i s at in
      let first : take (i + 1) all ≡ take i all ++ s ∷ [] =
      take_more all i s within ∙ ap (λ y. take i all ++ y ∷ []) (get_or_from_slice_get all i s s at) in
      ap nodes_of first ∙ nodes_push [] (take i all) s

  abbrev R : Site → Node → Type 0
  R t node = IsMade p t t.made node

  module _ (places : List ℕ) (words : List (ℤ × ℕ)) (are : AreNumbers (sites p) places words) (nodes : List Node)
      (h : AreMadeUpTo p i nodes) (b : Bool)
      (is : b ≡ is_made_by (slice_index_or places i 0) (length nodes) s.made) where
    tested : is_made_after (nodes_of (take i (sites p))) s.made ≡ b
    tested =
        let count = zip_length R (nodes_of (take i (sites p))) nodes h in
        sym (same_test (nodes_of (take i (sites p))) s s.made (slice_index_or places i 0) refl (are.places i s at))
        ∙ ap (λ (n : ℕ). is_made_by (slice_index_or places i 0) n s.made) count
        ∙ sym is

    pub no_node_more : b ≡ false → AreMadeUpTo p (i + 1) nodes
    no_node_more fails =
        subst (λ (ns : List Site). AllZip R ns nodes)
        (sym (next_nodes ∙ kept (nodes_of (take i (sites p))) s s.made refl (tested ∙ fails))) h

    pub node_more : b ≡ true
        → (node : Node) (nodes' : List Node)
        → R s node
        → nodes' ≡ nodes ++ node ∷ []
        → AreMadeUpTo p (i + 1) nodes'
    node_more sure node nodes' made push =
        subst (λ (ns : List Site). AllZip R ns nodes')
        (sym (next_nodes ∙ grown (nodes_of (take i (sites p))) s s.made refl (tested ∙ sure)))
        (subst (λ (ns : List Node). AllZip R (nodes_of (take i (sites p)) ++ s ∷ []) ns) (sym push)
        (zip_push R (nodes_of (take i (sites p))) nodes s node h made))

    pub is_something : b ≡ true → IsSomething s.made
    is_something sure = by s.made (sym is ∙ sure)
      where
        by : (made : Made) → is_made_by (slice_index_or places i 0) (length nodes) made ≡ true → IsSomething made
        by nothing t = absurd (cc)
        by (constant m) t = tt {0}
        by (input j) t = tt {0}
        by (operation o fmt os) t = tt {0}

  -- whether it is the last place of its element
  pub last_test : is_end_before (slice_get (sites p) (i + 1)) s.element
      ≡ (s.place + 1 == length (element_sites p (s.element, element_of p s.element)))
  last_test = by (slice_get (sites p) (i + 1)) refl
    where
      count : length (element_sites p (s.element, element_of p s.element)) ≡ length (made_of p s.element)
      count = length_sites_from s.element 0 (made_of p s.element)

      -- if it is not the last one, the next one is behind
      behind : s.place + 1 < length (made_of p s.element)
          → (t : Site) × (slice_get (sites p) (i + 1) ≡ Some t) × (t.element ≡ s.element)
      behind less =
          let is = among p i s at in
          let m = slice_index_or (made_of p s.element) (s.place + 1) nothing in
          let inside = is.inside in
          let next : i - s.place + (s.place + 1) ≡ i + 1 = omega arith in (
            site s.element (s.place + 1) m,
            subst (λ (j : ℕ). slice_get (sites p) j ≡ Some (site s.element (s.place + 1) m)) next
                (is.others (s.place + 1) m (slice_get-get_or (made_of p s.element) (s.place + 1) nothing less)),
            refl,
          )

      end : ((t : Site) → slice_get (sites p) (i + 1) ≡ Some t → t.element ≡ s.element → ⊥)
          → (s.place + 1 == length (element_sites p (s.element, element_of p s.element))) ≡ true
      end none =
          let is = in_place p s (at_member (sites p) i s at) in
          let low = slice_get_within (made_of p s.element) s.place s.made is.made in
          elim (cases_lt (s.place + 1) (length (made_of p s.element))) [
            | inl less ↦ (let (t, there, same) = behind less in absurd (none t there same))
            | inr most ↦ eq-eqb (s.place + 1) _ (omega (arith, count))
          ]

      by : (o : Option Site)
          → slice_get (sites p) (i + 1) ≡ o
          → is_end_before o s.element ≡ (s.place + 1 == length (element_sites p (s.element, element_of p s.element)))
      by None e = sym (end (λ t there same. none-some t (sym e ∙ there)))
      by (Some t) e = which (t.element == s.element) refl
        where
          which : (x : Bool)
              → (t.element == s.element) ≡ x
              → not x ≡ (s.place + 1 == length (element_sites p (s.element, element_of p s.element)))
          which true is =
              let same = eqb-true t.element s.element is in
              let there = in_place p t (at_member (sites p) (i + 1) t e) in
              let low = slice_get_within (made_of p t.element) t.place t.made there.made in
              let size = ap (λ (d : ℕ). length (made_of p d)) same in
              sym (ne_eqb (s.place + 1) _ (λ end. elim
              (later_above (sites p) 0 0 (elements_rise p 0 p.elems) i (i + 1) s t (omega arith) at e) [
                | inl above ↦ omega arith
                | inr above ↦ (let high = above.1 in omega (arith, count))
              ]))
          which false is = sym (end (λ u there same.
              (let one : t ≡ u = same_Some t u (sym e ∙ there) in
              let also = eq-eqb t.element s.element (ap (λ (z : Site). z.element) one ∙ same) in
              absurd (cc))))

  module _ (sound : IsFlat p) (places : List ℕ) (words : List (ℤ × ℕ)) (are : AreNumbers (sites p) places words)
      (elements : List ℕ) (all : AreElementNumbers p elements) where
    pub can_be_made : IsSomething s.made → CanBeMade (HasNumber words places elements (i - s.place)) s.made
    can_be_made some = by s.made refl some (place_sound p sound s (in_place p s (at_member (sites p) i s at)))
      where
        by : (made : Made)
            → s.made ≡ made
            → IsSomething made
            → IsSoundMade p made
            → CanBeMade (HasNumber words places elements (i - s.place)) made
        by nothing is t sure = absurd t
        by (constant m) is t sure = sure
        by (input j) is t sure = tt {0}
        by (operation o fmt os) is t sure = have_numbers p sound places words are elements all i s at o fmt os is

    pub made_right : (inits : List (ℕ × ℤ)) (width : ℕ) (node : Node)
        → inits ≡ inits_at p s
        → width ≡ width_of (element_of p s.element).ty
        → IsNodeBy width inits (edge_by words places elements (i - s.place)) s.made node
        → IsMade p s s.made node
    made_right inits width node its wide h = by s.made refl h
      where
        by : (made : Made)
            → s.made ≡ made
            → IsNodeBy width inits (edge_by words places elements (i - s.place)) made node
            → IsMade p s made node
        by nothing is h = h
        by (constant m) is h = h
        by (input j) is h =
            h
            ∙ same_node op.Input (pos j) (plain 0) (plain 0) [] [] inits (inits_at p s) width
            (width_of (element_of p s.element).ty) refl refl its wide
        by (operation o fmt os) is h =
            let edges : node.edges ≡ map (edge_by words places elements (i - s.place)) os =
            ap (λ (n : Node). n.edges) h in (
              subst (λ (es : List Edge). AllZip (IsEdgeTo p s.element) os es) (sym edges)
                  (edges_lead p sound places words are elements all i s at o fmt os is),
              h
                  ∙ same_node o (pos 0) (node_format (class_of o) fmt) (node_format (class_of o) fmt)
                  (map (edge_by words places elements (i - s.place)) os) node.edges inits (inits_at p s)
                  (node_width (class_of o) fmt) (node_width (class_of o) fmt) refl (sym edges) its refl,
            )

pub all_made : (p : Program) (n : ℕ) (nodes : List Node)
    → length (sites p) ≤ n
    → AreMadeUpTo p n nodes
    → AreMade p nodes
all_made p n nodes end h =
    subst (λ (ns : List Site). AllZip (λ (s : Site) (node : Node). IsMade p s s.made node) ns nodes)
    (ap nodes_of (take_all n (sites p) end) ∙ nodes_are p) h
