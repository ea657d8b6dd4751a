-- The nodes of output words are added one after another, and then the graph is that of the program.
use Rattle.std.proofs.Common.{◌≡◌, refl, sym, ap, subst, ◌∙◌, ℕ, ◌+◌, ◌<◌, ◌≤◌, inl, inr, List, [], ◌∷◌, ◌++◌, length}
use Rattle.std.proofs.Common.{arith}
use Rattle.std.specs.Prelude.{slice_get, slice_index_or, sum_by, Some}
use Rattle.std.proofs.lemmas.Bool.{cases_eq}
use Rattle.std.proofs.lemmas.List.{length_push, get_or_push, get_or_append_left}
use Rattle.std.proofs.lemmas.Option.{slice_get_within, get_or_from_slice_get}
use Rattle.lists.proofs.Places.{some_once}
use Rattle.signal_graph.specs.Flat.{Element, Program, size_of_body}
use Rattle.signal_graph.specs.FlatRules.{IsFlat}
use Rattle.signal_graph.specs.GraphOf.{Site, sites, node_sites, IsMade, IsGraphOf}
use Rattle.signal_graph.specs.GraphSolves.{no_node, node_of}
use Rattle.signal_graph.specs.declared.graph.Graph.{Graph}
use Rattle.signal_graph.specs.declared.graph.Node.{Node}
use Rattle.signal_graph.proofs.GraphSound.{sites_most}
use Rattle.signal_graph.proofs.Members.{zip_length, zip_at}
use Rattle.signal_graph.proofs.Numbers.{number_below}
use Rattle.flow_graph.specs.Private.ElementNodes.{AreElementNumbers}
use Rattle.flow_graph.specs.Private.NodesBy.{AreMade}
use Rattle.flow_graph.specs.Private.Outputs.{output_node, AddsOutputs}

pub no_outputs : (old : List Node) (elements outs : List ℕ) → AddsOutputs old elements outs 0 old
no_outputs old elements outs = record {
  size = omega arith;
  before = λ v lt. refl;
  outputs = λ j e lt at. absurd (omega arith);
}

pub one_output : (old now new : List Node) (elements outs : List ℕ) (k d : ℕ) (node : Node)
    → slice_get outs k ≡ Some d
    → slice_index_or elements d 0 < length old
    → (let v = slice_index_or elements d 0 in node ≡ output_node k v (slice_index_or now v no_node).width)
    → new ≡ now ++ node ∷ []
    → AddsOutputs old elements outs k now
    → AddsOutputs old elements outs (k + 1) new
one_output old now new elements outs k d node here low is push h =
    let size = h.size in
    let read : (v : ℕ) → v < length now → slice_index_or new v no_node ≡ slice_index_or now v no_node =
    λ v lt. ap (λ xs. slice_index_or xs v no_node) push ∙ get_or_append_left now (node ∷ []) no_node v lt in
    record {
      size = ap length push ∙ length_push now node ∙ omega arith;
      before = λ v lt. read v (omega arith) ∙ h.before v lt;
      outputs = λ j e below at. elim (cases_eq j k) [
        | inl same ↦
            (let element : d ≡ e = some_once here (subst (λ (i : ℕ). slice_get outs i ≡ Some e) same at) in
            let v = slice_index_or elements d 0 in
            let last : slice_index_or new (length old + k) no_node ≡ node =
            ap (λ xs. slice_index_or xs (length old + k) no_node) push
            ∙ get_or_push now node no_node (length old + k) h.size in
            let whole : slice_index_or new (length old + k) no_node
            ≡ output_node k v (slice_index_or old v no_node).width =
            last ∙ is ∙ ap (λ (n : Node). output_node k v n.width) (h.before v low) in
            let P : ℕ → ℕ → Type 0 = λ i c.
            (let u = slice_index_or elements c 0 in
            slice_index_or new (length old + i) no_node ≡ output_node i u (slice_index_or old u no_node).width) in
            subst (λ i. P i e) (sym same) (subst (λ c. P k c) element whole))
        | inr other ↦
            (let less : j < k = omega arith in
            read (length old + j) (omega arith) ∙ h.outputs j e less at)
      ];
    }

module _ (p : Program) where
  pub few_sites : length (sites p) ≤ sum_by (λ (x : Element). size_of_body x.body) p.elems + length p.elems
  few_sites = sites_most p 0 p.elems

  pub outs_there : IsFlat p → (j e : ℕ) → slice_get p.outs j ≡ Some e → e < length p.elems
  outs_there sound j e at =
      subst (λ (d : ℕ). d < length p.elems) (get_or_from_slice_get p.outs j e 0 at)
      (sound.outs j 0 (slice_get_within p.outs j e at))

  module _ (nodes : List Node) (made : AreMade p nodes) (elements : List ℕ)
      (numbers : AreElementNumbers p elements) where
    pub count_nodes : length (node_sites p) ≡ length nodes
    count_nodes = zip_length (λ (s : Site) (node : Node). IsMade p s s.made node) (node_sites p) nodes made

    -- the node of each element is made at a place
    pub element_below : (e : ℕ) → e < length p.elems → slice_index_or elements e 0 < length nodes
    element_below e el =
        let is = numbers.at e el in
        let low = number_below p is.target (slice_index_or elements e 0) is.number in
        omega (arith, low, count_nodes)

    pub graph_of : (g : Graph)
        → g.inputs ≡ p.inputs
        → g.outs ≡ length p.outs
        → AddsOutputs nodes elements p.outs (length p.outs) g.nodes
        → ((j e : ℕ) → slice_get p.outs j ≡ Some e → e < length p.elems)
        → IsGraphOf p g
    graph_of g inputs outs all there =
        let size = all.size in
        record {
          inputs = inputs;
          outs = outs;
          count = omega (arith, count_nodes);
          made = λ v s at. (let low = slice_get_within (node_sites p) v s at in
              subst (λ (node : Node). IsMade p s s.made node) (sym (all.before v (omega (arith, count_nodes))))
              (zip_at (λ (t : Site) (node : Node). IsMade p t t.made node) (node_sites p) nodes v s no_node made at));
          outputs = λ j e at. (let el = there j e at in
              let is = numbers.at e el in
              let v = slice_index_or elements e 0 in
              let lt = slice_get_within p.outs j e at in
              let here : node_of g (length (node_sites p) + j) ≡ node_of g (length nodes + j) =
              ap (λ (n : ℕ). node_of g (n + j)) count_nodes in (
                record { node = v; delay = 0 },
                (is.target, is.node, is.number, refl),
                here ∙ all.outputs j e lt at
                    ∙ ap (λ (n : Node). output_node j v n.width) (sym (all.before v (element_below e el))),
              ));
        }
