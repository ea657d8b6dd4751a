-- The nodes of the graph of a flat program.
use Rattle.std.proofs.Common.{◌≡◌, refl, sym, subst, ap, ◌∙◌, arith, ℕ, suc, ◌+◌, ◌-◌, ◌<◌, Bool, true, false}
use Rattle.std.proofs.Common.{if◌then◌else◌, List, [], ◌∷◌, length}
use Rattle.std.specs.Prelude.{ℤ, pos, slice_get, Some}
use Rattle.std.proofs.lemmas.Bool.{eq-eqb, both_ways, or_parts}
use Rattle.std.proofs.lemmas.List.{length-append}
use Rattle.lists.specs.Rows.{Rows}
use Rattle.fix_word.specs.declared.operation.Op.{Op}
use Rattle.fix_word.specs.declared.operation.Op.TheVariants as op
use Rattle.fix_word.specs.declared.types.Format.{Format}
use Rattle.signal_graph.specs.Operations.{class_of, IsCalculation}
use Rattle.signal_graph.specs.Flat.{calculation, word, Program, size}
use Rattle.signal_graph.specs.FlatSolves.{element_of}
use Rattle.signal_graph.specs.GraphSolves.{node_of}
use Rattle.signal_graph.specs.Values.{Words, operand_words, result, node_value}
use Rattle.signal_graph.specs.declared.graph.Edge.{Edge}
use Rattle.signal_graph.specs.declared.graph.Node.{Node}
use Rattle.signal_graph.specs.declared.graph.Graph.{Graph}
use Rattle.signal_graph.specs.GraphOf.{Made, constant, input, operation, operands_from, made_by, Site, sites_from}
use Rattle.signal_graph.specs.GraphOf.{element_sites, Target, word_node, node_at, is_delayed, pass, IsNumber, IsNodeOf}
use Rattle.signal_graph.specs.GraphOf.{input_node, pass_node, own_node, word_alias, read_alias, node_format, node_width}
use Rattle.signal_graph.specs.GraphOf.{inits_at, IsMade, IsGraphOf}
use Rattle.signal_graph.proofs.Places.{site, made_of}
use Rattle.signal_graph.proofs.Parts.{length_made}
use Rattle.signal_graph.proofs.Numbers.{number_below, place_node, word_at}
use Rattle.signal_graph.proofs.Bodies.{its_width, input_made, value_made, pass_made, calculation_made}

pub length_sites_from : (e k : ℕ) (ms : List Made) → length (sites_from e k ms) ≡ length ms
length_sites_from e k [] = refl
length_sites_from e k (m ∷ ms) = ap (λ (n : ℕ). suc n) (length_sites_from e (k + 1) ms)

pub last_inits : (p : Program) (e k : ℕ) (m : Made)
    → k + 1 ≡ length (made_of p e)
    → inits_at p (site e k m) ≡ (element_of p e).inits
last_inits p e k m last =
    let count = length (element_sites p (e, element_of p e)) in
    ap (λ (b : Bool). if b then (element_of p e).inits else [])
    (eq-eqb (k + 1) count (last ∙ sym (length_sites_from e 0 (made_of p e))))

-- what a calculation's node gives
pub operation_value :
    (stream : Rows) (words : Words) (n : ℕ) (o : Op) (fmt : Format) (edges : List Edge) (inits : List (ℕ × ℤ))
    → IsCalculation (class_of o)
    → node_value stream words n
    (record {
      op = o;
      fmt = node_format (class_of o) fmt;
      arg = pos 0;
      edges = edges;
      inits = inits;
      width = node_width (class_of o) fmt;
      ram = 0;
    }) ≡ result o fmt (operand_words words n edges)
operation_value stream words n op.Add fmt edges inits is = refl
operation_value stream words n op.Sub fmt edges inits is = refl
operation_value stream words n op.Neg fmt edges inits is = refl
operation_value stream words n op.Pass fmt edges inits is = refl
operation_value stream words n op.Mul fmt edges inits is = refl
operation_value stream words n op.Lt fmt edges inits is = refl
operation_value stream words n op.Le fmt edges inits is = refl
operation_value stream words n op.Eq fmt edges inits is = refl
operation_value stream words n op.Ne fmt edges inits is = refl
operation_value stream words n op.And fmt edges inits is = refl
operation_value stream words n op.Or fmt edges inits is = refl
operation_value stream words n op.Not fmt edges inits is = refl
operation_value stream words n op.Sel fmt edges inits is = refl
operation_value stream words n _ fmt edges inits is = absurd is

module _ (p : Program) (g : Graph) (is : IsGraphOf p g) where
  pub inside : (t : Target) (v : ℕ) → IsNumber p t v → v < length g.nodes
  inside t v h = omega (arith, number_below p t v h, is.count)

  -- the node at a place of an element
  pub at_place : (e k v : ℕ) (made : Made)
      → IsNumber p (node_at e k) v
      → slice_get (made_of p e) k ≡ Some made
      → IsMade p (site e k made) made (node_of g v)
  at_place e k v made number there = is.made v (site e k made) (place_node p e k v made number there)

  -- the node of a raw word
  pub at_word : (m : ℤ) (v : ℕ) → IsNumber p (word_node m) v → (s : Site) × IsMade p s (constant m) (node_of g v)
  at_word m v number =
      let (s, at, same) = word_at p m v number in
      (s, subst (λ (made : Made). IsMade p s made (node_of g v)) same (is.made v s at))

  pub at_input : (e j v : ℕ)
      → (element_of p e).body ≡ word j
      → IsNumber p (node_at e 0) v
      → IsMade p (site e 0 (input j)) (input j) (node_of g v)
  at_input e j v h number =
      at_place e 0 v (input j) number
      (subst (λ (ms : List Made). slice_get ms 0 ≡ Some (input j)) (sym (input_made p e j h)) refl)

  -- the node of an element that is read with a delay has its initial values
  pub its_inits : (e : ℕ) (t : Target) (v : ℕ)
      → is_delayed p e ≡ true
      → IsNodeOf p e t
      → IsNumber p t v
      → (node_of g v).inits ≡ (element_of p e).inits
  its_inits e t v delayed (input_node {j = j} h) number =
      let last : 0 + 1 ≡ length (made_of p e) =
      subst (λ (ms : List Made). 0 + 1 ≡ length ms) (sym (input_made p e j h)) refl in
      ap (λ (node : Node). node.inits) (at_input e j v h number) ∙ last_inits p e 0 (input j) last
  its_inits e t v delayed (pass_node {x = x} h passes) number =
      let made = pass (its_width p e) x in
      let last : size x + 1 ≡ length (made_of p e) =
      subst (λ (ms : List Made). size x + 1 ≡ length ms) (sym (value_made p e x true h passes))
      (omega (arith, length-append (made_by 0 x) (made ∷ []), length_made 0 x)) in
      ap (λ (node : Node). node.inits) (at_place e (size x) v made number (pass_made p e x h passes)).1
      ∙ last_inits p e (size x) made last
  its_inits e t v delayed (own_node {o = o} {fmt = fmt} {parts = parts} h) number =
      let x = calculation o fmt parts in
      let made = operation o fmt (operands_from 0 parts) in
      let last : size x - 1 + 1 ≡ length (made_of p e) =
      subst (λ (ms : List Made). size x - 1 + 1 ≡ length ms) (sym (value_made p e x false h refl))
      (omega (arith, length-append (made_by 0 x) [], length_made 0 x)) in
      ap (λ (node : Node). node.inits) (at_place e (size x - 1) v made number (calculation_made p e o fmt parts h)).1
      ∙ last_inits p e (size x - 1) made last
  its_inits e t v delayed (word_alias a) number = absurd (both_ways (is_delayed p e) a.pass delayed)
  its_inits e t v delayed (read_alias a r) number =
      absurd (both_ways (is_delayed p e) (or_parts false (is_delayed p e) a.pass).1 delayed)
