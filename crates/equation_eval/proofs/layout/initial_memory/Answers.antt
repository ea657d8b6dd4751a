use Rattle.std.proofs.Common.{◌∙◌, ◌<◌, arith, ℕ, sym, subst, length}
use Rattle.std.specs.Prelude.{ℤ, slice_index_or}
use Rattle.fix_word.specs.Words.{IsMachineWord}
use Rattle.signal_graph.specs.GraphSolves.{no_node, node_of}
use Rattle.signal_graph.specs.declared.graph.Node.{Node}
use Rattle.equation_eval.specs.declared.memory.Ring.{Ring}
use Rattle.equation_eval.specs.Private.Rings.{ring_of, HoldsWordsBefore, SameOutside}
use Rattle.equation_eval.proofs.Layouts.{node_read, ring_read, initials_more, zeros_left}
use Rattle.equation_eval.proofs.Rows.{machine_word}
use Rattle.equation_eval.proofs.layout.initial_memory.Goals as goal

pub put_initials-requires-clause-words : goal.put_initials-requires-clause-words
put_initials-requires-clause-words c k d lt =
    let v : c.loop-v.v < length c.args.graph.now.nodes = omega (arith, c.loop-v-test.true, c.len-v-end.ensures) in
    let is = node_read c.args.graph.now c.loop-v.v c.index-in-loop-v.result.now v c.index-in-loop-v.ensures in
    let node = c.requires.graph.nodes c.loop-v.v no_node v in
    subst (λ (n : Node). (k : ℕ) (d : ℕ × ℤ) → k < length n.inits → IsMachineWord (slice_index_or n.inits k d).1)
    (sym is)
    (λ k d lt. machine_word (node_of c.args.graph.now c.loop-v.v).width
    (slice_index_or (node_of c.args.graph.now c.loop-v.v).inits k d).1 node.width (node.inits.words k d lt)) k d
    lt

pub loop-v-preserved : goal.loop-v-preserved
loop-v-preserved c =
    let g = c.args.graph.now in
    let rings = c.args.rings.now in
    let v : c.loop-v.v < length g.nodes = omega (arith, c.loop-v-test.true, c.len-v-end.ensures) in
    let node = node_read g c.loop-v.v c.index-in-loop-v.result.now v c.index-in-loop-v.ensures in
    let ring = ring_read rings c.loop-v.v c.index.result.now (omega (arith, c.requires.rings.count)) c.index.ensures in
    let own = subst (λ (n : Node). HoldsWordsBefore n.inits (ring_of rings c.loop-v.v) c.put_initials.new.memory) node
    (subst (λ (r : Ring). HoldsWordsBefore c.index-in-loop-v.result.now.inits r c.put_initials.new.memory) ring
    c.put_initials.ensures.initials) in
    let others = subst (λ (r : Ring). SameOutside r c.loop-v.memory c.put_initials.new.memory) ring
    c.put_initials.ensures.others in
    record {
      len = c.put_initials.ensures.len ∙ c.loop-v.invariant.len;
      initials = initials_more g c.requires.rings.longest rings c.args.cells c.requires.rings.are_rings
          c.requires.rings.count c.loop-v.v v c.loop-v.memory c.put_initials.new.memory own others
          c.loop-v.invariant.initials;
      zeros = zeros_left g c.requires.rings.longest rings c.args.cells c.requires.rings.are_rings
          c.requires.rings.count c.loop-v.v v c.loop-v.memory c.put_initials.new.memory own others
          c.loop-v.invariant.zeros;
    }
