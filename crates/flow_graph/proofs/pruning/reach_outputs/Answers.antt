use Rattle.std.proofs.Common.{◌≡◌, ◌∙◌, sym, arith, ◌+◌, ◌<◌, length, true, false}
use Rattle.flow_graph.proofs.Searches.{IsBegun, begun_yes, begun_no}
use Rattle.flow_graph.proofs.pruning.reach_outputs.Goals as goal
use Rattle.flow_graph.proofs.pruning.reach_outputs.Goals.{then-is_output+in_ok-reach, else-is_output}

pub loop-v-preserved : goal.loop-v-preserved
loop-v-preserved c =
    let inside : c.loop-v.v < length c.args.graph.now.nodes = omega (arith, c.loop-v-test.true, c.len-v-end.ensures) in
    let begun : IsBegun c.args.graph.now c.loop-v.v c.loop-v.search =
    record { search = c.loop-v.invariant.search; outputs = c.loop-v.invariant.outputs } in
    let more : IsBegun c.args.graph.now (c.loop-v.v + 1) c.if-is_output.search =
    elim c.if-is_output.branch [
      | then-is_output+in_ok-reach w ↦
          begun_yes c.args.graph.now c.loop-v.search c.if-is_output.search c.loop-v.v c.index.result.now begun
          inside c.index.ensures (c.is_output.ensures.0 w.if-is_output.true)
          (w.search-is ∙ w.in_ok-reach.ensures)
      | else-is_output w ↦
          begun_no c.args.graph.now c.loop-v.search c.if-is_output.search c.loop-v.v c.index.result.now begun
          inside c.index.ensures
          (λ is. let no : true ≡ false = sym (c.is_output.ensures.1 is) ∙ w.if-is_output.false in cc) w.search-is
    ] in
    record { search = more.search; outputs = more.outputs }
