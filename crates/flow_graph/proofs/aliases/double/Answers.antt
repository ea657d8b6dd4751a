use Rattle.std.proofs.Common.{◌<◌, length, arith}
use Rattle.flow_graph.proofs.AliasSteps.{inside_set, one_doubled}
use Rattle.flow_graph.proofs.aliases.double.Goals as goal

pub loop-elem-preserved : goal.loop-elem-preserved
loop-elem-preserved c =
    let within : c.loop-elem.elem < length c.loop-elem.leads = omega arith in
    record {
      inside = inside_set c.loop-elem.leads c.loop-elem.elem c.loop-elem.invariant.inside within;
      doubled = λ p height far jumps.
          one_doubled p height far c.loop-elem.elem c.loop-elem.leads c.loop-elem.invariant.inside within
          (c.loop-elem.invariant.doubled p height far jumps);
    }
