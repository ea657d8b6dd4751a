use Rattle.std.proofs.Common.{arith}
use Rattle.signal_graph.specs.Flat.{view_expr}
use Rattle.loop_expand.specs.Private.Elements.{with_value}
use Rattle.loop_expand.proofs.FactSteps.{changed_at}
use Rattle.loop_expand.proofs.elements.define.Goals as goal

pub returns : goal.returns
returns c =
    changed_at (with_value (view_expr c.args.value)) c.args.elem c.args.elems.now c.index-elems-elem.result
    c.set_value.new.elem (omega arith) c.set_value.ensures
