use Rattle.std.proofs.Common.{arith}
use Rattle.elaboration_code.specs.Actions.{define_at}
use Rattle.elaboration_run.specs.Private.States.{definitions_of}
use Rattle.elaboration_run.proofs.Each.{each_passes}
use Rattle.elaboration_run.proofs.definitions.define_all.Goals as goal

pub loop-k-preserved : goal.loop-k-preserved
loop-k-preserved c =
    each_passes (λ k. define_at k c.args.at) c.args.first c.loop-k.k c.args.count (omega arith)
    (definitions_of c.loop-k.definitions) _ c.loop-k.invariant
    c.element_at.result c.element_at.ensures (definitions_of c.define.new.definitions) c.in_ok-define.ensures
