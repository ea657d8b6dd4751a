use Rattle.std.proofs.Common.{arith}
use Rattle.unit_assign.proofs.MissingSteps.{lacks_step, lacks_end}
use Rattle.unit_assign.proofs.problem.Problem.missing_operand.Goals as goal

pub loop-port-preserved : goal.loop-port-preserved
loop-port-preserved c =
    lacks_step c.args.self.now.datapath.now c.args.self.now.lowered.now c.args.units.now c.args.v c.args.unit
    c.loop-port.port c.deref-edge-items.result.now c.index.result.now c.lacks_operand.result c.requires.next.there
    c.index.ensures c.deref-edge-items.ensures (omega arith) c.loop-port.invariant c.lacks_operand.ensures.1
    c.if-lacks_operand.false

pub returns : goal.returns
returns c =
    lacks_end c.args.self.now.datapath.now c.args.self.now.lowered.now c.args.units.now c.args.v c.args.unit
    c.loop-port.port c.deref-edge-items.result.now c.index.result.now c.requires.next.there c.index.ensures
    c.deref-edge-items.ensures c.loop-port-test.false c.loop-port.invariant
