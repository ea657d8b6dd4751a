use Rattle.std.proofs.Common.{arith}
use Rattle.plan_core.specs.Hardware.{port_of}
use Rattle.unit_assign.proofs.RouteSteps.{added_step}
use Rattle.unit_assign.proofs.drivers.add_drivers.Goals as goal

pub loop-port-preserved : goal.loop-port-preserved
loop-port-preserved c =
    added_step c.args.drivers c.args.ports.now c.loop-port.port-index c.from.result c.place_of-place.result
    c.args.table.now c.loop-port.table c.index.result.now c.union-all.result (omega arith)
    (c.requires c.loop-port.port-index (port_of 0 0) (omega arith)) c.loop-port.invariant c.from.ensures
    c.place_of-place.ensures c.index.ensures c.union-all.ensures
