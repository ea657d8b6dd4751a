use Rattle.std.proofs.Common.{arith, length}
use Rattle.unit_assign.proofs.RouteSteps.{ports_allowed, drivers_allowed, routes_step}
use Rattle.unit_assign.proofs.drivers.all_drivers.Goals as goal

pub loop-bus-preserved : goal.loop-bus-preserved
loop-bus-preserved c =
    routes_step c.args.datapath.now c.loop-bus.bus-index c.deref-bus-items.result.now c.bus-item.result
    c.as_slice.result.now c.bus_drivers.result c.loop-bus.table c.add_drivers.new.table c.deref-bus-items.ensures
    (omega arith) c.bus-item.is c.bus_drivers.ensures c.as_slice.ensures c.add_drivers.ensures c.loop-bus.invariant

pub add_drivers-requires : goal.add_drivers-requires
add_drivers-requires c =
    ports_allowed c.args.datapath.now c.requires c.deref-bus-items.result.now c.deref-bus-items.ensures
    c.loop-bus.bus-index c.bus-item.result (omega arith) c.bus-item.is c.as_slice.result.now c.as_slice.ensures
    (length c.loop-bus.table) c.loop-bus.invariant.count

pub bus_drivers-requires : goal.bus_drivers-requires
bus_drivers-requires c =
    drivers_allowed c.args.datapath.now c.requires c.deref-bus-items.result.now c.deref-bus-items.ensures
    c.loop-bus.bus-index c.bus-item.result (omega arith) c.bus-item.is
