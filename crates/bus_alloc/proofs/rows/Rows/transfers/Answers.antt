use Rattle.std.proofs.Common.{subst, sym}
use Rattle.std.specs.List.{All}
use Rattle.std.proofs.lemmas.List.Elements.{All-push}
use Rattle.bus_alloc.specs.Private.Taking.{IsFirstTransfer}
use Rattle.bus_alloc.proofs.Taken.{ports_more}
use Rattle.bus_alloc.proofs.rows.Rows.transfers.Goals as goal

pub loop-port-preserved : goal.loop-port-preserved
loop-port-preserved c = record {
  ports = ports_more c.loop-port.transfers c.push.new.self c.args.dests.now c.loop-port.port-index _
      c.first_bus-bus.result
      c.loop-port-test.true c.loop-port.invariant.ports c.in_ok-push.ensures.ok;
  buses = subst (All (IsFirstTransfer c.args.self.now c.args.unit c.args.cycle)) (sym c.in_ok-push.ensures.ok)
      (All-push (IsFirstTransfer c.args.self.now c.args.unit c.args.cycle) c.loop-port.transfers _
      c.loop-port.invariant.buses c.first_bus-bus.ensures);
}
