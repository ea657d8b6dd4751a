use Rattle.std.proofs.Common.{refl, arith, ◌<◌, length}
use Rattle.plan_core.specs.Operands.{node_of, edge_of}
use Rattle.cyclic_life.proofs.Placements.{port_count, read_pushed}
use Rattle.cyclic_life.proofs.placement.Placement.push_reads.Goals as goal

pub loop-port-preserved : goal.loop-port-preserved
loop-port-preserved c =
    let d = c.args.self.now.datapath.now in
    let a = c.args.self.now.assigned.now in
    let s = c.args.self.now.schedule.now in
    let port = c.loop-port.port in
    let count = port_count a.lowered.nodes c.args.c c.len-port-end.result c.index.result.now c.requires.node
    c.index.ensures c.len-port-end.ensures
    in
    let within : port < length (node_of a.lowered.nodes c.args.c).edges = omega arith in
    let operand = (edge_of (node_of a.lowered.nodes c.args.c) port).node in
    read_pushed d a s c.args.c port operand c.loop-port.reads.items c.push.new.self.items c.read.result within refl
    c.loop-port.invariant c.in_ok-push.ensures.items c.read.ensures
