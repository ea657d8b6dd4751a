use Rattle.std.proofs.Common.{arith}
use Rattle.std.proofs.Math.Nat.{mul-le-mul}
use Rattle.cyclic_life.proofs.Placements.{read_edge}
use Rattle.cyclic_life.proofs.placement.Placement.read.Goals as goal

pub ends-requires-clause-node : goal.ends-requires-clause-node
ends-requires-clause-node c =
    (read_edge c.args.self.now.datapath.now c.args.self.now.assigned.now c.args.self.now.schedule.now c.requires.placed
    c.args.c c.args.port c.index.result.now c.index-edge.result.now c.requires.node c.requires.port c.index.ensures
    c.index-edge.ensures).0

pub overflow_mul-result : goal.overflow_mul-result
overflow_mul-result c =
    let delay = (read_edge c.args.self.now.datapath.now c.args.self.now.assigned.now c.args.self.now.schedule.now
    c.requires.placed c.args.c c.args.port c.index.result.now c.index-edge.result.now c.requires.node c.requires.port
    c.index.ensures c.index-edge.ensures).1 in
    let ago = mul-le-mul delay c.requires.placed.period in
    omega arith

pub overflow_add-result : goal.overflow_add-result
overflow_add-result c =
    let delay = (read_edge c.args.self.now.datapath.now c.args.self.now.assigned.now c.args.self.now.schedule.now
    c.requires.placed c.args.c c.args.port c.index.result.now c.index-edge.result.now c.requires.node c.requires.port
    c.index.ensures c.index-edge.ensures).1 in
    let ago = mul-le-mul delay c.requires.placed.period in
    let within = c.requires.placed.ends_within c.args.c c.requires.node in
    let period = c.requires.placed.period in
    let cycle = c.cycle.ensures in
    omega arith
