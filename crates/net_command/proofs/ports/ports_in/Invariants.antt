use Rattle.std.proofs.Common.{◌≡◌, map, take}
use Rattle.signal_graph.specs.Flat.{view}
use Rattle.signal_graph.specs.FlatSolves.{element_of}
use Rattle.net_command.proofs.ports.ports_in.Given as goal

-- the types of the output words so far
abbrev pub invariant-loop-number : goal.invariant-loop-number
invariant-loop-number l =
    l.outs ≡ map (λ k. (element_of (view l.flat) k).ty) (take l.number-index l.number-items)
