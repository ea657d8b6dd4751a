use Rattle.std.proofs.Common.{take}
use Rattle.equation_eval.specs.Private.Rings.{IsRaisedBy}
use Rattle.equation_eval.proofs.layout.raise.Given as goal

abbrev pub invariant-loop-edge : goal.invariant-loop-edge
invariant-loop-edge l = IsRaisedBy (take l.edge-index l.edge-items) l.fn.longest l.longest
