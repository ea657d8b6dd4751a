use Rattle.std.proofs.Common.{take}
use Rattle.net_command.specs.Private.Prepared.{AreProcessors}
use Rattle.net_command.proofs.processors.processors_in.Given as goal

-- the processors so far
abbrev pub invariant-loop-one : goal.invariant-loop-one
invariant-loop-one l = AreProcessors (take l.one-index l.inputs) l.all
