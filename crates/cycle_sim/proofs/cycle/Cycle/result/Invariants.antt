use Rattle.std.proofs.Common.{◌≡◌, take, pos}
use Rattle.std.specs.List.{fold}
use Rattle.micro_image.specs.Fields.{nth}
use Rattle.cycle_sim.specs.InFlight.{slot_of}
use Rattle.cycle_sim.specs.Microcode.{micro_of}
use Rattle.cycle_sim.specs.Private.Execution.{after_issue}
use Rattle.cycle_sim.proofs.cycle.Cycle.result.Given as goal

abbrev pub invariant-loop-issue : goal.invariant-loop-issue
invariant-loop-issue l =
    l.value
    ≡ fold (after_issue (micro_of l.self.code) l.storage l.row l.self.sample l.self.number
    (slot_of l.self.number l.unit))
    (nth l.values (slot_of l.self.number l.unit) (pos 0)) (take l.issue-index l.issue-items)
