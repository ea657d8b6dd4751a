use Rattle.std.proofs.Common.{◌∙◌, sym, ap, subst, option_copied}
use Rattle.cycle_sim.specs.Private.Execution.{IsCycle}
use Rattle.cycle_sim.proofs.Latches.{names_latch, below_read}
use Rattle.cycle_sim.proofs.cycle.Cycle.written.Goals as goal

pub latch_of-requires : goal.latch_of-requires
latch_of-requires c =
    let is = subst IsCycle c.self.view_is c.self.invariant.0 in
    below_read c.in_ok-issue.issue.now.arg
    (names_latch c.args.self.now.code is.valid c.args.self.now.number c.args.unit c.in_ok-issue.issue.now
    (sym c.requires.ended ∙ ap option_copied c.in_ok-issue.was) c.in-Output.is)
