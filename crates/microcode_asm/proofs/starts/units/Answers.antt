use Rattle.std.proofs.Common.{sym, subst}
use Rattle.microcode_asm.specs.Private.Starts.{AreUnitsOf, AreStarted}
use Rattle.microcode_asm.proofs.StartSteps.{blank_are, blank_started}
use Rattle.microcode_asm.proofs.starts.units.Goals as goal

pub start_all-requires-clause-units : goal.start_all-requires-clause-units
start_all-requires-clause-units c =
    subst (AreUnitsOf c.args.datapath.now) (sym c.in_ok-units.ensures) (blank_are c.args.datapath.now)

pub returns-clause-started : goal.returns-clause-started
returns-clause-started c image is =
    c.start_all.ensures.started image is
    (subst (AreStarted c.args.datapath.now c.args.plan.now image 0 0) (sym c.in_ok-units.ensures)
    (blank_started c.args.datapath.now c.args.plan.now image))
