use Rattle.std.proofs.Common.{arith, sym}
use Rattle.silage_meaning.specs.Instances.{turns_of}
use Rattle.loop_expand.proofs.InstanceNumbers.{child_found, child_is}
use Rattle.loop_expand.proofs.calls.found_child.Goals as goal

pub returns-in-Some-clause-is : goal.returns-in-Some-clause-is
returns-in-Some-clause-is c =
    let (i, above, there, child) = c.in-Some.ensures in
    sym (child_found c.args.instances.now c.requires c.args.parent c.args.at (turns_of c.args.env.now) c.in-Some.child i
    (omega (arith, above, c.saturating_add.ensures)) there child)

pub returns-in-None-clause-is : goal.returns-in-None-clause-is
returns-in-None-clause-is c =
    child_is c.args.instances.now c.requires c.args.parent c.args.at (turns_of c.args.env.now)
    c.child_from-in-None.result c.child_from-in-None.ensures
