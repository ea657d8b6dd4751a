use Rattle.std.proofs.Common.{List, subst}
use Rattle.elaboration_run.specs.declared.lanes.Group.{Group}
use Rattle.elaboration_run.specs.Private.Groups.{HaveRows}
use Rattle.elaboration_run.specs.Private.EmptyLoops.{Holds}
use Rattle.elaboration_run.proofs.GroupRows.{front_rows, last_rows}
use Rattle.elaboration_run.proofs.HeldTurns.{front_or_last}
use Rattle.elaboration_run.proofs.groups.take_open.Goals as goal

pub returns-then-group-lt-LANES-clause-kept : goal.returns-then-group-lt-LANES-clause-kept
returns-then-group-lt-LANES-clause-kept c outer turns held =
    front_or_last outer turns c.pop.new.self.items c.in-Some.group
    (subst (λ (groups : List Group). Holds outer groups turns) c.in-Some.ensures.items held)

pub returns-then-group-lt-LANES-clause-same_loops : goal.returns-then-group-lt-LANES-clause-same_loops
returns-then-group-lt-LANES-clause-same_loops c loops have k less =
    last_rows loops c.pop.new.self.items c.in-Some.group (subst (HaveRows loops) c.in-Some.ensures.items have)

pub returns-then-group-lt-LANES-clause-rows : goal.returns-then-group-lt-LANES-clause-rows
returns-then-group-lt-LANES-clause-rows c loops have =
    front_rows loops c.pop.new.self.items c.in-Some.group (subst (HaveRows loops) c.in-Some.ensures.items have)
