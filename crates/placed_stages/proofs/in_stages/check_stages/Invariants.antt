use Rattle.std.proofs.Common.{ℕ, ◌<◌}
use Rattle.overlap_plan.specs.Staged.{path_of, nodes_on}
use Rattle.placed_stages.specs.Private.Stages.{IsStaged}
use Rattle.placed_stages.proofs.in_stages.check_stages.Given as goal

-- the nodes before are in their stages
abbrev pub invariant-loop-v : goal.invariant-loop-v
invariant-loop-v l =
    (u : ℕ) → u < l.v → IsStaged l.staged.stages (path_of l.staged) (nodes_on l.staged) l.schedule u
