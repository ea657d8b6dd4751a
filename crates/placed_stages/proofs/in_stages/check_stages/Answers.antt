use Rattle.std.proofs.Common.{◌≡◌, ◌<◌, ◌≤◌, ⊎_elim, sym, subst, arith, rules}
use Rattle.std.proofs.lemmas.Bool.{cases_lt}
use Rattle.overlap_plan.specs.Staged.{path_of, nodes_on}
use Rattle.placed_stages.specs.Private.Stages.{IsStaged}
use Rattle.placed_stages.proofs.in_stages.check_stages.Goals as goal

pub loop-v-preserved : goal.loop-v-preserved
loop-v-preserved c =
    λ u less.
    ⊎_elim
    (λ (before : u < c.loop-v.v). c.loop-v.invariant u before)
    (λ (at : c.loop-v.v ≤ u).
    let same : u ≡ c.loop-v.v = omega (arith, at, less) in
    subst
    (IsStaged c.args.staged.now.stages (path_of c.args.staged.now) (nodes_on c.args.staged.now) c.args.schedule.now)
    (sym same) (c.is_staged.ensures.0 (search rules)))
    (cases_lt u c.loop-v.v)
