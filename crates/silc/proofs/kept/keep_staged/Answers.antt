use Rattle.std.proofs.Common.{◌≡◌, refl, ap, sym, subst, Result}
use Rattle.std.specs.Prelude.{IfOk}
use Rattle.cycle_sim.specs.Machine.{Snapshot}
use Rattle.silc.specs.declared.kept.Kept.TheVariants.{Staged}
use Rattle.statuses.specs.declared.status.Ending.{Ending}
use Rattle.statuses.specs.declared.status.Status.TheVariants.{Done}
use Rattle.silc.proofs.kept.keep_staged.Goals as goal

pub returns-in-Ok-clause-done : goal.returns-in-Ok-clause-done
returns-in-Ok-clause-done c =
    subst (λ (ran : Result Snapshot Ending).
    IfOk ran (λ machine. (c.from.result.status ≡ Done) × (Staged c.in-Ok.machine ≡ Staged machine))) (sym c.in-Ok.is)
    (ap (λ (e : Ending). e.status) c.from.ensures, refl)
