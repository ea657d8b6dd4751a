use Rattle.std.proofs.Common.{◌≡◌, refl, ap, sym, subst, Result}
use Rattle.std.specs.Prelude.{IfOk}
use Rattle.proc_net.specs.Nets.{NetState}
use Rattle.silc.specs.declared.kept.Kept.TheVariants.{Joined}
use Rattle.statuses.specs.declared.status.Ending.{Ending}
use Rattle.statuses.specs.declared.status.Status.TheVariants.{Done}
use Rattle.silc.proofs.kept.keep_joined.Goals as goal

pub returns-in-Ok-clause-done : goal.returns-in-Ok-clause-done
returns-in-Ok-clause-done c =
    subst (λ (ran : Result NetState Ending).
    IfOk ran (λ net. (c.from.result.status ≡ Done) × (Joined c.in-Ok.net ≡ Joined net))) (sym c.in-Ok.is)
    (ap (λ (e : Ending). e.status) c.from.ensures, refl)
