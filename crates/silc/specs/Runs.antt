-- When each status comes of `sim`, of `run`, of `pipe` and of `net`, and what they keep.
use Rattle.std.specs.Prelude.{ℕ}
use Rattle.desk_core.specs.View.{Name, View}
use Rattle.net_command.specs.Net.{IsNetDone, IsNetError}
use Rattle.run_command.specs.Run.{IsExecuted, IsRunError}
use Rattle.sample_commands.specs.Sim.{IsSimulated, IsSimError}
use Rattle.silc.specs.Kept.{KeepsOne, EndsWith}
use Rattle.silc.specs.declared.kept.Kept.{Kept}
use Rattle.silc.specs.declared.kept.Kept.TheVariants.{One, Staged, Joined}
use Rattle.stage_commands.specs.Pipe.{IsPiped, IsPipeError}
use Rattle.statuses.specs.declared.status.Status.{Status}

-- `sim` is done: it wrote the rows of the run, and keeps the machine that ran
abbrev pub IsSimDone : Name → Name → Name → View → View → Kept → Type 0
IsSimDone mic samples out old new = KeepsOne One (λ machine. IsSimulated mic samples out machine old new)

abbrev pub IsSimAnswer : Name → Name → Name → View → View → Kept → Status → Type 0
IsSimAnswer mic samples out old new =
    EndsWith One (λ machine. IsSimulated mic samples out machine old new) (IsSimError mic samples out old new)

-- `run` is done: it wrote the rows of the one solution, and keeps the machine that ran
abbrev pub IsRunDone : Name → Name → Name → Name → View → View → Kept → Type 0
IsRunDone src datapath samples out old new =
    KeepsOne One (λ machine. IsExecuted src datapath samples out machine old new)

abbrev pub IsRunAnswer : Name → Name → Name → Name → View → View → Kept → Status → Type 0
IsRunAnswer src datapath samples out old new =
    EndsWith One (λ machine. IsExecuted src datapath samples out machine old new)
    (IsRunError src datapath samples out old new)

-- `pipe` is done: it wrote the rows of the one solution, late, and keeps the machine of samples that overlap
abbrev pub IsPipeDone : Name → Name → ℕ → Name → Name → View → View → Kept → Type 0
IsPipeDone src datapath stages samples out old new =
    KeepsOne Staged (λ machine. IsPiped stages src datapath samples out machine old new)

abbrev pub IsPipeAnswer : Name → Name → ℕ → Name → Name → View → View → Kept → Status → Type 0
IsPipeAnswer src datapath stages samples out old new =
    EndsWith Staged (λ machine. IsPiped stages src datapath samples out machine old new)
    (IsPipeError stages src datapath samples out old new)

-- `net` is done: it wrote the rows of the net of the one solutions, and keeps the net that ran
abbrev pub IsJoinedDone : Name → Name → Name → View → View → Kept → Type 0
IsJoinedDone joins samples out old new = KeepsOne Joined (λ net. IsNetDone joins samples out net old new)

abbrev pub IsNetAnswer : Name → Name → Name → View → View → Kept → Status → Type 0
IsNetAnswer joins samples out old new =
    EndsWith Joined (λ net. IsNetDone joins samples out net old new) (IsNetError joins samples out old new)
