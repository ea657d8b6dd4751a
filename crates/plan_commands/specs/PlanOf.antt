-- What `plan_of` answers for a source and a datapath.
use Rattle.std.specs.Prelude.{◌≡◌, Result, Ok, Err}
use Rattle.datapath.specs.declared.types.Datapath.{Datapath}
use Rattle.plan_core.specs.declared.plan.Plan.{Plan}
use Rattle.plan_commands.specs.declared.planning.Planned.{Planned}
use Rattle.statuses.specs.declared.status.Status.{Status}
use Rattle.statuses.specs.declared.status.Status.TheVariants.{Memory}

-- the call answers this plan over this datapath, or there is no memory
abbrev pub AnswersPlan : Datapath → Plan → Result Planned Status → Type 0
AnswersPlan d plan (Ok planned) = (planned.path ≡ d) × (planned.plan ≡ plan)
AnswersPlan d plan (Err status) = status ≡ Memory
