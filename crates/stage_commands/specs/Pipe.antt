-- What `pipe SRC DP S SAMPLES OUT` plans and runs, when each of its statuses comes, and what it leaves.
use Rattle.std.specs.Prelude.{◌≡◌, ℕ, ◌-◌, List, ◌++◌, length, take, replicate, min, ℤ, pos}
use Rattle.lists.specs.Rows.{Rows}
use Rattle.cycle_sim.specs.Machine.{Snapshot, state_of}
use Rattle.cycle_sim.specs.Microcode.{micro_of}
use Rattle.datapath.specs.declared.types.Datapath.{Datapath}
use Rattle.desk_core.specs.View.{Name, Content, View}
use Rattle.desk_core.specs.Desk.{WhereSpecified}
use Rattle.micro_image.specs.Run.{Stands, IsRunOut, spread}
use Rattle.overlap_plan.specs.IsStagePlan.{plan_of}
use Rattle.overlap_plan.specs.declared.plan.StagePlan.{StagePlan}
use Rattle.overlap_sim.specs.Guarded.{of_guarded}
use Rattle.overlap_sim.specs.GuardedOf.{IsGuardedOf}
use Rattle.overlap_sim.specs.declared.guarded.Guarded.{Guarded}
use Rattle.run_command.specs.Run.{HasPlanInBy, IsRunErrorBy}
use Rattle.sample_commands.specs.Eval.{IsSolutionRowsBy, IsEvalDoneBy}
use Rattle.sample_io.specs.Samples.{printed}
use Rattle.silage_meaning.specs.Instances.{outputs}
use Rattle.silage_meaning.specs.Solves.{out}
use Rattle.silage_meaning.specs.Value.{Words}
use Rattle.silage_syntax.specs.Tree.{Program}
use Rattle.stage_commands.specs.StagePlans.{IsStagedOver, IsStageRefused}
use Rattle.statuses.specs.declared.status.Status.{Status}

-- As many rows that come so many samples late: zero rows first, and then the first of these rows.
abbrev pub late_rows : (late : ℕ) → (zero : List ℤ) → Rows → Rows
late_rows late zero rows = replicate (min late (length rows)) zero ++ take (length rows - late) rows

-- a zero for each output word
abbrev pub zero_row : Program → List ℤ
zero_row program = replicate (length (outputs program)) (pos 0)

-- the output rows of a solution over so many samples, as they come of so many stages
abbrev pub staged_out : (stages : ℕ) → Program → Words → (count : ℕ) → Rows
staged_out stages program words count = late_rows (stages - 1) (zero_row program) (out program words count)

-- The guarded image ran the stream without a conflict; the machine is in the image's state after it, with each row for
-- a whole period, and the text is the rows that the run put.
pub record HasGuardedRun (guarded : Guarded) (stream : Rows) (machine : Snapshot) (text : Content) : Type 0 where
  pub obeys : micro_of machine.code ≡ of_guarded guarded
  pub stands : Stands (state_of machine) (of_guarded guarded) (spread guarded.period stream)
  pub rows : Rows
  pub run : IsRunOut (of_guarded guarded) stream rows
  pub text_is : text ≡ printed rows

-- OUT has the output rows of the one solution of SRC's program over the stream of SAMPLES, all but one of the stages
-- late. The guarded image of the program's plan over DP's datapath ran this stream to its end and put these rows; the
-- machine is the one that ran it.
pub record IsPiped (stages : ℕ) (src datapath samples out : Name) (machine : Snapshot) (old new : View)
    : Type 0 where
  pub solved : IsEvalDoneBy (staged_out stages) src samples out old new
  pub path : Datapath
  pub plan : StagePlan
  pub planned : WhereSpecified old (HasPlanInBy (IsStagedOver stages) src datapath solved.program path plan)
  pub guarded : Guarded
  pub guarded_of : IsGuardedOf stages path (plan_of plan) guarded
  pub ran : HasGuardedRun guarded solved.stream machine solved.text

-- When each status comes where `pipe` is not done. What OUT has then is of the rows before, as late. A plan's guarded
-- image meets no conflict.
abbrev pub IsPipeError : (stages : ℕ) → Name → Name → (samples out : Name) → View → View → Status → Type 0
IsPipeError stages src datapath =
    IsRunErrorBy (IsStagedOver stages) src datapath (IsStageRefused stages) (IsSolutionRowsBy (staged_out stages))
