-- How each command ends: when each status comes, what it leaves alone, and what it keeps.
use Rattle.std.specs.Prelude.{◌≡◌, [], ◌∷◌}
use Rattle.command_words.specs.Command.{Command, compile, schedule, list, sim, eval, run, demo, stages, pipe, frame}
use Rattle.command_words.specs.Command.{net}
use Rattle.command_words.specs.Command.{inputs_of}
use Rattle.desk_core.specs.View.{Name, View}
use Rattle.frame_command.specs.Frame.{IsFrameAnswer}
use Rattle.rate_unfold.specs.Frames.{rates}
use Rattle.net_command.specs.Net.{IsNetInput}
use Rattle.plan_commands.specs.Compile.{IsAnswer}
use Rattle.plan_commands.specs.Schedule.{IsScheduleAnswer}
use Rattle.sample_commands.specs.Eval.{IsEvalAnswer}
use Rattle.silc.specs.Demo.{IsDemoAnswer}
use Rattle.silc.specs.Kept.{KeepsAtMost}
use Rattle.silc.specs.Listing.{IsListAnswer}
use Rattle.silc.specs.Runs.{IsSimAnswer, IsRunAnswer, IsPipeAnswer, IsNetAnswer}
use Rattle.silc.specs.declared.kept.Kept.{Kept}
use Rattle.silc.specs.declared.kept.Kept.TheVariants.{Nothing}
use Rattle.silc_files.specs.Endings.{IsAmong, UsesOnly}
use Rattle.silc_files.specs.Printing.{ChangesNoFile, PrintsOnly}
use Rattle.stage_commands.specs.Stages.{IsStagesAnswer}
use Rattle.statuses.specs.declared.status.Status.{Status}

-- the command may read the name, as its files were at the start
abbrev pub IsInputOf : Command → View → Name → Type 0
IsInputOf (net joins samples out) old = IsNetInput joins samples out old
IsInputOf command old = IsAmong (inputs_of command)

abbrev pub IsEnding : Command → View → View → Kept → Status → Type 0
IsEnding (compile src datapath out) old new kept status =
    IsAnswer src datapath out old new status × UsesOnly (IsAmong (src ∷ datapath ∷ [])) out old new × (kept ≡ Nothing)
IsEnding (schedule src datapath) old new kept status =
    IsScheduleAnswer src datapath old new status
    × ChangesNoFile (IsAmong (src ∷ datapath ∷ [])) old new
    × (kept ≡ Nothing)
IsEnding (list mic) old new kept status =
    IsListAnswer mic old new status × ChangesNoFile (IsAmong (mic ∷ [])) old new × (kept ≡ Nothing)
IsEnding (sim mic samples out) old new kept status =
    IsSimAnswer mic samples out old new kept status
    × UsesOnly (IsAmong (mic ∷ samples ∷ [])) out old new
    × KeepsAtMost kept status
IsEnding (eval src samples out) old new kept status =
    IsEvalAnswer src samples out old new status × UsesOnly (IsAmong (src ∷ samples ∷ [])) out old new × (kept ≡ Nothing)
IsEnding (run src datapath samples out) old new kept status =
    IsRunAnswer src datapath samples out old new kept status
    × UsesOnly (IsAmong (src ∷ datapath ∷ samples ∷ [])) out old new
    × KeepsAtMost kept status
IsEnding (demo sections samples) old new kept status =
    IsDemoAnswer sections samples old new kept status × PrintsOnly old new × KeepsAtMost kept status
IsEnding (stages src datapath count) old new kept status =
    IsStagesAnswer count src datapath old new status
    × ChangesNoFile (IsAmong (src ∷ datapath ∷ [])) old new
    × (kept ≡ Nothing)
IsEnding (pipe src datapath count samples out) old new kept status =
    IsPipeAnswer src datapath count samples out old new kept status
    × UsesOnly (IsAmong (src ∷ datapath ∷ samples ∷ [])) out old new
    × KeepsAtMost kept status
IsEnding (frame src datapath phases down up out) old new kept status =
    IsFrameAnswer (rates phases down up) src datapath out old new status
    × UsesOnly (IsAmong (src ∷ datapath ∷ [])) out old new
    × (kept ≡ Nothing)
IsEnding (net joins samples out) old new kept status =
    IsNetAnswer joins samples out old new kept status
    × UsesOnly (IsNetInput joins samples out old) out old new
    × KeepsAtMost kept status
