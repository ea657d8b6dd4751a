-- How the commands end, seen from the words.
use Rattle.std.proofs.Common.{◌≡◌, subst, ⊎_elim, ℕ}
use Rattle.std.specs.Prelude.{String, List}
use Rattle.std.specs.declared.alloc.Global.{Global}
use Rattle.command_words.specs.Command.{Command, compile, schedule, list, sim, eval, run, demo, stages, pipe, frame}
use Rattle.command_words.specs.Command.{net}
use Rattle.command_words.specs.Command.{IsCommand, IsCommandIn, IsCompile}
use Rattle.command_words.specs.Compile.{AreCompile}
use Rattle.command_words.proofs.CompileWords.{is_compile}
use Rattle.desk_core.specs.View.{Name, View}
use Rattle.desk_core.specs.Desk.{IfSpecified}
use Rattle.net_command.proofs.NetAnswers.{net_not_words}
use Rattle.plan_commands.specs.Compile.{HasTheSolution, IsDone, IsCompileDone}
use Rattle.frame_command.specs.FramePlans.{IsFrameRefusal, IsFrameRefused, IsFrameError}
use Rattle.plan_commands.specs.Refusals.{IsRefusal, IsRefused, IsErrorOf, IsPlanError}
use Rattle.plan_commands.proofs.Making.{headline_at, compiled_at}
use Rattle.silc.specs.declared.kept.Kept.{Kept}
use Rattle.rate_unfold.specs.Frames.{Rates, rates}
use Rattle.silc.specs.Demo.{IsDemoAnswer}
use Rattle.silc.specs.Endings.{IsEnding}
use Rattle.silc.specs.Listing.{IsListAnswer}
use Rattle.stage_commands.specs.StagePlans.{IsStageRefused, IsStageError}
use Rattle.statuses.specs.declared.status.Status.{Status}
use Rattle.statuses.specs.declared.status.Status.TheVariants.{Done, Words}

-- no error of a planning is the status of words that are no command, where no refusal is
error_not_words :
    (IsWhy : Status → Type 0) (Tells : Status → (source datapath : List ℕ) → Type 0) (src datapath : Name)
    (old new : View)
    → (IsWhy Words → ⊥)
    → IsErrorOf IsWhy Tells src datapath old new Words
    → ⊥
error_not_words IsWhy Tells src datapath old new never h =
    ⊎_elim (λ memory. absurd (cc)) (λ rest. ⊎_elim (λ desk. absurd (cc)) (λ refused. never refused.0) rest) h

plan_not_words : (src datapath : Name) (old new : View) → IsPlanError src datapath old new Words → ⊥
plan_not_words src datapath old new = error_not_words IsRefusal IsRefused src datapath old new (λ never. never)

stages_not_words : (count : ℕ) (src datapath : Name) (old new : View)
    → IsStageError count src datapath old new Words
    → ⊥
stages_not_words count src datapath old new =
    error_not_words IsRefusal (IsStageRefused count) src datapath old new (λ never. never)

frame_not_words : (r : Rates) (src datapath : Name) (old new : View) → IsFrameError r src datapath old new Words → ⊥
frame_not_words r src datapath old new =
    error_not_words IsFrameRefusal (IsFrameRefused r) src datapath old new (λ never. never)

list_not_words : (mic : Name) (old new : View) → IsListAnswer mic old new Words → ⊥
list_not_words mic old new h =
    ⊎_elim (λ done. absurd (cc))
    (λ rest. ⊎_elim (λ desk. absurd (cc))
    (λ error. ⊎_elim (λ memory. absurd (cc)) (λ more. ⊎_elim (λ desk. absurd (cc)) (λ bad. absurd (cc)) more) error)
    rest)
    h

demo_not_words : (sections samples : ℕ) (old new : View) (kept : Kept)
    → IsDemoAnswer sections samples old new kept Words
    → ⊥
demo_not_words sections samples old new kept h =
    ⊎_elim (λ done. absurd (cc))
    (λ rest.
    ⊎_elim (λ desk. absurd (cc)) (λ error. ⊎_elim (λ memory. absurd (cc)) (λ refused. refused.0) error.why) rest)
    h

pub never_words : (command : Command) (old new : View) (kept : Kept) → IsEnding command old new kept Words → ⊥
never_words (compile src datapath out) old new kept h = plan_not_words src datapath old new h.0
never_words (schedule src datapath) old new kept h = plan_not_words src datapath old new h.0
never_words (list mic) old new kept h = list_not_words mic old new h.0
never_words (sim mic samples out) old new kept h = h.0
never_words (eval src samples out) old new kept h = h.0
never_words (run src datapath samples out) old new kept h = plan_not_words src datapath old new h.0
never_words (demo sections samples) old new kept h = demo_not_words sections samples old new kept h.0
never_words (stages src datapath count) old new kept h = stages_not_words count src datapath old new h.0
never_words (pipe src datapath count samples out) old new kept h = stages_not_words count src datapath old new h.0
never_words (frame src datapath phases down up out) old new kept h =
    frame_not_words (rates phases down up) src datapath old new h.0
never_words (net joins samples out) old new kept h = net_not_words joins samples out old new h.0

-- so words that are a command are not told as bad
pub not_words : (words : List (String Global)) (old new : View) (kept : Kept) (status : Status)
    → ((command : Command) → IsCommandIn words command → IsEnding command old new kept status)
    → IsCommand words
    → status ≡ Words
    → ⊥
not_words words old new kept status ending (command, form) e =
    never_words command old new kept (subst (λ (s : Status). IsEnding command old new kept s) e (ending command form))

-- where `compile` is done
module _ (words : List (String Global)) (old new : View) (kept : Kept) (status : Status)
    (ending : (command : Command) → IsCommandIn words command → IsEnding command old new kept status)
    (done : status ≡ Done) (src datapath out : Name) where
  compiled : IsCompile words src datapath out → IsCompileDone src datapath out old new
  compiled form =
      (subst (λ (s : Status). IsEnding (compile src datapath out) old new kept s) done
      (ending (compile src datapath out) form)).0

  pub headline : AreCompile words src datapath out → IfSpecified (HasTheSolution src datapath out) old.files new.files
  headline are = headline_at src datapath out old new (compiled (is_compile words src datapath out are))

  pub planned : IsCompile words src datapath out → IfSpecified (IsDone src datapath out) old.files new.files
  planned form = compiled_at src datapath out old new (compiled form)
