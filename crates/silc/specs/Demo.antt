-- When each status comes of `demo K N`, and what it prints and keeps.
use Rattle.std.specs.Prelude.{◌≡◌, ◌⊎◌, ℕ}
use Rattle.cycle_sim.specs.Machine.{Snapshot, state_of}
use Rattle.cycle_sim.specs.Microcode.{code_of}
use Rattle.datapath.specs.declared.types.Datapath.{Datapath}
use Rattle.desk_core.specs.View.{Content, View}
use Rattle.desk_core.specs.Desk.{IfSpecified, IsUnchanged, PrintFaultsRose}
use Rattle.micro_image.specs.declared.image.Image.{Image}
use Rattle.micro_image.specs.Fields.{microprogram_of}
use Rattle.micro_image.specs.Run.{Stands, spread}
use Rattle.plan_core.specs.declared.plan.Plan.{Plan}
use Rattle.plan_soundness.specs.ImageOf.{IsImageOf}
use Rattle.silage_syntax.specs.Tree.{Program}
use Rattle.silage_meaning.specs.Solves.{IsOneSolution, out}
use Rattle.silage_meaning.specs.Value.{Words}
use Rattle.demo_cascade.specs.Cascade.{cascade_source, cascade_datapath, cascade_rows, cascade_line, words_of}
use Rattle.plan_commands.specs.Plans.{IsPlannedOver, IsPlannable}
use Rattle.plan_commands.specs.Refusals.{IsNoPlan}
use Rattle.silc_files.specs.Printing.{IsPrintedMore, IsPrintedInPart}
use Rattle.silc.specs.declared.kept.Kept.{Kept}
use Rattle.silc.specs.declared.kept.Kept.TheVariants.{One}
use Rattle.statuses.specs.declared.status.Status.{Status}
use Rattle.statuses.specs.declared.status.Status.TheVariants.{Done, Desk}

-- The cascade's program has exactly one solution over the samples, and the line tells the sum and the last of its
-- output words. The machine is in the state of the image of the program's plan after the samples, with each row for a
-- whole period.
pub record IsCascadeRun (sections samples : ℕ) (machine : Snapshot) (line : Content) : Type 0 where
  pub program : Program
  pub path : Datapath
  pub plan : Plan
  pub planned : IsPlannedOver (cascade_source sections) (cascade_datapath sections) program path plan
  pub image : Image
  pub image_of : IsImageOf path plan image
  pub code_is : machine.code ≡ code_of image
  pub stands : Stands (state_of machine) (microprogram_of image) (spread image.period (cascade_rows samples))
  pub words : Words
  pub one : IsOneSolution program (cascade_rows samples) words
  pub line_is : line ≡ cascade_line sections samples (words_of (out program words samples))

-- the line was printed, and the machine that ran the cascade is kept
pub record IsDemoDone (sections samples : ℕ) (old new : View) (kept : Kept) : Type 0 where
  pub machine : Snapshot
  pub kept_is : kept ≡ One machine
  pub line : Content
  pub run : IsCascadeRun sections samples machine line
  pub printed : IfSpecified (IsPrintedMore line) old.printed new.printed

-- printing the line failed, after a prefix of it
pub record IsDemoCutShort (sections samples : ℕ) (old new : View) : Type 0 where
  pub rose : PrintFaultsRose old new
  pub machine : Snapshot
  pub line : Content
  pub run : IsCascadeRun sections samples machine line
  pub printed : IfSpecified (IsPrintedInPart line) old.printed new.printed

-- nothing but the faults changed, and this is why there was no memory or the cascade has no plan
pub record IsDemoError (sections : ℕ) (old new : View) (status : Status) : Type 0 where
  pub unchanged : IsUnchanged old new
  pub why : IsNoPlan (cascade_source sections) (cascade_datapath sections) status

-- the program of so many sections has a plan over their datapath
abbrev pub IsCascadePlannable : ℕ → Type 0
IsCascadePlannable sections = IsPlannable (cascade_source sections) (cascade_datapath sections)

-- when each status comes
abbrev pub IsDemoAnswer : (sections samples : ℕ) → View → View → Kept → Status → Type 0
IsDemoAnswer sections samples old new kept status =
    ((status ≡ Done) × IsDemoDone sections samples old new kept)
    ⊎ ((status ≡ Desk) × IsDemoCutShort sections samples old new)
    ⊎ IsDemoError sections old new status
