-- The machine of a plan, and that of compiled microcode.
use Rattle.std.specs.Prelude.{◌≡◌, ℕ, List, length}
use Rattle.lists.specs.Rows.{Rows}
use Rattle.cycle_sim.specs.Machine.{Snapshot}
use Rattle.cycle_sim.specs.Microcode.{micro_of, inputs_of, code_of}
use Rattle.datapath.specs.declared.types.Datapath.{Datapath}
use Rattle.desk_core.specs.View.{Name, View}
use Rattle.desk_core.specs.Desk.{WhereSpecified}
use Rattle.desk_core.specs.Whole.{IsReadThrough}
use Rattle.micro_image.specs.declared.image.Image.{Image}
use Rattle.micro_image.specs.Fields.{Microprogram}
use Rattle.micro_image.specs.Run.{IsRunOut}
use Rattle.plan_soundness.specs.ImageOf.{IsImageOf}
use Rattle.silage_syntax.specs.Tree.{Program}
use Rattle.silage_meaning.specs.Value.{Words}
use Rattle.silage_meaning.specs.Solves.{IsStream as IsValidStream, IsOneSolution, out}
use Rattle.silc_files.specs.Limits.{text_limit}
use Rattle.silc_files.specs.Sources.{IsProgramIn}
use Rattle.plan_commands.specs.Plans.{IsPlannedOver}
use Rattle.sample_io.specs.Channels.{IsStream}
use Rattle.sample_loops.specs.Machines.{channels_of}
use Rattle.sample_commands.specs.Eval.{program_channels}
use Rattle.sample_commands.specs.Loaded.{IsFresh}
use Rattle.run_command.specs.Run.{HasPlanInBy}

-- Over each stream of valid rows the program has exactly one solution, and the microprogram, run without a conflict,
-- puts its rows. `rows_of` says which rows a solution has over so many samples.
abbrev pub RunsRowsOf : (rows_of : Program → Words → (count : ℕ) → Rows) → Program → Microprogram → Type 0
RunsRowsOf rows_of p micro =
    (stream : Rows) → IsValidStream p stream
    → (words : Words) × IsOneSolution p stream words
    × IsRunOut micro stream (rows_of p words (length stream))

-- The machine before its first cycle, of a plan that SRC's program has over the datapath of DP, which was read through.
-- `IsPlanned` says which plan that is, and `rows_of` which rows of the program's one solution the machine puts.
pub record IsPlannedMachine {P : Type 0} (IsPlanned : (source datapath : List ℕ) → Program → Datapath → P → Type 0)
    (rows_of : Program → Words → (count : ℕ) → Rows) (src datapath : Name) (old new : View) (machine : Snapshot)
    : Type 0 where
  pub read : IsReadThrough datapath text_limit old new
  pub fresh : IsFresh machine
  pub program : Program
  pub source : WhereSpecified old (IsProgramIn src program)
  pub path : Datapath
  pub plan : P
  pub planned : WhereSpecified old (HasPlanInBy IsPlanned src datapath program path plan)
  pub channels : channels_of (inputs_of machine.code) ≡ program_channels program
  pub valid : (rows : Rows) → IsStream (program_channels program) rows → IsValidStream program rows
  pub runs : RunsRowsOf rows_of program (micro_of machine.code)

-- the machine before its first cycle, with the image of the plan that SRC's program has over the datapath of DP, which
-- was read through
pub record IsCompiledMachine (src datapath : Name) (old new : View) (machine : Snapshot) : Type 0 where
  pub planned : IsPlannedMachine IsPlannedOver out src datapath old new machine
  pub image : Image
  pub code : machine.code ≡ code_of image
  pub image_of : IsImageOf planned.path planned.plan image
