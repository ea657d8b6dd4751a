-- What the steps of `demo` give: a plan, and the run of its image over the rows of the cascade.
use Rattle.std.specs.Prelude.{◌≡◌, ◌*◌, ◌^◌, ℕ, List, [], ◌∷◌, ℤ, pos, neg_ℤ, ◌≤ℤ◌}
use Rattle.lists.specs.Rows.{Rows}
use Rattle.cycle_sim.specs.declared.microcode.Microcode.{Microcode}
use Rattle.cycle_sim.specs.Machine.{Snapshot, state_of}
use Rattle.cycle_sim.specs.Microcode.{micro_of, inputs_of, code_of}
use Rattle.datapath.specs.Allowed.{IsDatapath}
use Rattle.datapath.specs.declared.types.Datapath.{Datapath}
use Rattle.micro_image.specs.declared.image.Image.{Image}
use Rattle.micro_image.specs.Fields.{Microprogram}
use Rattle.micro_image.specs.Run.{Stands, IsRunOut, spread}
use Rattle.plan_core.specs.declared.plan.Plan.{Plan}
use Rattle.plan_soundness.specs.ImageOf.{IsImageOf}
use Rattle.plan_core.specs.IsPlan.{IsPlan}
use Rattle.signal_graph.specs.declared.graph.Graph.{Graph}
use Rattle.silage_syntax.specs.Tree.{Program}
use Rattle.demo_cascade.specs.Cascade.{cascade_source, cascade_datapath, cascade_rows, words_of, sum_of, last_of}
use Rattle.plan_commands.specs.Headline.{RunsTheSolution}
use Rattle.plan_commands.specs.Plans.{IsPlannedOver}
use Rattle.loop_expand.specs.GraphFor.{IsGraphFor}
use Rattle.sample_commands.specs.Loaded.{IsFresh}
use Rattle.demo_cascade.specs.declared.Totals.{Totals}
use Rattle.plan_commands.specs.declared.planning.Planned.{Planned}

-- the plan of the cascade's program over its datapath
pub record IsCascadePlan (sections : ℕ) (planned : Planned) : Type 0 where
  pub program : Program
  pub graph : Graph
  pub keeps : IsGraphFor program graph
  pub allowed : IsDatapath planned.path
  pub plan : IsPlan graph planned.path planned.plan
  pub over : IsPlannedOver (cascade_source sections) (cascade_datapath sections) program planned.path planned.plan

-- it takes one word of 16 bits a sample, and puts one word
pub record HasOneWord (code : Microcode) : Type 0 where
  pub inputs : inputs_of code ≡ 16 ∷ []
  pub outs : (micro_of code).outs ≡ 1

-- the machine of the plan's image, before its first cycle
pub record IsCascadeMachine (sections : ℕ) (machine : Snapshot) : Type 0 where
  pub fresh : IsFresh machine
  pub image : Image
  pub code : machine.code ≡ code_of image
  pub program : Program
  pub path : Datapath
  pub plan : Plan
  pub over : IsPlannedOver (cascade_source sections) (cascade_datapath sections) program path plan
  pub image_of : IsImageOf path plan image
  pub runs : RunsTheSolution program image
  pub one_word : HasOneWord machine.code

-- the microprogram runs so many samples of the cascade without a conflict
abbrev pub RunsCascade : Microprogram → (samples : ℕ) → Type 0
RunsCascade micro samples = (rows : Rows) × IsRunOut micro (cascade_rows samples) rows

-- the microcode ran so many samples: the machine is in its state after them, and these are the words that it put
pub record HasPutWords (code : Microcode) (samples : ℕ) (machine : Snapshot) (words : List ℤ) : Type 0 where
  pub code_is : machine.code ≡ code
  pub stands :
      Stands (state_of machine) (micro_of code) (spread (micro_of code).period (cascade_rows samples))
  pub rows : Rows
  pub run : IsRunOut (micro_of code) (cascade_rows samples) rows
  pub words_are : words ≡ words_of rows

-- and this is what the words come to
pub record HasTotals (code : Microcode) (samples : ℕ) (machine : Snapshot) (totals : Totals) : Type 0 where
  pub words : List ℤ
  pub put : HasPutWords code samples machine words
  pub sum_is : totals.sum ≡ sum_of words
  pub last_is : totals.last ≡ last_of words

-- as great as a sum of so many words of 64 bits can be
abbrev pub IsSumOf : (samples : ℕ) → ℤ → Type 0
IsSumOf samples sum = (neg_ℤ (pos (samples * 2 ^ 63)) ≤ℤ sum) × (sum ≤ℤ pos (samples * 2 ^ 63))
