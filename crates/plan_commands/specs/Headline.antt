-- What `compile` promises of the microcode that it writes.
use Rattle.std.specs.Prelude.{◌≡◌, ◌≤◌, ℕ, List, length, map}
use Rattle.lists.specs.Rows.{Rows}
use Rattle.datapath.specs.Described.{IsPathOf}
use Rattle.datapath.specs.declared.types.Datapath.{Datapath}
use Rattle.micro_image.specs.declared.image.Image.{Image}
use Rattle.micro_image.specs.Fields.{microprogram_of}
use Rattle.micro_image.specs.Run.{IsRunOut}
use Rattle.micro_image.specs.declared.version.Version.TheVariants.{Two}
use Rattle.micro_image.specs.Spells.{SpellsIn, Spells}
use Rattle.plan_core.specs.declared.plan.Plan.{Plan}
use Rattle.plan_soundness.specs.ImageOf.{IsImageOf, width_of}
use Rattle.silage_lex.specs.Tokens.{HasTokens}
use Rattle.silage_lex.specs.declared.Token.{Token}
use Rattle.silage_parse.specs.Answers.{IsOnly}
use Rattle.silage_syntax.specs.Tree.{Program}
use Rattle.silage_meaning.specs.Value.{Words}
use Rattle.silage_meaning.specs.Solves.{IsStream, IsOneSolution, input_types, output_types, out}
use Rattle.silc_files.specs.Limits.{microcode_limit}
use Rattle.plan_commands.specs.Plans.{IsPlannedOver}

-- the bytes spell the image in version 2, and no other in any version
pub record SpellsOnly (bytes : List ℕ) (image : Image) : Type 0 where
  pub spells : SpellsIn Two bytes image
  pub unique : (other : Image) → Spells bytes other → other ≡ image

-- Over each stream of valid rows the program has exactly one solution, and the image, run without a conflict, puts
-- exactly its output words, each sample in the image's period of cycles.
abbrev pub RunsTheSolution : Program → Image → Type 0
RunsTheSolution program image =
    (stream : Rows) → IsStream program stream
    → (words : Words) × IsOneSolution program stream words
    × IsRunOut (microprogram_of image) stream (out program words (length stream))

-- The bytes of the source are one program, and the file describes a datapath. The microcode spells an image in version
-- 2, and nothing else. That image takes the program's input words in their widths, puts its output words, and runs the
-- program's one solution in the datapath's period.
pub record CarriesTheSolution (source datapath microcode : List ℕ) : Type 0 where
  pub tokens : List Token
  pub lexed : HasTokens source tokens
  pub program : Program
  pub parsed : IsOnly tokens program
  pub path : Datapath
  pub described : IsPathOf datapath path
  pub image : Image
  pub spelled : SpellsOnly microcode image
  pub inputs : image.inputs ≡ map width_of (input_types program)
  pub outs : image.outs ≡ length (output_types program)
  pub runs : RunsTheSolution program image
  pub period : image.period ≡ path.period

-- The program of the source has a plan over the datapath of the file. The microcode spells the image of that plan in
-- version 2 and nothing else, and that image runs the program's one solution in the datapath's period.
pub record IsCompiled (source datapath microcode : List ℕ) : Type 0 where
  pub program : Program
  pub path : Datapath
  pub plan : Plan
  pub planned : IsPlannedOver source datapath program path plan
  pub image : Image
  pub image_of : IsImageOf path plan image
  pub spelled : SpellsOnly microcode image
  -- so that every command reads it
  pub short : length microcode ≤ microcode_limit
  pub inputs : image.inputs ≡ map width_of (input_types program)
  pub outs : image.outs ≡ length (output_types program)
  pub runs : RunsTheSolution program image
  pub period : image.period ≡ path.period
