-- All fields of a file but those of its words, and what an issue does, in any form.
use Rattle.std.specs.Prelude.{ℕ, ◌*◌, List, [], length, Ok}
use Rattle.micro_image.specs.declared.image.Image.{Image}
use Rattle.micro_image.specs.declared.image.Issue.{Issue}
use Rattle.micro_image.specs.declared.image.UnitDesc.{UnitDesc}
use Rattle.micro_image.specs.declared.image.Word.{Word}
use Rattle.micro_image.specs.Operations.{reads}
use Rattle.micro_file.specs.Private.Fields.{Reading, ◌>>=◌, many_at}
use Rattle.micro_file.specs.Private.FormAt.{FormAt}
use Rattle.micro_file.specs.Private.Units.{units_at}

module _ (form : FormAt) where
  -- a count, and this many widths
  unfoldable pub inputs_at : List ℕ → Reading (List ℕ)
  inputs_at left = form.channels left >>= λ count. many_at (λ _. form.width) [] count.0 count.1

  -- all but the words
  unfoldable pub hardware_at : List ℕ → Reading Image
  hardware_at left = do
    period ← form.period left
    unroll ← form.unroll period.1
    inputs ← inputs_at unroll.1
    outs ← form.channels inputs.1
    units ← units_at form outs.1
    buses ← form.buses units.1
    Ok (
      record {
        period = period.0;
        unroll = unroll.0;
        inputs = inputs.0;
        outs = outs.0;
        units = units.0;
        buses = buses.0;
        words = [];
      },
      buses.1,
    )

  -- an image behind the version, whose words are read so
  unfoldable pub image_at : (Image → List ℕ → Reading Word) → List ℕ → Reading Image
  image_at word_at left = do
    hardware ← hardware_at left
    words ← many_at (λ _. word_at hardware.0) [] (hardware.0.period * hardware.0.unroll) hardware.1
    Ok (record hardware.0 { words = words.0 }, words.1)

  -- an issue on a unit: all but the unit's number
  unfoldable pub issue_on_at : Image → ℕ → UnitDesc → List ℕ → Reading Issue
  issue_on_at image number unit left = do
    op ← form.operation unit.kind left
    fmt ← form.format op.0 op.1
    arg ← form.argument op.0 (length image.inputs) image.outs fmt.1
    regs ← form.named unit.files (reads op.0) arg.1
    Ok (record { unit = number; op = op.0; fmt = fmt.0; arg = arg.0; regs = regs.0 }, regs.1)
