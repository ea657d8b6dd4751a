-- All but the words, what an issue does, and an image are read as they are laid out.
use Rattle.std.proofs.Common.{◌≡◌, ℕ, ◌*◌, List, [], length, Ok, ℤ}
use Rattle.fix_word.specs.declared.operation.Op.{Op}
use Rattle.fix_word.specs.declared.types.Format.{Format}
use Rattle.operations.specs.Units.{ports}
use Rattle.micro_image.specs.declared.image.Image.{Image}
use Rattle.micro_image.specs.declared.image.Issue.{Issue}
use Rattle.micro_image.specs.declared.image.UnitDesc.{UnitDesc}
use Rattle.micro_image.specs.declared.image.Word.{Word}
use Rattle.micro_image.specs.Form.{Form}
use Rattle.micro_image.specs.Operations.{kind_of, reads}
use Rattle.micro_image.specs.Valid.{IsWithin, IsArgument}
use Rattle.micro_file.specs.Hardware.{Own, IsUnroll, some_units, hardware, image, issue_on}
use Rattle.micro_file.specs.Layout.{Layout, chain, field, many}
use Rattle.micro_file.specs.Private.Fields.{Reading, ◌>>=◌, many_at}
use Rattle.micro_file.specs.Private.FormAt.{FormAt}
use Rattle.micro_file.specs.Private.Hardware.{inputs_at, hardware_at, image_at, issue_on_at}
use Rattle.micro_file.specs.Private.Units.{some_units_at, units_at}
use Rattle.micro_file.proofs.FormReader.{ReadsForm, HaveRegisters}
use Rattle.micro_file.proofs.FormTold.{TellsForm}
use Rattle.micro_file.proofs.HardwareReader.{IsHardware, hardware_reader}
use Rattle.micro_file.proofs.IssueOnReader.{HasFewWords, enough_files}
use Rattle.micro_file.proofs.Layouts.{Is, tells_given, tells_next, tells_many, field_allowed}
use Rattle.micro_file.proofs.UnitsTold.{some_units_told}

module _ {base : ℕ} {spell : Form} {own : Own} {form : FormAt} (is : ReadsForm base spell form)
    (told : TellsForm base spell own form) where
  -- a count, and this many widths
  abbrev inputs : Layout (List ℕ)
  inputs = chain (field spell.channels (IsWithin 1 16)) (many (λ _. field spell.width (IsWithin 0 40)) [])

  inputs_told : Is base inputs (inputs_at form)
  unfolding inputs_at
  inputs_told left fits =
      tells_next base (field spell.channels (IsWithin 1 16)) (many (λ _. field spell.width (IsWithin 0 40)) []) left
      (λ (n : ℕ × List ℕ). many_at (λ _. form.width) [] n.0 n.1) (form.channels left) (told.channels left fits)
      (λ x e d.
      tells_many base (λ _. field spell.width (IsWithin 0 40)) (λ _. form.width) (λ _. told.width) [] x.0 x.1 d)

  units_told : Is base (chain (field spell.units (IsWithin 1 32)) (some_units spell own)) (units_at form)
  unfolding units_at
  units_told left fits =
      tells_next base (field spell.units (IsWithin 1 32)) (some_units spell own) left
      (λ (n : ℕ × List ℕ). some_units_at form n.0 n.1) (form.units left) (told.units left fits)
      (λ x e d. some_units_told is told x.0 x.1 d)

  abbrev whole_hardware : ℕ → ℕ → List ℕ → ℕ → List UnitDesc → ℕ → Image
  whole_hardware period unroll inputs outs units buses = record {
    period = period;
    unroll = unroll;
    inputs = inputs;
    outs = outs;
    units = units;
    buses = buses;
    words = [];
  }

  hardware_told : Is base (hardware spell own) (hardware_at form)
  unfolding hardware hardware_at
  hardware_told left fits =
      tells_next base (field spell.period (IsWithin 1 4096)) _ left
      (λ (p : ℕ × List ℕ).
      form.unroll p.1 >>= λ u. inputs_at form u.1 >>= λ i. form.channels i.1 >>= λ o. units_at form o.1 >>= λ n.
      form.buses n.1 >>= λ b. Ok (whole_hardware p.0 u.0 i.0 o.0 n.0 b.0, b.1))
      (form.period left) (told.period left fits) (λ p e d.
      tells_next base (field spell.unroll IsUnroll) _ p.1
      (λ (u : ℕ × List ℕ).
      inputs_at form u.1 >>= λ i. form.channels i.1 >>= λ o. units_at form o.1 >>= λ n. form.buses n.1 >>= λ b.
      Ok (whole_hardware p.0 u.0 i.0 o.0 n.0 b.0, b.1))
      (form.unroll p.1) (told.unroll p.1 d) (λ u e2 d2.
      tells_next base inputs _ u.1
      (λ (i : List ℕ × List ℕ).
      form.channels i.1 >>= λ o. units_at form o.1 >>= λ n. form.buses n.1 >>= λ b.
      Ok (whole_hardware p.0 u.0 i.0 o.0 n.0 b.0, b.1))
      (inputs_at form u.1) (inputs_told u.1 d2) (λ i e3 d3.
      tells_next base (field spell.channels (IsWithin 1 16)) _ i.1
      (λ (o : ℕ × List ℕ).
      units_at form o.1 >>= λ n. form.buses n.1 >>= λ b. Ok (whole_hardware p.0 u.0 i.0 o.0 n.0 b.0, b.1))
      (form.channels i.1) (told.channels i.1 d3) (λ o e4 d4.
      tells_next base (chain (field spell.units (IsWithin 1 32)) (some_units spell own)) _ o.1
      (λ (n : List UnitDesc × List ℕ). form.buses n.1 >>= λ b. Ok (whole_hardware p.0 u.0 i.0 o.0 n.0 b.0, b.1))
      (units_at form o.1) (units_told o.1 d4) (λ n e5 d5.
      tells_next base (field spell.buses (IsWithin 1 32)) _ n.1
      (λ (b : ℕ × List ℕ). Ok (whole_hardware p.0 u.0 i.0 o.0 n.0 b.0, b.1)) (form.buses n.1) (told.buses n.1 d5)
      (λ b e6 d6. tells_given base (whole_hardware p.0 u.0 i.0 o.0 n.0 b.0) b.1 d6))))))

  module _ (word : Image → Layout Word) (word_at : Image → List ℕ → Reading Word)
      (each : (hardware : Image) → IsHardware hardware → Is base (word hardware) (word_at hardware)) where
    pub image_told : Is base (image spell own word) (image_at form word_at)
    unfolding image image_at
    image_told left fits =
        tells_next base (hardware spell own) _ left
        (λ (h : Image × List ℕ).
        many_at (λ _. word_at h.0) [] (h.0.period * h.0.unroll) h.1 >>= λ w. Ok (record h.0 { words = w.0 }, w.1))
        (hardware_at form left) (hardware_told left fits) (λ h e d.
        tells_next base (many (λ _. word h.0) [] (h.0.period * h.0.unroll)) _ h.1
        (λ (w : List Word × List ℕ). Ok (record h.0 { words = w.0 }, w.1))
        (many_at (λ _. word_at h.0) [] (h.0.period * h.0.unroll) h.1)
        (tells_many base (λ _. word h.0) (λ _. word_at h.0)
        (λ _. each h.0 ((hardware_reader is).took left fits h e).allowed) [] (h.0.period * h.0.unroll) h.1 d)
        (λ w e2 d2. tells_given base (record h.0 { words = w.0 }) w.1 d2))

  abbrev whole_issue : ℕ → Op → Format → ℤ → List ℕ → Issue
  whole_issue number op fmt arg regs = record { unit = number; op = op; fmt = fmt; arg = arg; regs = regs }

  pub issue_on_told : (image : Image) (few : HasFewWords image) (number : ℕ) (unit : UnitDesc)
      → HaveRegisters unit.files
      → length unit.files ≡ ports unit.kind
      → Is base (issue_on spell own image number unit) (issue_on_at form image number unit)
  unfolding issue_on issue_on_at
  issue_on_told image few number unit have counted left fits =
      tells_next base (field (own.operation unit.kind) (λ op. kind_of op ≡ unit.kind)) _ left
      (λ (o : Op × List ℕ).
      form.format o.0 o.1 >>= λ f. form.argument o.0 (length image.inputs) image.outs f.1 >>= λ a.
      form.named unit.files (reads o.0) a.1 >>= λ r. Ok (whole_issue number o.0 f.0 a.0 r.0, r.1))
      (form.operation unit.kind left) (told.operation unit.kind left fits) (λ o e d.
      tells_next base (own.format o.0) _ o.1
      (λ (f : Format × List ℕ).
      form.argument o.0 (length image.inputs) image.outs f.1 >>= λ a. form.named unit.files (reads o.0) a.1 >>= λ r.
      Ok (whole_issue number o.0 f.0 a.0 r.0, r.1))
      (form.format o.0 o.1) (told.format o.0 o.1 d) (λ f e2 d2.
      tells_next base (field (spell.argument o.0) (IsArgument o.0 (length image.inputs) image.outs)) _ f.1
      (λ (a : ℤ × List ℕ).
      form.named unit.files (reads o.0) a.1 >>= λ r. Ok (whole_issue number o.0 f.0 a.0 r.0, r.1))
      (form.argument o.0 (length image.inputs) image.outs f.1)
      (told.argument o.0 (length image.inputs) image.outs few.inputs few.outs f.1 d2) (λ a e3 d3.
      tells_next base (own.named unit.files (reads o.0)) _ a.1
      (λ (r : List ℕ × List ℕ). Ok (whole_issue number o.0 f.0 a.0 r.0, r.1)) (form.named unit.files (reads o.0) a.1)
      (told.named o.0 unit.files have
      (enough_files o.0 unit counted
      (field_allowed base (own.operation unit.kind) (λ op. kind_of op ≡ unit.kind) left (form.operation unit.kind left)
      o (told.operation unit.kind left fits) e)) a.1 d3)
      (λ r e4 d4. tells_given base (whole_issue number o.0 f.0 a.0 r.0) r.1 d4))))
