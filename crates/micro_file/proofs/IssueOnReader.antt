-- The reader of an issue on a unit.
use Rattle.std.proofs.Common.{◌≡◌, ℕ, ◌≤◌, List, ◌++◌, length, Ok, ℤ, refl, sym, ap, subst, ◌∙◌, append_assoc, arith}
use Rattle.fix_word.specs.declared.operation.Op.{Op}
use Rattle.fix_word.specs.declared.types.Format.{Format}
use Rattle.operations.specs.declared.units.Kind.{Kind}
use Rattle.operations.specs.Units.{ports}
use Rattle.operations.proofs.Ports.{enough_ports}
use Rattle.micro_image.specs.declared.image.Image.{Image}
use Rattle.micro_image.specs.declared.image.Issue.{Issue}
use Rattle.micro_image.specs.declared.image.UnitDesc.{UnitDesc}
use Rattle.micro_image.specs.Form.{Form, spelled_operation}
use Rattle.micro_image.specs.Operations.{kind_of, reads}
use Rattle.micro_image.specs.Valid.{IsIssueOn}
use Rattle.micro_file.specs.Private.Fields.{Reading}
use Rattle.micro_file.specs.Private.FormAt.{FormAt}
use Rattle.micro_file.specs.Private.Hardware.{issue_on_at}
use Rattle.micro_bits.proofs.Bits.{IsDigits}
use Rattle.micro_file.proofs.FormReader.{HaveRegisters, ReadsForm}
use Rattle.micro_file.proofs.Readers.{◌⨟◌, Took, IsReader, ok_is}
use Rattle.micro_file.proofs.Steps.{bound4, joined4}

-- few enough input and output words that their numbers fit an argument
pub record HasFewWords (image : Image) : Type 0 where
  pub inputs : length image.inputs ≤ 16
  pub outs : image.outs ≤ 16

-- an issue with the number, allowed on the unit
pub record IsOn (image : Image) (number : ℕ) (unit : UnitDesc) (issue : Issue) : Type 0 where
  pub unit_number : issue.unit ≡ number
  pub on : IsIssueOn (length image.inputs) image.outs issue unit

-- a unit has a file for each port that an operation of its kind reads
pub enough_files : (op : Op) (unit : UnitDesc)
    → length unit.files ≡ ports unit.kind
    → kind_of op ≡ unit.kind
    → reads op ≤ length unit.files
enough_files op unit counted does =
    let enough : reads op ≤ ports unit.kind = subst (λ (k : Kind). reads op ≤ ports k) does (enough_ports op) in
    omega arith

module _ {base : ℕ} {spell : Form} {form : FormAt} (is : ReadsForm base spell form) where
  module _ (image : Image) (few : HasFewWords image) (number : ℕ) (unit : UnitDesc) (have : HaveRegisters unit.files)
      (counted : length unit.files ≡ ports unit.kind) where
    abbrev format_behind : Op × List ℕ → Reading Format
    format_behind o = form.format o.0 o.1

    abbrev argument_behind : Op × List ℕ → Format × List ℕ → Reading ℤ
    argument_behind o f = form.argument o.0 (length image.inputs) image.outs f.1

    abbrev registers_behind : Op × List ℕ → Format × List ℕ → ℤ × List ℕ → Reading (List ℕ)
    registers_behind o f a = form.named unit.files (reads o.0) a.1

    abbrev whole_issue : Op × List ℕ → Format × List ℕ → ℤ × List ℕ → List ℕ × List ℕ → Reading Issue
    whole_issue o f a r = Ok (record { unit = number; op = o.0; fmt = f.0; arg = a.0; regs = r.0 }, r.1)

    issue_on_took : (left : List ℕ)
        → IsDigits base left
        → (x : Issue × List ℕ)
        → issue_on_at form image number unit left ≡ Ok x
        → Took base (IsOn image number unit) (spelled_operation spell) left x
    unfolding issue_on_at spelled_operation
    issue_on_took left fits x e =
        let s =
        bound4 (form.operation unit.kind left) format_behind argument_behind registers_behind whole_issue x e in
        let o = (is.operation unit.kind).took left fits s.0 s.4 in
        let f = (is.format s.0.0).took s.0.1 o.text.rest_fits s.1 s.5 in
        let a =
        (is.argument s.0.0 (length image.inputs) image.outs few.inputs few.outs).took s.1.1 f.text.rest_fits s.2 s.6 in
        let r =
        (is.named s.0.0 unit.files have (enough_files s.0.0 unit counted o.allowed)).took s.2.1 a.text.rest_fits s.3
        s.7 in
        let issue : Issue = record { unit = number; op = s.0.0; fmt = s.1.0; arg = s.2.0; regs = s.3.0 } in
        subst (λ (p : Issue × List ℕ). Took base (IsOn image number unit) (spelled_operation spell) left p)
        (ok_is (issue, s.3.1) x s.8)
        (record {
          allowed = record {
            unit_number = refl;
            on = record { does = o.allowed; fmt = f.allowed; arg = a.allowed; regs = r.allowed };
          };
          text = o.text ⨟ f.text ⨟ a.text ⨟ r.text;
        })

    issue_on_again : (issue : Issue) (rest : List ℕ)
        → IsOn image number unit issue
        → issue_on_at form image number unit (spelled_operation spell issue ++ rest) ≡ Ok (issue, rest)
    unfolding issue_on_at spelled_operation
    issue_on_again issue rest ok =
        let O = spell.operation issue.op in
        let F = spell.format issue.op issue.fmt in
        let A = spell.argument issue.op issue.arg in
        let R = spell.named issue.op issue.regs in
        let texts : (O ++ F ++ A ++ R) ++ rest ≡ O ++ (F ++ (A ++ (R ++ rest))) = simp append_assoc in
        ap (issue_on_at form image number unit) texts
        ∙ joined4 (form.operation unit.kind (O ++ (F ++ (A ++ (R ++ rest))))) format_behind argument_behind
        registers_behind whole_issue
        (issue.op, F ++ (A ++ (R ++ rest))) (issue.fmt, A ++ (R ++ rest)) (issue.arg, R ++ rest) (issue.regs, rest)
        ((is.operation unit.kind).again issue.op _ ok.on.does)
        ((is.format issue.op).again issue.fmt _ ok.on.fmt)
        ((is.argument issue.op (length image.inputs) image.outs few.inputs few.outs).again issue.arg _ ok.on.arg)
        ((is.named issue.op unit.files have (enough_files issue.op unit counted ok.on.does)).again issue.regs _
        ok.on.regs)
        ∙ ap (λ (n : ℕ). Ok (record issue { unit = n }, rest)) (sym ok.unit_number)

  pub issue_on_reader : (image : Image) (few : HasFewWords image) (number : ℕ) (unit : UnitDesc)
      → HaveRegisters unit.files
      → length unit.files ≡ ports unit.kind
      → IsReader base (IsOn image number unit) (spelled_operation spell) (issue_on_at form image number unit)
  issue_on_reader image few number unit have counted = record {
    took = issue_on_took image few number unit have counted;
    again = issue_on_again image few number unit have counted;
  }
