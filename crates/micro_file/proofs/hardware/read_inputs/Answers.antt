use Rattle.std.proofs.Common.{◌≡◌, ℕ, List, [], Result, Ok, Err, refl, ◌∙◌}
use Rattle.micro_file.specs.declared.misread.Unread.{Unread}
use Rattle.micro_file.specs.declared.misread.Unread.TheVariants as unread
use Rattle.micro_file.specs.Private.Fields.{Reading, many_at}
use Rattle.micro_file.specs.Private.Hardware.{inputs_at}
use Rattle.micro_file.specs.Private.Reads.{Reads}
use Rattle.micro_file.proofs.hardware.read_inputs.Goals as goal

-- a field that is read as another one behind it gives what that gives
reads_as :
    {A : Type 0} (field behind : List ℕ → Reading A) (left rest : List ℕ) (result : Result A Unread) (after : List ℕ)
    → field left ≡ behind rest
    → Reads behind rest result after
    → Reads field left result after
reads_as field behind left rest (Ok x) after same h = same ∙ h
reads_as field behind left rest (Err (unread.Misread misread)) after same h = same ∙ h
reads_as field behind left rest (Err unread.Memory) after same h = tt

pub returns : goal.returns
unfolding inputs_at
returns g c =
    let form = g.R.Fields.form in
    let rest = g.R.Fields.rest in
    reads_as (inputs_at form) (many_at (λ _. form.width) [] c.from.result) (rest c.args.reader.now)
    (rest c.channels.new.self) c.read_widths.result (rest c.read_widths.new.reader)
    (rw (c.in_ok-count.ensures, ← c.from.ensures) refl) c.read_widths.ensures
