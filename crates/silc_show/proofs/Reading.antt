-- What a trace reads is there.
use Rattle.std.proofs.Common.{◌≡◌, ◌<◌, ◌≤◌, ◌∙◌, refl, sym, ap, subst, arith, ℕ, ◌*◌, ◌/◌, ◌^◌}
use Rattle.std.proofs.Common.{[], length, slice_get, slice_index_or, Option, Some, None}
use Rattle.std.proofs.Common.{IsSomeAnd, lit≤}
use Rattle.std.proofs.Math.Nat.{mod-lt, div-le_self}
use Rattle.std.proofs.lemmas.List.{get_or_default}
use Rattle.std.proofs.lemmas.Option.{get_or_from_slice_get, slice_get-get_or, slice_get_read, slice_get_within}
use Rattle.operations.proofs.Ports.{enough_ports}
use Rattle.fix_word.specs.Operations.{IsReady}
use Rattle.fix_word.specs.declared.types.Format.{Format}
use Rattle.fix_word.specs.declared.operation.Op.{Op}
use Rattle.fix_word.specs.declared.operation.Op.TheVariants as op
use Rattle.micro_image.specs.declared.image.Image.{Image}
use Rattle.micro_image.specs.declared.image.Issue.{Issue}
use Rattle.micro_image.specs.declared.image.UnitDesc.{UnitDesc}
use Rattle.micro_image.specs.Fields.{nth, word_at, no_unit, no_word}
use Rattle.micro_image.specs.Operations.{reads, kind_of}
use Rattle.micro_image.specs.Valid.{IsValid, IsWordOf, IsIssue, IsIssueOn, IsUnit, IsFormatFor, HasRegister, ports}
use Rattle.cycle_sim.specs.declared.microcode.Microcode.{Microcode}
use Rattle.cycle_sim.specs.Microcode.{micro_of, IsSound}
use Rattle.cycle_sim.proofs.ValidImage.{product_positive, word_valid as word_valid_in}

cycle_count : (image : Image) → IsValid image → 0 < image.unroll * image.period
cycle_count image valid = product_positive image.unroll image.period valid.unroll valid.period.0

-- an image has words
pub some_words : (image : Image) → IsValid image → 0 < length image.words
some_words image valid =
    let count : length image.words ≡ image.unroll * image.period = omega (arith, valid.word_count) in
    rw count (cycle_count image valid)

-- the word of a cycle is one of the image
pub word_valid : (image : Image) (cycle : ℕ) → IsValid image → IsWordOf image (word_at image cycle)
word_valid image cycle valid =
    let count : length image.words ≡ image.unroll * image.period = omega (arith, valid.word_count) in
    valid.words _ no_word (rw count (mod-lt cycle (cycle_count image valid)))

-- and the word that microcode obeys at a cycle is one that its image may have
pub obeyed_valid : (code : Microcode) (cycle : ℕ) → IsSound code → IsWordOf code.image ((micro_of code).word_at cycle)
obeyed_valid code cycle sound = word_valid_in code sound cycle

-- a sample has no greater number than its cycles
pub sample_below : (cycle period sample : ℕ) → cycle < 2 ^ 60 → sample ≡ cycle / period → sample < 2 ^ 60
sample_below cycle period sample young is =
    let few : cycle / period ≤ cycle = div-le_self cycle period in
    omega (arith, young, is, few)

-- the unit can do the issue
abbrev CanDo : Image → Issue → UnitDesc → Type 0
CanDo image = IsIssueOn (length image.inputs) image.outs

-- the unit is the one of the number
abbrev IsUnitAt : Image → ℕ → UnitDesc → Type 0
IsUnitAt image number unit = unit ≡ slice_index_or image.units number unit

on_of : (image : Image) (issue : Issue) (o : Option UnitDesc)
    → slice_get image.units issue.unit ≡ o
    → IsSomeAnd o (CanDo image issue)
    → (issue.unit < length image.units) × ((unit : UnitDesc) → IsUnitAt image issue.unit unit → CanDo image issue unit)
on_of image issue None e h = absurd h
on_of image issue (Some found) e h = (
  slice_get_within image.units issue.unit found e,
  λ unit is. subst (CanDo image issue) (sym (is ∙ get_or_from_slice_get image.units issue.unit found unit e)) h,
)

pub unit_below : (image : Image) (issue : Issue) → IsIssue image issue → issue.unit < length image.units
unit_below image issue h = (on_of image issue _ refl h).0

-- the unit of an issue can do it
pub unit_on : (image : Image) (issue : Issue) (unit : UnitDesc)
    → IsIssue image issue
    → IsUnitAt image issue.unit unit
    → CanDo image issue unit
unit_on image issue unit h = (on_of image issue _ refl h).1 unit

pub unit_valid : (image : Image) (number : ℕ) (unit : UnitDesc)
    → IsValid image
    → number < length image.units
    → IsUnitAt image number unit
    → IsUnit image.units unit
unit_valid image number unit valid below is = subst (IsUnit image.units) (sym is) (valid.units number unit below)

module _ (image : Image) (issue : Issue) (unit : UnitDesc) (on : CanDo image issue unit)
    (is : IsUnit image.units unit) where
  port_below : (port : ℕ) → port < reads issue.op → port < length unit.files
  port_below port lt = omega (arith, lt, enough_ports issue.op, ap ports on.does, is.file_count)

  -- an issue has a register for each port that its operation reads
  pub regs_below : (port : ℕ) → port < reads issue.op → port < length issue.regs
  regs_below port lt = omega (arith, port_below port lt, on.regs.count)

  -- and the file has it
  pub register_there : (port reg : ℕ)
      → port < reads issue.op
      → reg ≡ slice_index_or issue.regs port reg
      → HasRegister unit port reg
  register_there port reg lt at =
      let below = port_below port lt in
      let named : slice_get issue.regs port ≡ Some reg =
      slice_get_read issue.regs _ port reg refl (regs_below port lt) at in
      let same : nth issue.regs port 0 ≡ reg = get_or_from_slice_get issue.regs port reg 0 named in
      subst (λ o. IsSomeAnd o (λ file. reg < length file)) (sym (slice_get-get_or unit.files port [] below))
      (subst (λ r. r < length (nth unit.files port [])) same (on.regs.there port below))

pub format_of : (image : Image) (issue : Issue) → IsIssue image issue → IsFormatFor issue.op issue.fmt
format_of image issue h =
    let unit = nth image.units issue.unit no_unit in
    (unit_on image issue unit h (get_or_default image.units issue.unit no_unit unit (unit_below image issue h))).fmt

-- an operation that is none of these has a result in its format
pub ready : (o : Op) (fmt : Format)
    → IsFormatFor o fmt
    → (o ≡ op.Input → ⊥)
    → (o ≡ op.Const → ⊥)
    → (o ≡ op.Addr → ⊥)
    → (o ≡ op.Load → ⊥)
    → (o ≡ op.Store → ⊥)
    → (o ≡ op.Output → ⊥)
    → IsReady o fmt
ready op.Input fmt h a b c d e f = absurd (a refl)
ready op.Const fmt h a b c d e f = absurd (b refl)
ready op.Addr fmt h a b c d e f = absurd (c refl)
ready op.Load fmt h a b c d e f = absurd (d refl)
ready op.Store fmt h a b c d e f = absurd (e refl)
ready op.Output fmt h a b c d e f = absurd (f refl)
ready op.Add fmt h a b c d e f = h
ready op.Sub fmt h a b c d e f = h
ready op.Neg fmt h a b c d e f = h
ready op.Pass fmt h a b c d e f = h
ready op.Mul fmt h a b c d e f = h
ready op.Lt fmt h a b c d e f = tt
ready op.Le fmt h a b c d e f = tt
ready op.Eq fmt h a b c d e f = tt
ready op.Ne fmt h a b c d e f = tt
ready op.And fmt h a b c d e f = tt
ready op.Or fmt h a b c d e f = tt
ready op.Not fmt h a b c d e f = tt
ready op.Sel fmt h a b c d e f = tt
