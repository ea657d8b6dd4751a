-- The text of an operation, with its argument and its format. Numbers are decimal.
use Rattle.std.specs.Prelude.{ℕ, Bool, true, false, if◌then◌else◌, List, [], ◌∷◌, ◌++◌, ℤ, codes, decimal}
use Rattle.std.specs.Fmt.{signed_decimal}
use Rattle.fix_word.specs.declared.operation.Op.{Op}
use Rattle.fix_word.specs.declared.operation.Op.TheVariants as op
use Rattle.fix_word.specs.declared.types.Format.{Format}
use Rattle.fix_word.specs.declared.types.Mode.{Mode}
use Rattle.fix_word.specs.declared.types.Mode.TheVariants.{Trunc, Round, Sat, RoundSat}
use Rattle.operations.specs.Operations.{is_formatted}

abbrev pub line_feed : ℕ
line_feed = 10

abbrev pub blank : ℕ
blank = 32

abbrev pub point : ℕ
point = 46

abbrev pub mode_name : Mode → List ℕ
mode_name Trunc = codes "trunc"
mode_name Round = codes "round"
mode_name Sat = codes "sat"
mode_name RoundSat = codes "round,sat"

-- whether the operation has an argument: the number of a word, a raw word, or an offset
abbrev pub has_argument : Op → Bool
has_argument op.Input = true
has_argument op.Output = true
has_argument op.Const = true
has_argument op.Addr = true
has_argument _ = false

abbrev pub argument : Op → ℤ → List ℕ
argument o value = if has_argument o then blank ∷ signed_decimal value else []

abbrev pub format : Format → List ℕ
format fmt =
    codes " fmt " ++ signed_decimal fmt.shift ++ blank ∷ mode_name fmt.mode ++ blank ∷ decimal fmt.width

-- how the result is quantised, where the operation does that
abbrev pub format_part : Op → Format → List ℕ
format_part o fmt = if is_formatted o then format fmt else []
