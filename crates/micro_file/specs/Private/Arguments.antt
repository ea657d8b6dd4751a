-- Which arguments operations take.
use Rattle.std.specs.Prelude.{ℕ, Bool, ℤ}
use Rattle.fix_word.specs.declared.operation.Op.{Op}
use Rattle.fix_word.specs.declared.operation.Op.TheVariants as op
use Rattle.micro_image.specs.Valid.{offsets}
use Rattle.micro_file.specs.Private.Fields.{is_raw_word, is_below}

-- the operation takes the argument, where there are so many input and output words
abbrev pub is_argument : Op → ℕ → ℕ → ℤ → Bool
is_argument op.Input inputs outs z = is_below inputs z
is_argument op.Output inputs outs z = is_below outs z
is_argument op.Const inputs outs z = is_raw_word z
is_argument op.Addr inputs outs z = is_below offsets z
is_argument _ inputs outs z = is_below 1 z
