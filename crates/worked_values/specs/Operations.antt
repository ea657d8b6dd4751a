-- What each operation of the machine makes of two or three words.
use Rattle.std.specs.Prelude.{◌≡◌, ℤ, pos, negsuc}
use Rattle.fix_word.specs.Values.{apply_of}
use Rattle.fix_word.specs.declared.operation.Op.{Op}
use Rattle.fix_word.specs.declared.operation.Op.TheVariants as op
use Rattle.fix_word.specs.declared.types.Format.{Format}
use Rattle.fix_word.specs.declared.types.Mode.TheVariants.{Round}
use Rattle.operations.specs.Operations.{plain}

-- half of the exact result, to the nearest, in 8 bits
abbrev pub halved : Format
halved = record { shift = pos 1; mode = Round; width = 8 }

-- of 5 and -3: 1 is half of 2, 4 of 8, -2 the nearest to -2.5, 3 to 2.5, -7 to -7.5
abbrev pub SumsComeToWords : Type 0
SumsComeToWords =
    (apply_of op.Add halved (pos 5) (negsuc 2) (pos 0) ≡ pos 1)
    × (apply_of op.Sub halved (pos 5) (negsuc 2) (pos 0) ≡ pos 4)
    × (apply_of op.Neg halved (pos 5) (negsuc 2) (pos 0) ≡ negsuc 1)
    × (apply_of op.Pass halved (pos 5) (negsuc 2) (pos 0) ≡ pos 3)
    × (apply_of op.Mul halved (pos 5) (negsuc 2) (pos 0) ≡ negsuc 6)

-- the operation on -3 and 5, on 5 and 5, and on 5 and -3
abbrev pub IsTest : Op → (less same greater : ℤ) → Type 0
IsTest o less same greater =
    (apply_of o (plain 0) (negsuc 2) (pos 5) (pos 0) ≡ less) × (apply_of o (plain 0) (pos 5) (pos 5) (pos 0) ≡ same)
    × (apply_of o (plain 0) (pos 5) (negsuc 2) (pos 0) ≡ greater)

abbrev pub ComparisonsComeToTruths : Type 0
ComparisonsComeToTruths =
    IsTest op.Lt (pos 1) (pos 0) (pos 0) × IsTest op.Le (pos 1) (pos 1) (pos 0) × IsTest op.Eq (pos 0) (pos 1) (pos 0)
    × IsTest op.Ne (pos 1) (pos 0) (pos 1)

-- any number but 0 is true
abbrev pub TruthsComeToTruths : Type 0
TruthsComeToTruths =
    IsTest op.And (pos 1) (pos 1) (pos 1) × IsTest op.Or (pos 1) (pos 1) (pos 1)
    × (apply_of op.And (plain 0) (negsuc 0) (pos 0) (pos 0) ≡ pos 0)
    × (apply_of op.Or (plain 0) (pos 0) (negsuc 0) (pos 0) ≡ pos 1)
    × (apply_of op.Or (plain 0) (pos 0) (pos 0) (pos 1) ≡ pos 0)
    × (apply_of op.Not (plain 0) (pos 0) (pos 0) (pos 0) ≡ pos 1)
    × (apply_of op.Not (plain 0) (pos 5) (pos 0) (pos 0) ≡ pos 0)
    × (apply_of op.Sel (plain 0) (pos 1) (pos 6) (pos 7) ≡ pos 6)
    × (apply_of op.Sel (plain 0) (pos 0) (pos 6) (pos 7) ≡ pos 7)
