-- What each operation from Add to Sel gives.
use Rattle.std.specs.Prelude.{◌≡◌, ◌≢◌, ◌⊎◌, ℤ, pos, ◌+ℤ◌, ◌-ℤ◌, ◌*ℤ◌, neg_ℤ, ◌≤ℤ◌, ◌<ℤ◌}
use Rattle.fix_word.specs.Words.{IsForm, IsFormat}
use Rattle.fix_word.specs.declared.types.Format.{Format}
use Rattle.fix_word.specs.declared.operation.Op.{Op}
use Rattle.fix_word.specs.declared.operation.Op.TheVariants.{Add, Sub, Neg, Pass, Lt, Le, Eq, Ne, And, Or, Not, Mul}
use Rattle.fix_word.specs.declared.operation.Op.TheVariants.{Sel}

-- the operation is one from Add to Sel, and where it goes through the format, the format is allowed
abbrev pub IsReady : Op → Format → Type 0
IsReady Add fmt = IsFormat fmt
IsReady Sub fmt = IsFormat fmt
IsReady Neg fmt = IsFormat fmt
IsReady Pass fmt = IsFormat fmt
IsReady Mul fmt = IsFormat fmt
IsReady Lt fmt = Unit {0}
IsReady Le fmt = Unit {0}
IsReady Eq fmt = Unit {0}
IsReady Ne fmt = Unit {0}
IsReady And fmt = Unit {0}
IsReady Or fmt = Unit {0}
IsReady Not fmt = Unit {0}
IsReady Sel fmt = Unit {0}
IsReady op fmt = ⊥

-- m is 1 where P holds, and 0 where it does not
abbrev pub IsTruth : Type 0 → ℤ → Type 0
IsTruth P m = (P × (m ≡ pos 1)) ⊎ ((P → ⊥) × (m ≡ pos 0))

-- any number but 0 stands for true
abbrev pub IsSet : ℤ → Type 0
IsSet z = z ≢ pos 0

-- m is b where a is true, and c where it is false
abbrev pub IsChoice : ℤ → ℤ → ℤ → ℤ → Type 0
IsChoice a b c m = (IsSet a × (m ≡ b)) ⊎ ((a ≡ pos 0) × (m ≡ c))

-- m is the operation's result at the operands a, b and c
abbrev pub IsApply : Op → Format → ℤ → ℤ → ℤ → ℤ → Type 0
IsApply Add fmt a b c m = IsForm (a +ℤ b) fmt m
IsApply Sub fmt a b c m = IsForm (a -ℤ b) fmt m
IsApply Neg fmt a b c m = IsForm (neg_ℤ a) fmt m
IsApply Pass fmt a b c m = IsForm a fmt m
IsApply Mul fmt a b c m = IsForm (a *ℤ b) fmt m
IsApply Lt fmt a b c m = IsTruth (a <ℤ b) m
IsApply Le fmt a b c m = IsTruth (a ≤ℤ b) m
IsApply Eq fmt a b c m = IsTruth (a ≡ b) m
IsApply Ne fmt a b c m = IsTruth (a ≢ b) m
IsApply And fmt a b c m = IsTruth (IsSet a × IsSet b) m
IsApply Or fmt a b c m = IsTruth (IsSet a ⊎ IsSet b) m
IsApply Not fmt a b c m = IsTruth (a ≡ pos 0) m
IsApply Sel fmt a b c m = IsChoice a b c m
IsApply op fmt a b c m = ⊥
