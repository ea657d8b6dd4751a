-- Rules that flat programs and graphs share: types, formats, initial values.
use Rattle.std.specs.Prelude.{ℕ, ◌==◌, List, map, All, find, Option, Some, None, ℤ, pos, ◌≤ℤ◌}
use Rattle.std.specs.List.Sorted.{IsStrictlyIncreasing}
use Rattle.fix_word.specs.Words.{IsWord, IsShape}
use Rattle.fix_word.specs.declared.types.SigType.{SigType}
use Rattle.fix_word.specs.declared.types.SigType.TheVariants as sig
pub use Rattle.operations.specs.Ranges.{IsWithin, IsBelow}
pub use Rattle.operations.specs.Operations.{plain}

-- the most that a delay may be, in samples
abbrev pub max_delay : ℕ
max_delay = 1023

-- the shape of a fixed-point type is allowed
abbrev pub IsType : SigType → Type 0
IsType (sig.Fix t) = IsShape t.shape
IsType sig.Bool = Unit {0}

-- the bits of a type's words
abbrev pub width_of : SigType → ℕ
width_of (sig.Fix t) = t.shape.w
width_of sig.Bool = 2

-- the word is in the type's range
abbrev pub IsInType : SigType → ℤ → Type 0
IsInType (sig.Fix t) word = IsWord t.shape.w word
IsInType sig.Bool word = (pos 0 ≤ℤ word) × (word ≤ℤ pos 1)

-- initial values, each with the k of its sample -k
pub record AreInits (IsAllowed : ℤ → Type 0) (inits : List (ℕ × ℤ)) : Type 0 where
  pub samples : All (λ (i : ℕ × ℤ). IsWithin 1 max_delay i.0) inits
  pub rise : IsStrictlyIncreasing (map (λ (i : ℕ × ℤ). i.0) inits)
  pub words : All (λ (i : ℕ × ℤ). IsAllowed i.1) inits

abbrev pub word_or_zero : Option (ℕ × ℤ) → ℤ
word_or_zero None = pos 0
word_or_zero (Some i) = i.1

-- the word at sample -k: the initial value there, or 0
abbrev pub word_before : List (ℕ × ℤ) → ℕ → ℤ
word_before inits k = word_or_zero (find (λ (i : ℕ × ℤ). i.0 == k) inits)
