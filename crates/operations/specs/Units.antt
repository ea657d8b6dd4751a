-- The kinds of functional units.
use Rattle.std.specs.Prelude.{ℕ}
use Rattle.operations.specs.declared.units.Kind.{Kind}
use Rattle.operations.specs.declared.units.Kind.TheVariants.{Input, Output, Rom, Alu, Mul, Sel, Ram, Acu}

-- how many ports a unit of the kind has
abbrev pub ports : Kind → ℕ
ports Input = 0
ports Output = 1
ports Rom = 0
ports Alu = 2
ports Mul = 2
ports Sel = 3
ports Ram = 2
ports Acu = 0
