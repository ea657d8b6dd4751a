-- Precedence: how tightly a text holds together, the loosest first.
use Rattle.std.specs.Prelude.{ℕ}

-- a chain of `|`
abbrev pub or : ℕ
or = 0

-- a chain of `&`
abbrev pub and : ℕ
and = 1

-- a comparison, which does not chain
abbrev pub comparison : ℕ
comparison = 2

-- a chain of `+` and `-`
abbrev pub sum : ℕ
sum = 3

-- a chain of `*`
abbrev pub product : ℕ
product = 4

-- a chain of `<<` and `>>`
abbrev pub shift : ℕ
shift = 5

-- a `-` or `!` with its operand
abbrev pub unary : ℕ
unary = 6

-- a literal, a name, a cast, a conditional, or anything in parentheses
abbrev pub primary : ℕ
primary = 7
