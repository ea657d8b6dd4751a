-- Where a name is used.
use Rattle.std.specs.Prelude.{ℕ, List, [], ◌∷◌}
use Rattle.silage_syntax.specs.Tree.{Func, Program}

-- a program, a function of it, and the indices of the loops around a place in it, innermost first
pub record Context : Type 0 where
  pub program : Program
  pub func : Func
  pub indices : List (List ℕ)

abbrev pub outermost : Program → Func → Context
outermost p f = record { program = p; func = f; indices = [] }

-- inside one loop more, which has this index
abbrev pub inside : (index : List ℕ) → Context → Context
inside index c = record c { indices = index ∷ c.indices }
