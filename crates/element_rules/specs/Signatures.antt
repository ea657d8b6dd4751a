-- What the grammar asks of a function.
use Rattle.std.specs.Prelude.{◌≡◌, ℕ, ◌≤◌, length, slice_get, Some}
use Rattle.silage_syntax.specs.Tree.{Func, function, Program}

-- each function has a result
abbrev pub HaveResults : Program → Type 0
HaveResults p = (k : ℕ) (f : Func) → slice_get p.tops k ≡ Some (function f) → 1 ≤ length f.results
