-- The positions of calls in the source.
use Rattle.std.specs.Prelude.{◌≡◌, ℕ, List, [], ◌∷◌, ◌++◌, slice_get, Some}
use Rattle.silage_syntax.specs.Tree.{Item, equation, call, loop, initial, Items, no_item, item, Func, function, Program}

-- the positions of the calls among items, in order
abbrev mutual
  pub calls_of : Item → List ℕ
  calls_of (equation place x) = []
  calls_of (call places name args at) = at ∷ []
  calls_of (loop index lo hi items at) = calls_in items
  calls_of (initial place k value) = []

  pub calls_in : Items → List ℕ
  calls_in no_item = []
  calls_in (item x rest) = calls_of x ++ calls_in rest

-- no number is at two places
abbrev pub AreDistinct : List ℕ → Type 0
AreDistinct xs = (i j x : ℕ) → slice_get xs i ≡ Some x → slice_get xs j ≡ Some x → i ≡ j

-- each call of a function has a position of its own
abbrev pub HasOwnPositions : Program → Type 0
HasOwnPositions p = (k : ℕ) (f : Func) → slice_get p.tops k ≡ Some (function f) → AreDistinct (calls_in f.items)
