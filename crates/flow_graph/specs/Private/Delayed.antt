-- Which elements are read with a delay, as a table.
use Rattle.std.specs.Prelude.{◌≡◌, ℕ, ◌<◌, ◌||◌, Bool, false, List, length, slice_index_or}
use Rattle.signal_graph.specs.Flat.{Program}
use Rattle.signal_graph.specs.GraphOf.{is_delayed}

-- the elements that pass the test are marked besides those before
pub record Marks (old : List Bool) (test : ℕ → Bool) (new : List Bool) : Type 0 where
  pub size : length new ≡ length old
  pub at : (e : ℕ) → e < length old → slice_index_or new e false ≡ (slice_index_or old e false || test e)

-- the table says which elements are read with a delay
pub record TellsDelayed (p : Program) (table : List Bool) : Type 0 where
  pub size : length table ≡ length p.elems
  pub at : (e : ℕ) → e < length p.elems → slice_index_or table e false ≡ is_delayed p e
