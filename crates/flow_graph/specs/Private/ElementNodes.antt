-- The numbers of the nodes of elements, as a table.
use Rattle.std.specs.Prelude.{◌≡◌, ℕ, ◌<◌, List, length, slice_index_or}
use Rattle.signal_graph.specs.Flat.{Program}
use Rattle.signal_graph.specs.Keeps.{IsElementNode}

pub record AreElementNumbers (p : Program) (numbers : List ℕ) : Type 0 where
  pub size : length numbers ≡ length p.elems
  pub at : (e : ℕ) → e < length p.elems → IsElementNode p e (slice_index_or numbers e 0)
