-- How a write through a `&mut` into a list comes back to the list.
use Rattle.std.specs.Prelude.{ℕ, List, slice_set, take, drop, length, ◌++◌}
use Rattle.std.specs.Borrow.{Lends, Fml, RattleType, MutBor, Array}
use Rattle.lists.specs.contracts.List.{the_row}

module _ (T : RattleType) (list : MutBor (List T.Denot)) where
  -- the elements end as the slice shows them last
  abbrev pub lends_slice : MutBor (List T.Denot) → Fml
  lends_slice slice =
      Lends (the_row T) (Array T 0) list slice (λ w. take (length list.now) (w ++ drop (length w) list.now))

  -- the element at the index ends as the reference shows it last
  abbrev pub lends_item : ℕ → MutBor T.Denot → Fml
  lends_item index item = Lends (the_row T) T list item (slice_set list.now index)
