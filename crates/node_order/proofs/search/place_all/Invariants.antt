use Rattle.std.proofs.Common.{◌≡◌, ℕ, ◌<◌, []}
use Rattle.node_order.specs.declared.search.Mark.TheVariants.{Placed}
use Rattle.node_order.specs.Private.Search.{IsSearch, mark_of}
use Rattle.node_order.proofs.search.place_all.Given as goal

abbrev pub invariant-loop-root : goal.invariant-loop-root
invariant-loop-root l = record {
  search : IsSearch l.nodes [] l.search;
  empty : l.stack.items ≡ [];
  all : (v : ℕ) → v < l.root → mark_of l.search v ≡ Placed;
}
