use Rattle.std.proofs.Common.{◌≡◌, ◌<◌, ◌++◌, drop}
use Rattle.std.specs.Prelude.{map}
use Rattle.cyclic_life.specs.Private.Reads.{lasts_from, arc_to}
use Rattle.cyclic_life.proofs.merge.lifetimes_from.Given as goal

-- the lifetimes so far, with those of the last read and of the reads that are left, are all
abbrev pub invariant-loop-read : goal.invariant-loop-read
invariant-loop-read l =
    (l.last.w < 4096)
    × (l.arcs ++ map (arc_to l.period) (lasts_from l.last (drop l.read-index l.rest))
    ≡ map (arc_to l.period) (lasts_from l.fn.first l.rest))
