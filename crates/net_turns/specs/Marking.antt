-- What holds of the points of a net after any list of turns: each queue has from 0 rows to as many as it holds.
use Rattle.std.specs.Prelude.{◌≡◌, ℕ, ◌+◌, ◌<◌, ◌≤◌, List, length, map, Contains}
use Rattle.net_core.specs.declared.types.Wire.TheVariants.{From}
use Rattle.net_turns.specs.Turns.{NetShape, Point, start, point_of, feed_of, period_of}

-- a net: each wire from a processor of a smaller number, queues of at least one place
pub record IsShape (shape : NetShape) : Type 0 where
  pub periods : length shape.periods ≡ length shape.feeds
  pub some : (p : ℕ) → p < length shape.feeds → 0 < period_of shape p
  pub capacity : 0 < shape.capacity
  pub wires : (p q j : ℕ) → p < length shape.feeds → Contains (feed_of shape p) (From q j) → q < p

-- where processor p may be: it has taken a row for each sample that it has run, and for one under way
pub record IsPoint (shape : NetShape) (p : ℕ) (point : Point) : Type 0 where
  pub ran : point.ran ≤ shape.samples
  pub cycle : point.cycle < period_of shape p
  pub between : point.cycle ≡ 0 → point.taken ≡ point.ran
  pub under_way : 0 < point.cycle → point.taken ≡ point.ran + 1
  pub one_more : 0 < point.cycle → point.ran < shape.samples

-- a queue between two processors: as many rows as its places at most, and a place is free for a sample under way
pub record IsQueue (shape : NetShape) (from to : Point) : Type 0 where
  pub rows : to.taken ≤ from.ran
  pub places : from.ran ≤ to.taken + shape.capacity
  pub kept : 0 < from.cycle → from.ran < to.taken + shape.capacity

pub record IsMarking (shape : NetShape) (points : List Point) : Type 0 where
  pub count : length points ≡ length shape.feeds
  pub each : (p : ℕ) → p < length shape.feeds → IsPoint shape p (point_of points p)
  pub queues : (p q j : ℕ)
      → p < length shape.feeds
      → Contains (feed_of shape p) (From q j)
      → IsQueue shape (point_of points q) (point_of points p)

-- before any turn
abbrev pub starts : NetShape → List Point
starts shape = map (λ feed. start) shape.feeds
