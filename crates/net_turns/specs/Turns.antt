-- Turns of processors that are joined by bounded queues. Between a processor and each that reads it stands one queue,
-- which has the rows that the one has put and the other has not taken.
use Rattle.std.specs.Prelude.{ℕ, ◌+◌, ◌-◌, ◌==◌, nat_le, List, [], ◌∷◌, length, Bool, false, not, ◌&&◌, ◌||◌}
use Rattle.std.specs.Prelude.{if◌then◌else◌, slice_index_or, slice_set}
use Rattle.std.specs.List.{list_any, list_all, range_with_len}
use Rattle.net_core.specs.declared.types.Wire.{Wire}
use Rattle.net_core.specs.declared.types.Wire.TheVariants.{Input, From}

-- what turns depend on
pub record NetShape : Type 0 where
  -- the wires to each processor
  pub feeds : List (List Wire)
  -- how many cycles a sample of each has
  pub periods : List ℕ
  -- how many rows a queue holds
  pub capacity : ℕ
  -- how many rows the net is to run
  pub samples : ℕ

-- where a processor is: how many rows it has taken, how many samples it has run, and how many cycles of the next
pub record Point : Type 0 where
  pub taken : ℕ
  pub ran : ℕ
  pub cycle : ℕ

abbrev pub start : Point
start = record { taken = 0; ran = 0; cycle = 0 }

-- where processor p is
abbrev pub point_of : List Point → ℕ → Point
point_of points p = slice_index_or points p start

-- how many rows the queue from q to p has
abbrev pub queued : List Point → (q p : ℕ) → ℕ
queued points q p = (point_of points q).ran - (point_of points p).taken

-- the numbers of the processors, in their order
abbrev pub processors : NetShape → List ℕ
processors shape = range_with_len 0 (length shape.feeds)

abbrev pub feed_of : NetShape → ℕ → List Wire
feed_of shape p = slice_index_or shape.feeds p []

abbrev pub period_of : NetShape → ℕ → ℕ
period_of shape p = slice_index_or shape.periods p 1

-- whether the wire leads from processor q
abbrev pub is_from : ℕ → Wire → Bool
is_from q (Input j) = false
is_from q (From r j) = r == q

-- whether p reads q
abbrev pub reads : NetShape → (p q : ℕ) → Bool
reads shape p q = list_any (is_from q) (feed_of shape p)

-- the net has no further row for p
abbrev pub lacks_input : NetShape → List Point → ℕ → Bool
lacks_input shape points p = nat_le shape.samples (point_of points p).taken

-- the wire to p is from a queue without a row
abbrev pub is_dry : List Point → ℕ → Wire → Bool
is_dry points p (Input j) = false
is_dry points p (From q j) = queued points q p == 0

-- a queue that p reads has no row
abbrev pub lacks_row : NetShape → List Point → ℕ → Bool
lacks_row shape points p = list_any (is_dry points p) (feed_of shape p)

-- the queue from p to r has no free place
abbrev pub is_full : NetShape → List Point → (p r : ℕ) → Bool
is_full shape points p r = nat_le shape.capacity (queued points p r)

-- a queue that p fills has no free place
abbrev pub lacks_place : NetShape → List Point → ℕ → Bool
lacks_place shape points p = list_any (λ r. reads shape r p && is_full shape points p r) (processors shape)

-- at the first cycle of a sample p needs the net's next row, a row in each queue that it reads, and a free place in
-- each that it fills
unfoldable pub lacks : NetShape → List Point → ℕ → Bool
lacks shape points p =
    (point_of points p).cycle == 0
    && (lacks_input shape points p || (lacks_row shape points p || lacks_place shape points p))

-- where a processor is after one more cycle, by its period: at the first cycle of a sample it takes its rows
abbrev pub next : (period : ℕ) → Point → Point
next period point = record {
  taken = if point.cycle == 0 then point.taken + 1 else point.taken;
  ran = if point.cycle + 1 == period then point.ran + 1 else point.ran;
  cycle = if point.cycle + 1 == period then 0 else point.cycle + 1;
}

-- a turn of p: one cycle, unless it lacks something
unfoldable pub after_turn : NetShape → List Point → ℕ → List Point
after_turn shape points p =
    if lacks shape points p then points else slice_set points p (next (period_of shape p) (point_of points p))

-- after turns of these processors
abbrev pub after_turns : NetShape → List Point → List ℕ → List Point
after_turns shape points [] = points
after_turns shape points (p ∷ ps) = after_turns shape (after_turn shape points p) ps

-- whether one of these turns runs a cycle
abbrev pub some_runs : NetShape → List Point → List ℕ → Bool
some_runs shape points [] = false
some_runs shape points (p ∷ ps) = not (lacks shape points p) || some_runs shape (after_turn shape points p) ps

-- a round: one turn of each processor in order
abbrev pub after_round : NetShape → List Point → List Point
after_round shape points = after_turns shape points (processors shape)

-- whether each processor has run all samples
abbrev pub is_finished : NetShape → List Point → Bool
is_finished shape points = list_all (λ point. point.ran == shape.samples) points
