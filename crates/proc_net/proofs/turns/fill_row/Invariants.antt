-- The words so far are those that the wires bring.
use Rattle.std.proofs.Common.{◌≡◌, ◌<◌, ℕ, length, get_or, map, pos}
use Rattle.proc_net.specs.Private.Reading.{word_by}
use Rattle.proc_net.proofs.turns.fill_row.Given as goal

abbrev pub invariant-loop-place : goal.invariant-loop-place
invariant-loop-place l = record {
  count : length l.row ≡ length l.feed;
  words : (k : ℕ)
      → k < l.place
      → get_or l.row k (pos 0) ≡ get_or (map (word_by l.processors l.stream l.sample) l.feed) k (pos 0);
}
