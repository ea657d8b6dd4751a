-- What the loop over a row's words has written so far.
use Rattle.std.proofs.Common.{◌≡◌, ◌≤◌, ◌*◌, take, drop}
use Rattle.std.specs.List.{flat_map}
use Rattle.sample_io.proofs.Printing.{printed_word}
use Rattle.sample_io.proofs.write.put_row.Given as goal

abbrev pub invariant-loop-word : goal.invariant-loop-word
invariant-loop-word l = record {
  room : l.end ≤ 21 * l.word-index;
  written : take l.end l.put ≡ flat_map printed_word (take l.word-index l.words);
  rest : drop l.end l.put ≡ drop l.end l.initial.put;
}
