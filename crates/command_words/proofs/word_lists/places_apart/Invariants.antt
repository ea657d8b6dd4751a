use Rattle.std.proofs.Common.{◌≡◌, ◌≤◌, ◌++◌, length, drop, map}
use Rattle.silage_lex.specs.Texts.{decimal}
use Rattle.command_words.specs.WordLists.{parts_of}
use Rattle.command_words.proofs.Places.{rise_from}
use Rattle.command_words.proofs.word_lists.places_apart.Given as goal

abbrev pub invariant-loop-part : goal.invariant-loop-part
invariant-loop-part l = record {
  read : l.places.items ++ map decimal (drop (length l.yielded) (parts_of l.text)) ≡ map decimal (parts_of l.text);
  rest : rise_from l.least (drop (length l.yielded) (parts_of l.text)) ≡ rise_from 0 (parts_of l.text);
  few : length l.places.items ≤ l.least;
  room : l.least ≤ 16;
}
