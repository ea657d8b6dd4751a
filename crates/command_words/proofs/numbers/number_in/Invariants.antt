use Rattle.std.proofs.Common.{◌≡◌, ◌≤◌, take}
use Rattle.std.specs.List.{list_all}
use Rattle.std.specs.Prelude.{true}
use Rattle.silage_lex.specs.Bytes.{is_digit}
use Rattle.silage_lex.specs.Texts.{decimal}
use Rattle.command_words.proofs.numbers.number_in.Given as goal

abbrev pub invariant-loop-byte : goal.invariant-loop-byte
invariant-loop-byte l = record {
  value : l.number ≡ decimal (take l.byte-index l.text);
  digits : list_all is_digit (take l.byte-index l.text) ≡ true;
  within : l.number ≤ l.fn.most;
}
