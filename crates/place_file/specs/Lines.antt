-- The lines of a text, and the words of a line.
use Rattle.std.specs.Prelude.{ℕ, ◌==◌, List, [], slice_index_or}
use Rattle.std.specs.List.{slice_split}
use Rattle.microcode_asm.specs.OperationText.{line_feed, blank}

-- the parts of a text between such bytes, of which there are none in them
abbrev pub parts_of : (byte : ℕ) (text : List ℕ) → List (List ℕ)
parts_of byte text = slice_split (λ (b : ℕ). b == byte) text

-- the lines of a text; behind the last line feed there is one too, which may be empty
abbrev pub lines_of : (text : List ℕ) → List (List ℕ)
lines_of text = parts_of line_feed text

-- line i of a text, from 0 on
abbrev pub line_at : (text : List ℕ) (i : ℕ) → List ℕ
line_at text i = slice_index_or (lines_of text) i []

-- word k of a line, from 0 on, where one blank stands between two words; an empty one where the line has fewer
abbrev pub word_at : (line : List ℕ) (k : ℕ) → List ℕ
word_at line k = slice_index_or (parts_of blank line) k []

-- the words of a line as `node 3 cycle 5 unit alu`; what comes behind them is not looked at
pub record Said : Type 0 where
  pub head : List ℕ
  pub node : List ℕ
  pub cycle_label : List ℕ
  pub cycle : List ℕ
  pub unit_label : List ℕ
  pub unit : List ℕ

abbrev pub said_by : (line : List ℕ) → Said
said_by line = record {
  head = word_at line 0;
  node = word_at line 1;
  cycle_label = word_at line 2;
  cycle = word_at line 3;
  unit_label = word_at line 4;
  unit = word_at line 5;
}
