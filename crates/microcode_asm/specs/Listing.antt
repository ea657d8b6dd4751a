-- The listing of an image: a head line, and then for each microword that is not empty a line with its number and a line
-- for each of its issues, enables and takes. Units, buses and registers stand there by number, and numbers in decimal.
use Rattle.std.specs.Prelude.{ℕ, ◌==◌, ◌&&◌, Bool, if◌then◌else◌, List, [], ◌∷◌, ◌++◌, length, codes, decimal}
use Rattle.std.specs.List.{flat_map, range_with_len}
use Rattle.micro_image.specs.Fields.{nth, no_word}
use Rattle.micro_image.specs.declared.image.Enable.{Enable}
use Rattle.micro_image.specs.declared.image.Image.{Image}
use Rattle.micro_image.specs.declared.image.Issue.{Issue}
use Rattle.micro_image.specs.declared.image.Take.{Take}
use Rattle.micro_image.specs.declared.image.Word.{Word}
use Rattle.operations.specs.Names.{operation_name}
use Rattle.microcode_asm.specs.OperationText.{line_feed, blank, point, argument, format_part}

abbrev pub register : ℕ → List ℕ
register reg = blank ∷ decimal reg

-- the register that is read at each port of the unit; nothing of a unit without ports
abbrev pub registers : List ℕ → List ℕ
registers regs = if length regs == 0 then [] else codes " regs" ++ flat_map register regs

-- an operation that a unit begins
unfoldable pub issue_line : Issue → List ℕ
issue_line issue =
    codes "issue " ++ decimal issue.unit ++ blank ∷ operation_name issue.op ++ argument issue.op issue.arg
    ++ format_part issue.op issue.fmt ++ registers issue.regs ++ line_feed ∷ []

-- a bus that a unit drives
unfoldable pub enable_line : Enable → List ℕ
enable_line enable = codes "drive " ++ decimal enable.unit ++ blank ∷ decimal enable.bus ++ line_feed ∷ []

-- a register that takes what a bus carries
unfoldable pub take_line : Take → List ℕ
take_line take =
    codes "take " ++ decimal take.port.unit ++ point ∷ decimal take.port.port
    ++ codes " bus " ++ decimal take.bus ++ codes " reg " ++ decimal take.reg ++ line_feed ∷ []

-- no issue, no enable, no take
abbrev pub is_empty : Word → Bool
is_empty word = length word.issues == 0 && length word.enables == 0 && length word.takes == 0

-- the line with the microword's number, and those of its issues, enables and takes
unfoldable pub word_lines : (number : ℕ) → Word → List ℕ
word_lines number word =
    if is_empty word then []
    else codes "word " ++ decimal number ++ line_feed ∷ flat_map issue_line word.issues
    ++ flat_map enable_line word.enables ++ flat_map take_line word.takes

module _ (image : Image) where
  unfoldable pub head_line : List ℕ
  head_line =
      codes "period " ++ decimal image.period ++ codes " unroll " ++ decimal image.unroll
      ++ codes " inputs " ++ decimal (length image.inputs) ++ codes " outputs " ++ decimal image.outs
      ++ codes " units " ++ decimal (length image.units) ++ codes " buses " ++ decimal image.buses ++ line_feed ∷ []

  -- the lines of the microword of this number
  abbrev pub numbered_lines : (number : ℕ) → List ℕ
  numbered_lines number = word_lines number (nth image.words number no_word)

  -- the head, and the lines of the microwords by number
  unfoldable pub listing_text : List ℕ
  listing_text = head_line ++ flat_map numbered_lines (range_with_len 0 (length image.words))
