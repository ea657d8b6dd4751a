-- The image of y = x@1 through a ram of latency 2 and two cells, which begin as 50 and 60, and what the hardware does
-- with it, against values worked out by hand. Of each sample of 6 cycles: the address of its cell and the sample come
-- at cycle 0, the store is issued at 1 and written at the end of 2, the load of the sample before is issued at 2 and
-- gives its result in 3, the output is at 4.
use Rattle.std.proofs.Common.{◌≡◌, refl, ℕ, List, [], ◌∷◌, Some, None, pos, map}
use Rattle.lists.specs.Rows.{Rows}
use Rattle.fix_word.specs.declared.operation.Op.{Op}
use Rattle.fix_word.specs.declared.operation.Op.TheVariants as op
use Rattle.micro_image.specs.declared.image.Enable.{Enable}
use Rattle.micro_image.specs.declared.image.Image.{Image}
use Rattle.micro_image.specs.declared.image.Issue.{Issue}
use Rattle.operations.specs.declared.units.Kind.TheVariants as kind
use Rattle.micro_image.specs.declared.image.Take.{Take}
use Rattle.micro_image.specs.declared.image.UnitDesc.{UnitDesc}
use Rattle.micro_image.specs.declared.image.Word.{Word}
use Rattle.micro_image.specs.Fields.{microprogram_of, no_word, issue_at}
use Rattle.micro_image.specs.Log.{Cell, Content, Result, value, entries_by}
use Rattle.micro_image.specs.Run.{spread, latches, outcome, Gives, Writes}
use Rattle.micro_image.proofs.Increment.{plain_unit, unformatted, zeros}

abbrev issue_of : ℕ → Op → ℕ → List ℕ → Issue
issue_of unit o argument regs = record { unit = unit; op = o; fmt = unformatted; arg = pos argument; regs = regs }

-- a unit on a bus
abbrev pub drive : ℕ → ℕ → Enable
drive unit bus = record { unit = unit; bus = bus }

-- a take of a port from a bus into a register
abbrev pub take_into : ℕ → ℕ → ℕ → ℕ → Take
take_into unit port bus reg = record { port = record { unit = unit; port = port }; bus = bus; reg = reg }

-- unit 2: a result after two cycles, an issue in each
abbrev pub memory : UnitDesc
memory = record {
  kind = kind.Ram;
  latency = 2;
  gap = 1;
  files = zeros 2 ∷ zeros 1 ∷ [];
  cells = pos 50 ∷ pos 60 ∷ [];
  ram = 0;
}

abbrev addresses : UnitDesc
addresses = record { kind = kind.Acu; latency = 1; gap = 1; files = []; cells = []; ram = 2 }

-- a load at the address in a register
abbrev pub load : ℕ → Issue
load reg = issue_of 2 op.Load 0 (reg ∷ 0 ∷ [])

-- the image with a memory and the word of cycle 2
abbrev pub echo_with : UnitDesc → Word → Image
echo_with ram third = record {
  period = 6;
  unroll = 1;
  inputs = 8 ∷ [];
  outs = 1;
  units = plain_unit kind.Input [] ∷ addresses ∷ ram ∷ plain_unit kind.Output (zeros 1 ∷ []) ∷ [];
  buses = 2;
  words =
      record {
        issues = issue_of 0 op.Input 0 [] ∷ issue_of 1 op.Addr 0 [] ∷ [];
        enables = drive 0 0 ∷ drive 1 1 ∷ [];
        takes = take_into 2 0 1 0 ∷ take_into 2 1 0 0 ∷ [];
      }
      ∷ record {
        issues = issue_of 1 op.Addr 1 [] ∷ issue_of 2 op.Store 0 (0 ∷ 0 ∷ []) ∷ [];
        enables = drive 1 1 ∷ [];
        takes = take_into 2 0 1 1 ∷ [];
      }
      ∷ third
      ∷ record { issues = []; enables = drive 2 0 ∷ []; takes = take_into 3 0 0 0 ∷ [] }
      ∷ record { issues = issue_of 3 op.Output 0 (0 ∷ []) ∷ []; enables = []; takes = [] }
      ∷ no_word
      ∷ [];
}

abbrev echo : Image
echo = echo_with memory (record { issues = load 1 ∷ []; enables = []; takes = [] })

-- the cycles of four samples
abbrev pub samples : Rows
samples = spread 6 ((pos 1 ∷ []) ∷ (pos 2 ∷ []) ∷ (pos 3 ∷ []) ∷ (pos 4 ∷ []) ∷ [])

-- offset 0 in sample n is cell -n mod 2, and offset 1 is the other
pub addresses-given : map (Result (microprogram_of echo) samples 1) (0 ∷ 1 ∷ 6 ∷ 7 ∷ 18 ∷ 19 ∷ [])
    ≡ Some (pos 0) ∷ Some (pos 1) ∷ Some (pos 1) ∷ Some (pos 0) ∷ Some (pos 1) ∷ Some (pos 0) ∷ []
unfolding value entries_by
addresses-given = refl

-- sample 0 goes to cell 0 at the end of cycle 2, sample 1 to cell 1 at the end of cycle 8
pub cells-held :
    map (λ t. map (λ cell. Content (microprogram_of echo) samples (Cell 2 cell) t) (0 ∷ 1 ∷ []))
    (2 ∷ 3 ∷ 8 ∷ 9 ∷ 15 ∷ [])
    ≡ (pos 50 ∷ pos 60 ∷ []) ∷ (pos 1 ∷ pos 60 ∷ []) ∷ (pos 1 ∷ pos 60 ∷ []) ∷ (pos 1 ∷ pos 2 ∷ [])
    ∷ (pos 3 ∷ pos 2 ∷ []) ∷ []
unfolding value entries_by
cells-held = refl

-- a load's result is there in the cycle after its issue alone; a store has none
pub loads-given : map (Result (microprogram_of echo) samples 2) (1 ∷ 2 ∷ 3 ∷ 4 ∷ 9 ∷ 15 ∷ [])
    ≡ None ∷ None ∷ Some (pos 60) ∷ None ∷ Some (pos 1) ∷ Some (pos 2) ∷ []
unfolding value entries_by
loads-given = refl

-- what the store and the load of sample 1 come to, told at their issue
pub outcomes-told :
    map (λ t. outcome (microprogram_of echo) samples t (issue_at (microprogram_of echo) t 2)) (7 ∷ 8 ∷ 9 ∷ [])
    ≡ Some (Writes (Cell 2 1) (pos 2)) ∷ Some (Gives (pos 1)) ∷ None ∷ []
unfolding value entries_by
outcomes-told = refl

-- each sample puts the one before; the first puts what cell 1 began as
pub rows-put : map (latches (microprogram_of echo) samples) (6 ∷ 12 ∷ 18 ∷ 24 ∷ [])
    ≡ (pos 60 ∷ []) ∷ (pos 1 ∷ []) ∷ (pos 2 ∷ []) ∷ (pos 3 ∷ []) ∷ []
unfolding value entries_by
rows-put = refl
