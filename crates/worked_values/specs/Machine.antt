-- An image of y = x@1 + 3 in six cycles, through a ram of latency 2 and two cells, which begin as 50 and 60.
use Rattle.std.specs.Prelude.{ℕ, List, [], ◌∷◌, length, ℤ, pos}
use Rattle.fix_word.specs.declared.operation.Op.{Op}
use Rattle.fix_word.specs.declared.operation.Op.TheVariants as op
use Rattle.operations.specs.Operations.{plain}
use Rattle.operations.specs.declared.units.Kind.{Kind}
use Rattle.operations.specs.declared.units.Kind.TheVariants as kind
use Rattle.micro_image.specs.declared.image.Enable.{Enable}
use Rattle.micro_image.specs.declared.image.Image.{Image}
use Rattle.micro_image.specs.declared.image.Issue.{Issue}
use Rattle.micro_image.specs.declared.image.Take.{Take}
use Rattle.micro_image.specs.declared.image.UnitDesc.{UnitDesc}
use Rattle.micro_image.specs.declared.image.Word.{Word}

-- a unit of latency 1 without cells
abbrev pub simple : Kind → List (List ℤ) → UnitDesc
simple k files = record { kind = k; latency = 1; gap = 1; files = files; cells = []; ram = 0 }

abbrev pub memory : UnitDesc
memory = record {
  kind = kind.Ram;
  latency = 2;
  gap = 1;
  files = (pos 0 ∷ pos 0 ∷ []) ∷ (pos 0 ∷ []) ∷ [];
  cells = pos 50 ∷ pos 60 ∷ [];
  ram = 0;
}

abbrev pub addresses : UnitDesc
addresses = record { kind = kind.Acu; latency = 1; gap = 1; files = []; cells = []; ram = 2 }

-- an issue without a format, on a unit
abbrev pub issue : (unit : ℕ) → Op → (argument : ℕ) → (regs : List ℕ) → Issue
issue unit o argument regs = record { unit = unit; op = o; fmt = plain 0; arg = pos argument; regs = regs }

abbrev pub drive : (unit bus : ℕ) → Enable
drive unit bus = record { unit = unit; bus = bus }

-- a take into a register of a port's file
abbrev pub take_into : (unit port bus reg : ℕ) → Take
take_into unit port bus reg = record { port = record { unit = unit; port = port }; bus = bus; reg = reg }

abbrev pub word : List Issue → List Enable → List Take → Word
word issues enables takes = record { issues = issues; enables = enables; takes = takes }

-- the load of the sample before, whose address is in register 1
abbrev pub load : Issue
load = issue 2 op.Load 0 (1 ∷ 0 ∷ [])

-- the units in, acu, ram, rom, alu and out, with this ram and this word in cycle 2
abbrev pub image_with : UnitDesc → Word → Image
image_with ram third = record {
  period = 6;
  unroll = 1;
  inputs = 8 ∷ [];
  outs = 1;
  units =
      simple kind.Input [] ∷ addresses ∷ ram ∷ simple kind.Rom []
      ∷ simple kind.Alu ((pos 0 ∷ []) ∷ (pos 0 ∷ []) ∷ []) ∷ simple kind.Output ((pos 0 ∷ []) ∷ []) ∷ [];
  buses = 2;
  words =
      -- the sample and the address of its cell go to the ram
      word (issue 0 op.Input 0 [] ∷ issue 1 op.Addr 0 [] ∷ []) (drive 0 0 ∷ drive 1 1 ∷ [])
      (take_into 2 0 1 0 ∷ take_into 2 1 0 0 ∷ [])
      -- the store begins, and writes at the end of cycle 2; the address of the other cell, and the number 3
      ∷ word (issue 1 op.Addr 1 [] ∷ issue 2 op.Store 0 (0 ∷ 0 ∷ []) ∷ issue 3 op.Const 3 [] ∷ [])
      (drive 1 1 ∷ drive 3 0 ∷ []) (take_into 2 0 1 1 ∷ take_into 4 1 0 0 ∷ [])
      ∷ third
      -- the word of the load goes to the adder
      ∷ word [] (drive 2 0 ∷ []) (take_into 4 0 0 0 ∷ [])
      ∷ word
      (record { unit = 4; op = op.Add; fmt = plain 8; arg = pos 0; regs = 0 ∷ 0 ∷ [] } ∷ []) (drive 4 0 ∷ [])
      (take_into 5 0 0 0 ∷ [])
      ∷ word (issue 5 op.Output 0 (0 ∷ []) ∷ []) [] []
      ∷ [];
}

abbrev pub echo : Image
echo = image_with memory (word (load ∷ []) [] [])

-- two outputs, of which the first has 1 and 2 in its registers and the other 3, with these words of one cycle each
abbrev pub image_of_outputs : List Word → Image
image_of_outputs words = record {
  period = 1;
  unroll = length words;
  inputs = 8 ∷ [];
  outs = 1;
  units =
      simple kind.Output ((pos 1 ∷ pos 2 ∷ []) ∷ []) ∷ simple kind.Output ((pos 3 ∷ []) ∷ []) ∷ [];
  buses = 1;
  words = words;
}

-- a word in which a unit puts its register to output word 0
abbrev pub put_from : (unit reg : ℕ) → Issue
put_from unit reg = issue unit op.Output 0 (reg ∷ [])
