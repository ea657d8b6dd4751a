-- The image of y = x + 1 on four units and one bus, and what the hardware does with it, against values worked out by
-- hand. A sample's word is taken at its cycle 0, the constant at 1, the sum at 2, and it is put at 3.
use Rattle.std.proofs.Common.{◌≡◌, refl, List, [], ◌∷◌, Some, None, ℤ, pos, negsuc, ℕ, replicate, map}
use Rattle.lists.specs.Rows.{Rows}
use Rattle.fix_word.specs.declared.operation.Op.TheVariants as op
use Rattle.fix_word.specs.declared.types.Format.{Format}
use Rattle.fix_word.specs.declared.types.Mode.TheVariants.{Trunc}
use Rattle.fix_word.specs.Values.{wrap_of}
use Rattle.micro_image.specs.declared.image.Enable.{Enable}
use Rattle.micro_image.specs.declared.image.Image.{Image}
use Rattle.operations.specs.declared.units.Kind.{Kind}
use Rattle.operations.specs.declared.units.Kind.TheVariants as kind
use Rattle.micro_image.specs.declared.image.Take.{Take}
use Rattle.micro_image.specs.declared.image.UnitDesc.{UnitDesc}
use Rattle.micro_image.specs.declared.image.Word.{Word}
use Rattle.micro_image.specs.Fields.{microprogram_of, no_word}
use Rattle.micro_image.specs.Log.{Register, Content, Result, value, entries_by}
use Rattle.micro_image.specs.Run.{spread, latches}

-- the format of an operation that has none
abbrev pub unformatted : Format
unformatted = record { shift = pos 0; mode = Trunc; width = 0 }

-- a unit without cells, of latency and gap 1
abbrev pub plain_unit : Kind → List (List ℤ) → UnitDesc
plain_unit kind files = record { kind = kind; latency = 1; gap = 1; files = files; cells = []; ram = 0 }

-- a register file of so many zeros
abbrev pub zeros : ℕ → List ℤ
zeros size = replicate size (pos 0)

-- a unit on the one bus
abbrev pub drive : ℕ → Enable
drive unit = record { unit = unit; bus = 0 }

-- a take from the one bus into the first register
abbrev pub take_into : ℕ → ℕ → Take
take_into unit port = record { port = record { unit = unit; port = port }; bus = 0; reg = 0 }

-- the word of the sample's cycle 0: the input to port 0 of the adder
abbrev pub fetch : Word
fetch = record {
  issues = record { unit = 0; op = op.Input; fmt = unformatted; arg = pos 0; regs = [] } ∷ [];
  enables = drive 0 ∷ [];
  takes = take_into 2 0 ∷ [];
}

-- of cycle 1: the constant 1 to port 1 of the adder
abbrev pub one : Word
one = record {
  issues = record { unit = 1; op = op.Const; fmt = unformatted; arg = pos 1; regs = [] } ∷ [];
  enables = drive 1 ∷ [];
  takes = take_into 2 1 ∷ [];
}

-- the sum, with these units on the bus
abbrev pub sum_driven_by : List Enable → Word
sum_driven_by enables = record {
  issues =
      record {
        unit = 2;
        op = op.Add;
        fmt = record { shift = pos 0; mode = Trunc; width = 8 };
        arg = pos 0;
        regs = 0 ∷ 0 ∷ [];
      } ∷ [];
  enables = enables;
  takes = take_into 3 0 ∷ [];
}

-- of cycle 2: the sum to the output unit
abbrev pub sum : Word
sum = sum_driven_by (drive 2 ∷ [])

-- of cycle 3: the output
abbrev pub put : Word
put = record {
  issues = record { unit = 3; op = op.Output; fmt = unformatted; arg = pos 0; regs = 0 ∷ [] } ∷ [];
  enables = [];
  takes = [];
}

-- the hardware with these words
abbrev pub image_of : List Word → Image
image_of words = record {
  period = 16;
  unroll = 1;
  inputs = 8 ∷ [];
  outs = 1;
  units =
      plain_unit kind.Input [] ∷ plain_unit kind.Rom [] ∷ plain_unit kind.Alu (zeros 8 ∷ zeros 8 ∷ [])
      ∷ plain_unit kind.Output (zeros 2 ∷ []) ∷ [];
  buses = 1;
  words = words;
}

-- y = x + 1 in a period of 16 cycles
abbrev pub increment : Image
increment = image_of (fetch ∷ one ∷ sum ∷ put ∷ replicate 12 no_word)

-- the cycles of two samples, 127 and -128
abbrev two_samples : Rows
two_samples = spread 16 ((pos 127 ∷ []) ∷ (negsuc 127 ∷ []) ∷ [])

-- the adder's register at port 0 holds the sample from its cycle 1 on
pub operands-held : map (Content (microprogram_of increment) two_samples (Register 2 0 0)) (0 ∷ 1 ∷ 16 ∷ 17 ∷ [])
    ≡ pos 0 ∷ pos 127 ∷ pos 127 ∷ negsuc 127 ∷ []
unfolding value entries_by
operands-held = refl

-- the output unit's register holds the sum from cycle 3 on
pub sums-held : map (Content (microprogram_of increment) two_samples (Register 3 0 0)) (2 ∷ 3 ∷ 18 ∷ 19 ∷ [])
    ≡ pos 0 ∷ negsuc 127 ∷ negsuc 127 ∷ negsuc 126 ∷ []
unfolding value entries_by wrap_of
sums-held = refl

-- no other register is written
pub others-untouched : map (λ reg. Content (microprogram_of increment) two_samples (Register 2 0 reg) 20) (1 ∷ 7 ∷ [])
    ≡ pos 0 ∷ pos 0 ∷ []
unfolding value entries_by
others-untouched = refl

-- the adder has a result in the cycle of its issue alone
pub sum-results : map (Result (microprogram_of increment) two_samples 2) (1 ∷ 2 ∷ 3 ∷ 18 ∷ [])
    ≡ None ∷ Some (negsuc 127) ∷ None ∷ Some (negsuc 126) ∷ []
unfolding value entries_by wrap_of
sum-results = refl

-- an output gives no result
pub no-output-result : Result (microprogram_of increment) two_samples 3 3 ≡ None
unfolding value entries_by
no-output-result = refl

-- the latch changes at the end of cycle 3 of each sample
pub latches-held : map (latches (microprogram_of increment) two_samples) (3 ∷ 4 ∷ 16 ∷ 19 ∷ 20 ∷ 32 ∷ [])
    ≡ (pos 0 ∷ []) ∷ (negsuc 127 ∷ []) ∷ (negsuc 127 ∷ []) ∷ (negsuc 127 ∷ []) ∷ (negsuc 126 ∷ []) ∷ (negsuc 126 ∷ [])
    ∷ []
unfolding value entries_by wrap_of
latches-held = refl
