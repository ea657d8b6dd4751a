-- A run of the image of y = x@1 + 3, six cycles for each sample.
use Rattle.std.specs.Prelude.{◌≡◌, [], ◌∷◌, pos, negsuc, Some, None, map}
use Rattle.lists.specs.Rows.{Rows}
use Rattle.micro_image.specs.Fields.{microprogram_of, Microprogram}
use Rattle.micro_image.specs.Log.{Register, Cell, Latch, Content, Log, Result}
use Rattle.micro_image.specs.Run.{IsRunOut, spread}
use Rattle.worked_values.specs.Machine.{echo, image_of_outputs, put_from, word}

abbrev pub echoing : Microprogram
echoing = microprogram_of echo

-- the samples 1, 127 and 3
abbrev pub three_samples : Rows
three_samples = (pos 1 ∷ []) ∷ (pos 127 ∷ []) ∷ (pos 3 ∷ []) ∷ []

-- the input row of each cycle
abbrev pub cycles : Rows
cycles = spread 6 three_samples

-- What the cycles 0 to 5 write, the newest first: the latch takes 63; the output's register 63; the adder's the 60 that
-- cell 1 begins with; the store cell 0; the constant, the second address, the sample and the first address.
abbrev pub SixCyclesWrite : Type 0
SixCyclesWrite =
    Log echoing cycles 6
    ≡ record { place = Latch 0; cycle = 5; unit = 5; value = pos 63 }
    ∷ record { place = Register 5 0 0; cycle = 4; unit = 4; value = pos 63 }
    ∷ record { place = Register 4 0 0; cycle = 3; unit = 2; value = pos 60 }
    ∷ record { place = Cell 2 0; cycle = 2; unit = 2; value = pos 1 }
    ∷ record { place = Register 2 0 1; cycle = 1; unit = 1; value = pos 1 }
    ∷ record { place = Register 4 1 0; cycle = 1; unit = 3; value = pos 3 }
    ∷ record { place = Register 2 0 0; cycle = 0; unit = 1; value = pos 0 }
    ∷ record { place = Register 2 1 0; cycle = 0; unit = 0; value = pos 1 }
    ∷ []

-- the address of sample n is -n mod 2, so that its cell is the other one in each sample
abbrev pub AddressesGoRound : Type 0
AddressesGoRound =
    map (Result echoing cycles 1) (0 ∷ 1 ∷ 6 ∷ 7 ∷ 12 ∷ 13 ∷ [])
    ≡ Some (pos 0) ∷ Some (pos 1) ∷ Some (pos 1) ∷ Some (pos 0) ∷ Some (pos 0) ∷ Some (pos 1) ∷ []

-- the ram has a result in the cycle after the issue of a load alone, and none of a store
abbrev pub LoadsTakeTwoCycles : Type 0
LoadsTakeTwoCycles =
    map (Result echoing cycles 2) (1 ∷ 2 ∷ 3 ∷ 4 ∷ 9 ∷ [])
    ≡ None ∷ None ∷ Some (pos 60) ∷ None ∷ Some (pos 1) ∷ []

-- a write is there from the next cycle on: cell 0 of the store in cycle 1, whose write ends in cycle 2
abbrev pub WritesComeAtTheEnd : Type 0
WritesComeAtTheEnd =
    map (Content echoing cycles (Cell 2 0)) (0 ∷ 2 ∷ 3 ∷ 14 ∷ 15 ∷ []) ≡ pos 50 ∷ pos 50 ∷ pos 1 ∷ pos 1 ∷ pos 3 ∷ []

-- 60 + 3, 1 + 3 and 127 + 3, which wraps in 8 bits; no cycle of the 18 has a conflict
abbrev pub ThreeSamplesRun : Type 0
ThreeSamplesRun = IsRunOut echoing three_samples ((pos 63 ∷ []) ∷ (pos 4 ∷ []) ∷ (negsuc 125 ∷ []) ∷ [])

-- the words of two samples: the first puts register 0, the second register 1
abbrev pub alternating : Microprogram
alternating = microprogram_of (image_of_outputs (word (put_from 0 0 ∷ []) [] [] ∷ word (put_from 0 1 ∷ []) [] [] ∷ []))

-- after two samples the first word comes round
abbrev pub WordsComeRound : Type 0
WordsComeRound = IsRunOut alternating three_samples ((pos 1 ∷ []) ∷ (pos 2 ∷ []) ∷ (pos 1 ∷ []) ∷ [])

-- both units put output word 0 in one cycle, in either order of the issues
abbrev pub both_put : Microprogram
both_put = microprogram_of (image_of_outputs (word (put_from 0 0 ∷ put_from 1 0 ∷ []) [] [] ∷ []))

abbrev pub both_put_back : Microprogram
both_put_back = microprogram_of (image_of_outputs (word (put_from 1 0 ∷ put_from 0 0 ∷ []) [] [] ∷ []))

-- the latch keeps the 3 of the greater unit, and it is no conflict
abbrev pub TheGreaterUnitStays : Type 0
TheGreaterUnitStays =
    IsRunOut both_put ((pos 0 ∷ []) ∷ []) ((pos 3 ∷ []) ∷ [])
    × IsRunOut both_put_back ((pos 0 ∷ []) ∷ []) ((pos 3 ∷ []) ∷ [])
