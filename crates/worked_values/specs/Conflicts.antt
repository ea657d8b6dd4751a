-- What a conflict of each kind is, by a change to cycle 2 of the image of y = x@1 + 3.
use Rattle.std.specs.Prelude.{ℕ, List, [], ◌∷◌, ℤ, pos, negsuc}
use Rattle.micro_image.specs.Conflict.{HasConflict}
use Rattle.micro_image.specs.Fields.{microprogram_of}
use Rattle.micro_image.specs.declared.conflict.ConflictKind.{ConflictKind}
use Rattle.micro_image.specs.declared.conflict.ConflictKind.TheVariants.{Busy, TwoDrivers, FileTwice, NoDriver}
use Rattle.micro_image.specs.declared.conflict.ConflictKind.TheVariants.{NoResult, Address}
use Rattle.micro_image.specs.declared.image.Enable.{Enable}
use Rattle.micro_image.specs.declared.image.Take.{Take}
use Rattle.micro_image.specs.declared.image.UnitDesc.{UnitDesc}
use Rattle.micro_image.specs.declared.image.Word.{Word}
use Rattle.worked_values.specs.Machine.{memory, image_with, word, load, drive, take_into}
use Rattle.worked_values.specs.Runs.{cycles}

-- with this ram and this word in cycle 2, cycle 2 has the conflict at the place
abbrev pub Meets : UnitDesc → Word → ConflictKind → ℕ → Type 0
Meets ram third kind place = HasConflict kind (microprogram_of (image_with ram third)) cycles 2 place

-- the load with these drives and takes beside it
abbrev pub beside : List Enable → List Take → Word
beside enables takes = word (load ∷ []) enables takes

-- a ram that has the issue of a store in cycle 1 can have a load in cycle 2, but not where its gap is 2
abbrev pub UnitsAreBusy : Type 0
UnitsAreBusy =
    Meets (record memory { gap = 2 }) (beside [] []) Busy 2 × (Meets memory (beside [] []) Busy 2 → ⊥)

-- the units 0 and 1 on bus 1, and each on a bus of its own
abbrev pub DriversMeet : Type 0
DriversMeet =
    Meets memory (beside (drive 0 1 ∷ drive 1 1 ∷ []) []) TwoDrivers 1
    × (Meets memory (beside (drive 0 0 ∷ drive 1 1 ∷ []) []) TwoDrivers 1 → ⊥)

-- two takes into port 0 of unit 5, whose file is number 20, and two into the ports of unit 4
abbrev pub WritesMeet : Type 0
WritesMeet =
    Meets memory (beside [] (take_into 5 0 0 0 ∷ take_into 5 0 1 0 ∷ [])) FileTwice 20
    × (Meets memory (beside [] (take_into 4 0 0 0 ∷ take_into 4 1 0 0 ∷ [])) FileTwice 16 → ⊥)

-- a take from bus 0, where a unit is on bus 1 alone, and where one is on bus 0
abbrev pub BusesAreBare : Type 0
BusesAreBare =
    Meets memory (beside (drive 1 1 ∷ []) (take_into 5 0 0 0 ∷ [])) NoDriver 0
    × (Meets memory (beside (drive 1 0 ∷ []) (take_into 5 0 0 0 ∷ [])) NoDriver 0 → ⊥)

-- the ram on bus 0 in cycle 2, in which the store ends, which gives no result, and the load has not ended
abbrev pub ResultsAreMissing : Type 0
ResultsAreMissing = Meets memory (beside (drive 2 0 ∷ []) []) NoResult 2 × (Meets memory (beside [] []) NoResult 2 → ⊥)

-- a load of the cell whose number is in register 2 of the ram's port 0
abbrev pub Loads : ℤ → Type 0
Loads address =
    Meets (record memory { files = (pos 0 ∷ pos 0 ∷ address ∷ []) ∷ (pos 0 ∷ []) ∷ [] })
    (word (record load { regs = 2 ∷ 0 ∷ [] } ∷ []) [] []) Address 2

-- the ram has the cells 0 and 1
abbrev pub AddressesAreOutside : Type 0
AddressesAreOutside = Loads (pos 2) × Loads (negsuc 0) × (Loads (pos 1) → ⊥)
