-- What a conflict of each kind looks like, by a change to cycle 2 of the image of y = x@1.
use Rattle.std.proofs.Common.{refl, arith, ℕ, List, [], ◌∷◌, pos, negsuc}
use Rattle.micro_image.specs.declared.conflict.ConflictKind.TheVariants.{Busy, TwoDrivers, FileTwice, NoDriver}
use Rattle.micro_image.specs.declared.conflict.ConflictKind.TheVariants.{NoResult, Address}
use Rattle.micro_image.specs.declared.image.Enable.{Enable}
use Rattle.micro_image.specs.declared.image.Take.{Take}
use Rattle.micro_image.specs.declared.image.Image.{Image}
use Rattle.micro_image.specs.Conflict.{HasConflict}
use Rattle.micro_image.specs.Fields.{microprogram_of}
use Rattle.micro_image.specs.Log.{value, entries_by}
use Rattle.micro_image.proofs.Echo.{echo_with, memory, samples, load, drive, take_into}

-- the load with other enables and takes beside it
abbrev beside : List Enable → List Take → Image
beside enables takes = echo_with memory (record { issues = load 1 ∷ []; enables = enables; takes = takes })

-- a ram that takes an issue in every second cycle, and has the store's and then the load's
pub busy :
    HasConflict Busy
    (microprogram_of
    (echo_with (record memory { gap = 2 }) (record { issues = load 1 ∷ []; enables = []; takes = [] }))) samples 2 2
busy = (refl, (1, omega arith, omega arith, refl))

-- the input and the addresses on bus 1
pub driven-twice : HasConflict TwoDrivers (microprogram_of (beside (drive 0 1 ∷ drive 1 1 ∷ []) [])) samples 2 1
driven-twice = omega arith

-- port 0 of unit 3
pub filled-twice :
    HasConflict FileTwice (microprogram_of (beside [] (take_into 3 0 0 0 ∷ take_into 3 0 1 0 ∷ []))) samples 2 12
filled-twice = omega arith

-- a take from bus 0, and a unit on bus 1 alone
pub undriven : HasConflict NoDriver (microprogram_of (beside (drive 1 1 ∷ []) (take_into 3 0 0 0 ∷ []))) samples 2 0
undriven = (omega arith, refl)

-- the store ends in cycle 2, which gives no result, and the load has not ended
pub resultless : HasConflict NoResult (microprogram_of (beside (drive 2 0 ∷ []) [])) samples 2 2
resultless = (omega arith, refl)

-- a ram whose registers 2 and 3 hold numbers that are not of its two cells
abbrev loading : ℕ → Image
loading reg =
    echo_with (record memory { files = (pos 0 ∷ pos 0 ∷ pos 2 ∷ negsuc 0 ∷ []) ∷ (pos 0 ∷ []) ∷ [] })
    (record { issues = load reg ∷ []; enables = []; takes = [] })

-- a load of cell 2
pub address-above : HasConflict Address (microprogram_of (loading 2)) samples 2 2
unfolding value entries_by
address-above = (load 2, refl, tt, omega arith)

-- a load of cell -1
pub address-below : HasConflict Address (microprogram_of (loading 3)) samples 2 2
unfolding value entries_by
address-below = (load 3, refl, tt, tt)
