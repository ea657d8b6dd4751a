-- The flags of a word and the ends of its takes, of which most are zeros.
use Rattle.std.specs.Prelude.{ℕ, ◌+◌, ◌*◌, ◌-◌, List, [], ◌∷◌, ◌++◌, length, map, replicate, get_or}
use Rattle.std.specs.List.{range_with_len}
use Rattle.micro_image.specs.declared.image.Enable.{Enable}
use Rattle.micro_image.specs.declared.image.Image.{Image}
use Rattle.micro_image.specs.declared.image.Issue.{Issue}
use Rattle.micro_image.specs.declared.image.Take.{Take}
use Rattle.micro_image.specs.Bits.{in_bits, take_bits}
use Rattle.micro_image.specs.Form.{spelled_operation}
use Rattle.micro_bits.specs.Idle.{sizes, files_of}

-- from a place on, of so many: zeros up to the place of each, which is put there and fills so many places, and zeros
-- behind the last
unfoldable pub placed_from : {X : Type 0}
    → (place : X → ℕ)
    → (put : X → List ℕ)
    → (filled count next : ℕ)
    → List X
    → List ℕ
placed_from place put filled count next [] = replicate (count - next) 0
placed_from place put filled count next (x ∷ xs) =
    (replicate (place x - next) 0 ++ put x) ++ placed_from place put filled count (place x + filled) xs

-- an issue stands at its unit's place, instead of the flag that it has none
abbrev pub placed_issues : (units next : ℕ) → List Issue → List ℕ
placed_issues units =
    placed_from (λ issue. issue.unit) (λ issue. 1 ∷ spelled_operation in_bits issue) 1 units

-- an enable stands at the flag of its unit and bus
abbrev pub placed_enables : (buses flags next : ℕ) → List Enable → List ℕ
placed_enables buses flags =
    placed_from (λ enable. enable.unit * buses + enable.bus) (λ _. 1 ∷ []) 1 flags

-- a take stands in front of the end of the takes into its file; the files of the units start there
abbrev pub placed_takes : (starts : List ℕ) (files next : ℕ) → List Take → List ℕ
placed_takes starts files =
    placed_from (λ take. get_or starts take.port.unit 0 + take.port.port) take_bits 0 files

-- where the register files of each unit start among those of all
abbrev pub starts_in : Image → List ℕ
starts_in image = map (sizes (files_of image) 0) (range_with_len 0 (length image.units))
