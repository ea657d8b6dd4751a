use Rattle.std.proofs.Common.{rules, ◌≡◌, ℕ, zero, suc, List, [], ◌∷◌, ℤ, length, refl, arith}
use Rattle.std.specs.Prelude.{slice_get, None}
use Rattle.micro_image.specs.Fields.{nth}
use Rattle.micro_file.proofs.bit_fields.registers_at.Goals as goal

-- past the end there is no file, and no register
nothing_there : (files : List (List ℤ)) (port : ℕ) → slice_get files port ≡ None → length (nth files port []) ≡ 0
nothing_there [] port h = refl
nothing_there (file ∷ files) zero h = absurd (cc)
nothing_there (file ∷ files) (suc port) h = nothing_there files port h

pub returns-in-None : goal.returns-in-None
returns-in-None c =
    let none = nothing_there c.args.files.now c.args.port (search rules) in
    grind arith
