-- Where the units of a file end.
use Rattle.std.specs.Prelude.{ℕ, zero, suc, ◌+◌, ◌≤◌, List, [], ◌∷◌, length, All, Result, Ok, Err}
use Rattle.std.below.core.specs.declared.int.usize.TheConstants as usize
use Rattle.micro_image.specs.declared.image.UnitDesc.{UnitDesc}
use Rattle.micro_file.specs.declared.misread.Misread.{Misread}
use Rattle.micro_file.specs.Private.Fields.{Reading, ◌>>=◌}
use Rattle.micro_file.specs.Private.FormAt.{FormAt}
use Rattle.micro_file.specs.Private.Units.{unit_at, judged}

-- the end of the unit that was read, and those behind it
abbrev pub end_and : (List ℕ → List ℕ) → Reading UnitDesc → List ℕ
end_and more (Ok unit) = length unit.1 ∷ more unit.1
end_and more (Err misread) = []

module _ (form : FormAt) where
  -- how much is left behind each of so many units, as far as they can be read
  unfoldable pub ends_of : ℕ → List ℕ → List ℕ
  ends_of zero left = []
  ends_of (suc n) left = end_and (ends_of n) (unit_at form left)

  -- the number of a ram, and what is left behind each, can be counted
  abbrev pub HaveRoom : List ℕ → Type 0
  HaveRoom ends = All (λ end. end + form.ram_length ≤ usize.MAX) ends

  -- each of the others, which end where so much is left, is tied to a ram of the units
  unfoldable pub all_judged : List UnitDesc → List UnitDesc → List ℕ → Result (Unit {0}) Misread
  all_judged units [] ends = Ok tt
  all_judged units (unit ∷ others) [] = Ok tt
  all_judged units (unit ∷ others) (behind ∷ ends) =
      judged form units unit behind >>= λ _. all_judged units others ends
