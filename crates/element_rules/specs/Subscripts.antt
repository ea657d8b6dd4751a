-- Which element of an array its subscripts pick.
use Rattle.std.specs.Prelude.{◌≡◌, ◌+◌, ◌*◌, ◌<◌, ℕ, List, [], ◌∷◌}
use Rattle.silage_syntax.specs.Names.{element_count}
use Rattle.element_rules.specs.declared.subscripts.Subscripts.{Subscripts}
use Rattle.element_rules.specs.declared.subscripts.Subscripts.TheVariants.{Bare, One, Two}

-- the subscripts, from left to right
abbrev pub listed : Subscripts → List ℕ
listed Bare = []
listed (One i) = i ∷ []
listed (Two i j) = i ∷ j ∷ []

-- the row-major place of the element with these subscripts in an array of these dims, each subscript below its dim
abbrev pub IsPlace : (dims subs : List ℕ) → (place : ℕ) → Type 0
IsPlace [] [] place = place ≡ 0
IsPlace (dim ∷ dims) (sub ∷ subs) place =
    (rest : ℕ) × (sub < dim) × IsPlace dims subs rest × (place ≡ sub * element_count dims + rest)
IsPlace _ _ place = ⊥
