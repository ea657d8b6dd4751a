-- Numbers for names.
use Rattle.std.specs.Prelude.{ℕ, ◌+◌, ◌-◌, ◌*◌, ◌^◌, ◌%◌, List, [], ◌∷◌, drop, length}

-- bytes as the digits of a number, behind those of another one, of which the last seven stay
abbrev pub digits_after : ℕ → List ℕ → ℕ
digits_after n [] = n
digits_after n (b ∷ bs) = digits_after (n % 2 ^ 56 * 256 + b) bs

-- the last eight bytes of a name
abbrev pub key_of : List ℕ → ℕ
key_of name = digits_after 0 (drop (length name - 8) name)
