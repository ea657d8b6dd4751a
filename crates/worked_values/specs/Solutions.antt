-- A program with a delay, its valid rows, and the one solution over three of them.
use Rattle.std.specs.Prelude.{◌≡◌, ℕ, zero, suc, false, ℤ, pos, negsuc, codes, [], ◌∷◌, slice_index_or}
use Rattle.lists.specs.Rows.{Rows}
use Rattle.fix_word.specs.declared.types.Mode.TheVariants.{Trunc}
use Rattle.silage_syntax.specs.declared.tree.BinOp.TheVariants as op
use Rattle.silage_syntax.specs.Tree.{whole, Expr, binary, equation, initial, no_item, item, Func, function, Program}
use Rattle.silage_meaning.specs.Value.{Words}
use Rattle.silage_meaning.specs.Solves.{IsRow, IsStream, IsOneSolution, out}
use Rattle.worked_values.specs.Trees.{fix, declaration, bare, now, ago, decimal_number}

-- x + y@1
abbrev pub sum : Expr
sum = binary 0 op.Add (now (codes "x")) (ago (codes "y") 1)

-- func main(x : fix<8,0>) y : fix<8,0> = begin y = x + y@1; y @@ 1 = 5; end;
abbrev pub summing : Func
summing = record {
  name = codes "main";
  at = 0;
  params = declaration (codes "x") [] (fix 8 0 Trunc) ∷ [];
  results = declaration (codes "y") [] (fix 8 0 Trunc) ∷ [];
  locals = [];
  items =
      item (equation (bare (codes "y")) sum)
      (item (initial (bare (codes "y")) (whole 1 0) (decimal_number false 5 0)) no_item);
}

abbrev pub summed : Program
summed = record { tops = function summing ∷ [] }

-- one word of 8 bits, and no other row
abbrev pub RowsAreWords : Type 0
RowsAreWords =
    IsRow summed (pos 127 ∷ []) × IsRow summed (negsuc 127 ∷ []) × (IsRow summed (pos 128 ∷ []) → ⊥)
    × (IsRow summed [] → ⊥) × (IsRow summed (pos 1 ∷ pos 1 ∷ []) → ⊥)
    × IsStream summed ((pos 127 ∷ []) ∷ (negsuc 127 ∷ []) ∷ []) × IsStream summed []

abbrev pub one_two_three : Rows
one_two_three = (pos 1 ∷ []) ∷ (pos 2 ∷ []) ∷ (pos 3 ∷ []) ∷ []

-- x, which is declaration 0, is 1, 2, 3, and before that 0; y is 5 at sample -1, then 1 + 5, 2 + 6, 3 + 8
abbrev pub word_of : (declaration : ℕ) → ℤ → ℤ
word_of zero (pos n) = slice_index_or (pos 1 ∷ pos 2 ∷ pos 3 ∷ []) n (pos 0)
word_of (suc zero) (pos n) = slice_index_or (pos 6 ∷ pos 8 ∷ pos 11 ∷ []) n (pos 0)
word_of (suc zero) (negsuc zero) = pos 5
word_of _ _ = pos 0

abbrev pub sums : Words
sums e n = word_of e.declaration n

abbrev pub SumsAreTheSolution : Type 0
SumsAreTheSolution = IsOneSolution summed one_two_three sums

abbrev pub SumsComeOut : Type 0
SumsComeOut = out summed sums 3 ≡ (pos 6 ∷ []) ∷ (pos 8 ∷ []) ∷ (pos 11 ∷ []) ∷ []
