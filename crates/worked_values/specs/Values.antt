-- The value of an expression with each operator, over words of a few bits.
use Rattle.std.specs.Prelude.{ℤ, pos, negsuc, true, false, codes, [], ◌∷◌, None, slice_index_or}
use Rattle.operations.specs.Ranges.{to_nat}
use Rattle.fix_word.specs.declared.types.Mode.TheVariants.{Trunc, Round, Sat}
use Rattle.fix_word.specs.declared.types.SigType.{SigType}
use Rattle.fix_word.specs.declared.types.SigType.TheVariants as sig
use Rattle.silage_syntax.specs.declared.tree.BinOp.{BinOp}
use Rattle.silage_syntax.specs.declared.tree.BinOp.TheVariants as op
use Rattle.silage_syntax.specs.Tree.{whole, Expr, read, negate, not, binary, shift, cast, choose, branch}
use Rattle.silage_syntax.specs.Tree.{no_branch, no_item, Func, table, function, Program}
use Rattle.silage_meaning.specs.Instances.{main}
use Rattle.silage_meaning.specs.Value.{Words, IsValue}
use Rattle.worked_values.specs.Trees.{fix, fix_type, declaration, entry_of, now, ago, decimal_number, number, truth}

-- fix<8,4>: the raw word 24 is 1.5
abbrev pub fixed : SigType
fixed = fix 8 4 Trunc

-- func main(a : fix<8,4>, b : fix<8,4>, c : bool) y : fix<8,4>
abbrev pub of_three : Func
of_three = record {
  name = codes "main";
  at = 0;
  params =
      declaration (codes "a") [] fixed ∷ declaration (codes "b") [] fixed ∷ declaration (codes "c") [] sig.Bool ∷ [];
  results = declaration (codes "y") [] fixed ∷ [];
  locals = [];
  items = no_item;
}

-- const k[2] : fix<8,4> = (0.25, 3);
abbrev pub operators : Program
operators = record {
  tops =
      table (record {
        name = codes "k";
        at = 0;
        dims = 2 ∷ [];
        ty = fix_type 8 4 Trunc;
        words = decimal_number false 25 2 ∷ decimal_number false 3 0 ∷ [];
      })
      ∷ function of_three ∷ [];
}

-- the words of a, b and c at samples 0 and 1: a is -2.5 and then 1.5, b is 0 and then -0.5, c is true
abbrev pub three_words : Words
three_words e n =
    slice_index_or (slice_index_or
    ((negsuc 39 ∷ pos 24 ∷ []) ∷ (pos 0 ∷ negsuc 7 ∷ []) ∷ (pos 1 ∷ pos 1 ∷ []) ∷ []) e.declaration []) (to_nat n)
    (pos 0)

-- the value at sample 1
abbrev pub Has : Expr → SigType → ℤ → Type 0
Has x ty v =
    IsValue operators (record { instance = main; function = of_three; indices = [] }) three_words 1 x ty v

abbrev pub a : Expr
a = now (codes "a")

abbrev pub b : Expr
b = now (codes "b")

abbrev pub c : Expr
c = now (codes "c")

-- 1.5, true, a, a@1, k[1]: 0.3 * 16 is 4.8, and the nearest whole number 5
abbrev pub LeavesHaveValues : Type 0
LeavesHaveValues =
    Has (number false 15 1) fixed (pos 24) × Has (number false 3 1) fixed (pos 5)
    × Has (truth true) sig.Bool (pos 1) × Has (truth false) sig.Bool (pos 0)
    × Has a fixed (pos 24) × Has (ago (codes "a") 1) fixed (negsuc 39) × Has c sig.Bool (pos 1)
    × Has (read (entry_of (codes "k") (whole 1 0)) None) fixed (pos 48)

-- 1.5 and -0.5: the sum is 1, the difference 2, the product -0.75; 1.5 * 0.3 is 24 * 5 / 16, cut from 7.5 to 7; -(1.5)
abbrev pub SumsAndProductsHaveValues : Type 0
SumsAndProductsHaveValues =
    Has (binary 0 op.Add a b) fixed (pos 16) × Has (binary 0 op.Sub a b) fixed (pos 32)
    × Has (binary 0 op.Mul a b) fixed (negsuc 11) × Has (binary 0 op.Mul a (number false 3 1)) fixed (pos 7)
    × Has (negate 0 a) fixed (negsuc 23)
    -- -2.5 * 1.5 is -3.75, and 7.5 * 1.5 is 11.25, 180 / 16, which wraps to -4.75
    × Has (binary 0 op.Mul (ago (codes "a") 1) a) fixed (negsuc 59)
    × Has (binary 0 op.Mul (number false 75 1) a) fixed (negsuc 75)

-- 1.5 << 1 is 3, 1.5 << 3 is 12, which wraps to -4; -0.5 >> 1 is -0.25, 1.5 >> 4 is 1.5 / 16, cut to 1 / 16
abbrev pub ShiftsHaveValues : Type 0
ShiftsHaveValues =
    Has (shift 0 true a (whole 1 0)) fixed (pos 48) × Has (shift 0 true a (whole 3 0)) fixed (negsuc 63)
    × Has (shift 0 false b (whole 1 0)) fixed (negsuc 3) × Has (shift 0 false a (whole 4 0)) fixed (pos 1)

-- fix<8,0>(1.5) is 1, and fix<8,0,round>(1.5) is 2. A number has no type of its own: fix<8,0>(2.5) is the number there.
abbrev pub CastsHaveValues : Type 0
CastsHaveValues =
    Has (cast 0 (fix_type 8 0 Trunc) a) (fix 8 0 Trunc) (pos 1)
    × Has (cast 0 (fix_type 8 0 Round) a) (fix 8 0 Round) (pos 2)
    × Has (cast 0 (fix_type 8 0 Trunc) (number false 25 1)) (fix 8 0 Trunc) (pos 3)

abbrev pub IsCompared : BinOp → (less same greater : ℤ) → Type 0
IsCompared o less same greater =
    Has (binary 0 o b a) sig.Bool less × Has (binary 0 o a a) sig.Bool same × Has (binary 0 o a b) sig.Bool greater

-- b with a, a with itself, a with b
abbrev pub ComparisonsHaveValues : Type 0
ComparisonsHaveValues =
    IsCompared op.Lt (pos 1) (pos 0) (pos 0) × IsCompared op.Le (pos 1) (pos 1) (pos 0)
    × IsCompared op.Eq (pos 0) (pos 1) (pos 0) × IsCompared op.Ne (pos 1) (pos 0) (pos 1)
    × IsCompared op.Gt (pos 0) (pos 0) (pos 1) × IsCompared op.Ge (pos 0) (pos 1) (pos 1)

-- true and false, each with each, and !
abbrev pub TruthsHaveValues : Type 0
TruthsHaveValues =
    Has (binary 0 op.And c c) sig.Bool (pos 1) × Has (binary 0 op.And c (truth false)) sig.Bool (pos 0)
    × Has (binary 0 op.And (truth false) c) sig.Bool (pos 0)
    × Has (binary 0 op.Or c (truth false)) sig.Bool (pos 1) × Has (binary 0 op.Or (truth false) c) sig.Bool (pos 1)
    × Has (binary 0 op.Or (truth false) (truth false)) sig.Bool (pos 0)
    × Has (not 0 c) sig.Bool (pos 0) × Has (not 0 (truth false)) sig.Bool (pos 1)

-- if a < b -> 1 || c -> b || a fi is b, if a < b -> 1 || a fi is a, if c -> a || c -> b || 1 fi is a
abbrev pub ChoicesHaveValues : Type 0
ChoicesHaveValues =
    Has (choose 0 (branch (binary 0 op.Lt a b) (number false 1 0) (branch c b no_branch)) a) fixed (negsuc 7)
    × Has (choose 0 (branch (binary 0 op.Lt a b) (number false 1 0) no_branch) a) fixed (pos 24)
    × Has (choose 0 (branch c a (branch c b no_branch)) (number false 1 0)) fixed (pos 24)

abbrev pub hundred : Expr
hundred = number false 100 0

-- 100 + 100 - 100 against fix<8,0,sat>: the inner sum stays at 127, and the difference is 27. Against fix<8,0> it wraps
-- to -56, and the difference to 100. The word of -2.5 is the nearest, of two the greater, -2; -(2.5) is that of 2.5,
-- 3, negated.
abbrev pub PartsHaveWords : Type 0
PartsHaveWords =
    Has (binary 0 op.Sub (binary 0 op.Add hundred hundred) hundred) (fix 8 0 Sat) (pos 27)
    × Has (binary 0 op.Sub (binary 0 op.Add hundred hundred) hundred) (fix 8 0 Trunc) (pos 100)
    × Has (number true 25 1) (fix 8 0 Trunc) (negsuc 1)
    × Has (negate 0 (number false 25 1)) (fix 8 0 Trunc) (negsuc 2)

-- 2 * 3 has no type to be checked against, c is no number, a no truth, a and 8.0 no words of fix<8,0> and fix<8,4>
abbrev pub OthersHaveNoValue : ℤ → Type 0
OthersHaveNoValue v =
    (Has (binary 0 op.Mul (number false 2 0) (number false 3 0)) fixed v → ⊥)
    × (Has (binary 0 op.Add a c) fixed v → ⊥) × (Has (not 0 a) sig.Bool v → ⊥)
    × (Has a (fix 8 0 Trunc) v → ⊥) × (Has (number false 80 1) fixed v → ⊥)
