-- The formats of operations against types of each mode.
use Rattle.std.proofs.Common.{◌≡◌, refl, ℕ, true, false, Option, Some, None, pos, negsuc}
use Rattle.fix_word.specs.declared.types.FixType.{FixType}
use Rattle.fix_word.specs.declared.types.Format.{Format}
use Rattle.fix_word.specs.declared.types.Mode.{Mode}
use Rattle.fix_word.specs.declared.types.Mode.TheVariants.{Trunc, Round, Sat, RoundSat}
use Rattle.fix_word.specs.declared.types.SigType.TheVariants.{Fix}
use Rattle.silage_syntax.specs.declared.tree.BinOp.TheVariants as op
use Rattle.silage_syntax.specs.declared.tree.Lit.TheVariants.{Number}
use Rattle.silage_syntax.specs.Tree.{Expr, literal, negate, binary, shift, cast, whole, Func, Program}
use Rattle.type_rules.specs.TypedTree.{TypedExpr, node}
use Rattle.type_rules.specs.Translation.{typed_expr}

abbrev fix_type : (w f : ℕ) → Mode → FixType
fix_type w f mode = record { shape = record { w = w; f = f }; mode = mode }

abbrev in_format : (shift : ℕ) → Mode → Option Format
in_format bits mode = Some (record { shift = pos bits; mode = mode; width = 8 })

abbrev one : Expr
one = literal (Number false 1 0 0)

-- 1 as a word with six fraction bits
abbrev finer : Expr
finer = cast 0 (fix_type 8 6 Trunc) one

abbrev format_of : TypedExpr → Option Format
format_of (node o fmt parts amount) = Some fmt
format_of _ = None

module _ (p : Program) (f : Func) where
  -- against an eight-bit type with four fraction bits
  abbrev against : Mode → Expr → Option Format
  against mode x = format_of (typed_expr p f x (Fix (fix_type 8 4 mode)))

  -- a sum, a difference, a negation and a shift to the left have nothing to round: they wrap or saturate alone
  sum_wraps : against Round (binary 0 op.Add one one) ≡ in_format 0 Trunc
  sum_wraps = refl

  sum_saturates : against RoundSat (binary 0 op.Add one one) ≡ in_format 0 Sat
  sum_saturates = refl

  difference_saturates : against Sat (binary 0 op.Sub one one) ≡ in_format 0 Sat
  difference_saturates = refl

  negation_saturates : against RoundSat (negate 0 one) ≡ in_format 0 Sat
  negation_saturates = refl

  left_saturates : against RoundSat (shift 0 true one (whole 3 0))
      ≡ Some (record { shift = negsuc 0; mode = Sat; width = 8 })
  left_saturates = refl

  -- a shift to the right, a product and a cast keep the whole mode
  right_rounds : against RoundSat (shift 0 false one (whole 3 0)) ≡ in_format 1 RoundSat
  right_rounds = refl

  product_rounds : against RoundSat (binary 0 op.Mul finer finer) ≡ in_format 8 RoundSat
  product_rounds = refl

  cast_rounds : against Trunc (cast 0 (fix_type 8 4 RoundSat) finer) ≡ in_format 2 RoundSat
  cast_rounds = refl
