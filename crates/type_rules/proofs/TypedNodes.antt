-- The value of a node, by the values of its parts.
use Rattle.std.proofs.Common.{ℕ, [], ◌∷◌, Some, None, ℤ, pos, ◌*ℤ◌}
use Rattle.fix_word.specs.Operations.{IsApply}
use Rattle.fix_word.specs.declared.types.Format.{Format}
use Rattle.fix_word.specs.declared.operation.Op.{Op}
use Rattle.silage_syntax.specs.Tree.{Manifest, Program}
use Rattle.silage_syntax.specs.Manifests.{IsAmount}
use Rattle.silage_meaning.specs.Instances.{Site}
use Rattle.silage_meaning.specs.Value.{Words}
use Rattle.type_rules.specs.TypedTree.{TypedExpr, node}
use Rattle.type_rules.specs.TypedValue.{as_it_is, by_amount, HasTypedValue}
use Rattle.type_rules.specs.Translation.{one, two, three}

-- a format multiplied by an amount
abbrev pub by_bits : Format → ℕ → Format
by_bits fmt k = record fmt { shift = fmt.shift *ℤ pos k }

module _ (p : Program) (s : Site) (words : Words) (n : ℕ) where
  abbrev Has : TypedExpr → ℤ → Type 0
  Has t v = HasTypedValue p s words n t v

  pub one_given : (op : Op) (fmt : Format) (t : TypedExpr) (a v : ℤ)
      → Has t a
      → IsApply op fmt a (pos 0) (pos 0) v
      → Has (node op fmt (one t) None) v
  one_given op fmt t a v h is = (fmt, a ∷ [], as_it_is, (h, tt), is)

  pub one_taken : (op : Op) (fmt : Format) (t : TypedExpr) (v : ℤ)
      → Has (node op fmt (one t) None) v
      → (a : ℤ) × Has t a × IsApply op fmt a (pos 0) (pos 0) v
  one_taken op fmt t v (_, [], as_it_is, h, is) = absurd h
  one_taken op fmt t v (_, a ∷ [], as_it_is, h, is) = (a, h.0, is)
  one_taken op fmt t v (_, a ∷ b ∷ rest, as_it_is, h, is) = absurd h.1

  pub two_given : (op : Op) (fmt : Format) (t u : TypedExpr) (a b v : ℤ)
      → Has t a
      → Has u b
      → IsApply op fmt a b (pos 0) v
      → Has (node op fmt (two t u) None) v
  two_given op fmt t u a b v h k is = (fmt, a ∷ b ∷ [], as_it_is, (h, (k, tt)), is)

  pub two_taken : (op : Op) (fmt : Format) (t u : TypedExpr) (v : ℤ)
      → Has (node op fmt (two t u) None) v
      → (a b : ℤ) × Has t a × Has u b × IsApply op fmt a b (pos 0) v
  two_taken op fmt t u v (_, [], as_it_is, h, is) = absurd h
  two_taken op fmt t u v (_, a ∷ [], as_it_is, h, is) = absurd h.1
  two_taken op fmt t u v (_, a ∷ b ∷ [], as_it_is, h, is) = (a, b, h.0, h.1.0, is)
  two_taken op fmt t u v (_, a ∷ b ∷ c ∷ rest, as_it_is, h, is) = absurd h.1.1

  pub three_given : (op : Op) (fmt : Format) (t u w : TypedExpr) (a b c v : ℤ)
      → Has t a
      → Has u b
      → Has w c
      → IsApply op fmt a b c v
      → Has (node op fmt (three t u w) None) v
  three_given op fmt t u w a b c v h k l is = (fmt, a ∷ b ∷ c ∷ [], as_it_is, (h, (k, (l, tt))), is)

  pub three_taken : (op : Op) (fmt : Format) (t u w : TypedExpr) (v : ℤ)
      → Has (node op fmt (three t u w) None) v
      → (a b c : ℤ) × Has t a × Has u b × Has w c × IsApply op fmt a b c v
  three_taken op fmt t u w v (_, [], as_it_is, h, is) = absurd h
  three_taken op fmt t u w v (_, a ∷ [], as_it_is, h, is) = absurd h.1
  three_taken op fmt t u w v (_, a ∷ b ∷ [], as_it_is, h, is) = absurd h.1.1
  three_taken op fmt t u w v (_, a ∷ b ∷ c ∷ [], as_it_is, h, is) = (a, b, c, h.0, h.1.0, h.1.1.0, is)
  three_taken op fmt t u w v (_, a ∷ b ∷ c ∷ d ∷ rest, as_it_is, h, is) = absurd h.1.1.1

  pub shift_given : (op : Op) (fmt : Format) (t : TypedExpr) (m : Manifest) (a : ℤ) (k : ℕ) (v : ℤ)
      → Has t a
      → IsAmount s.indices m k
      → IsApply op (by_bits fmt k) a (pos 0) (pos 0) v
      → Has (node op fmt (one t) (Some m)) v
  shift_given op fmt t m a k v h amount is = (by_bits fmt k, a ∷ [], by_amount amount, (h, tt), is)

  pub shift_taken : (op : Op) (fmt : Format) (t : TypedExpr) (m : Manifest) (v : ℤ)
      → Has (node op fmt (one t) (Some m)) v
      → (a : ℤ) × (k : ℕ) × Has t a × IsAmount s.indices m k × IsApply op (by_bits fmt k) a (pos 0) (pos 0) v
  shift_taken op fmt t m v (_, [], by_amount amount, h, is) = absurd h
  shift_taken op fmt t m v (_, a ∷ [], by_amount {k = k} amount, h, is) = (a, k, h.0, amount, is)
  shift_taken op fmt t m v (_, a ∷ b ∷ rest, by_amount amount, h, is) = absurd h.1
