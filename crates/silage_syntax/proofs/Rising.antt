-- What the grammar reads ends no earlier than it begins.
use Rattle.std.proofs.Common.{arith, ℕ, ◌+◌, ◌≤◌, List, Option}
use Rattle.silage_lex.specs.declared.Token.{Token}
use Rattle.silage_syntax.specs.declared.tree.Lit.{Lit}
use Rattle.fix_word.specs.declared.types.FixType.{FixType}
use Rattle.fix_word.specs.declared.types.Mode.{Mode}
use Rattle.silage_syntax.specs.Tree.{Manifest, Place, Expr, Item, Items}
use Rattle.silage_syntax.specs.Grammar as g
use Rattle.silage_syntax.specs.Grammar.{IsSigned, IsManifest, IsMode, IsFix, IsSubscripts, IsDelay, IsExpr}
use Rattle.silage_syntax.specs.Grammar.{IsTargetSubscripts, IsTarget, IsTargets, IsArguments, IsInitialValue, IsItem}
use Rattle.silage_syntax.specs.Grammar.{IsItems, Role, ManifestRule, ExprRule}

module _ (ts : List Token) where
  pub manifest_rises : (r : ManifestRule) (i : ℕ) (m : Manifest) (j : ℕ) → IsManifest ts r i m j → i ≤ j
  manifest_rises r i m j (g.terms a b) = omega (arith, manifest_rises _ _ _ _ a, manifest_rises _ _ _ _ b)
  manifest_rises r i m j g.no_term = omega arith
  manifest_rises r i m j (g.one_term o a b) = omega (arith, manifest_rises _ _ _ _ a, manifest_rises _ _ _ _ b)
  manifest_rises r i m j (g.factors a b) = omega (arith, manifest_rises _ _ _ _ a, manifest_rises _ _ _ _ b)
  manifest_rises r i m j g.no_factor = omega arith
  manifest_rises r i m j (g.one_factor o a b) = omega (arith, manifest_rises _ _ _ _ a, manifest_rises _ _ _ _ b)
  manifest_rises r i m j (g.minus_factor o a) = omega (arith, manifest_rises _ _ _ _ a)
  manifest_rises r i m j (g.primary_factor a) = manifest_rises _ _ _ _ a
  manifest_rises r i m j (g.whole_primary o) = omega arith
  manifest_rises r i m j (g.name_primary o) = omega arith
  manifest_rises r i m j (g.paren_primary o a c) = omega (arith, manifest_rises _ _ _ _ a)

  mode_rises : (i : ℕ) (m : Mode) (j : ℕ) → IsMode ts i m j → i ≤ j
  mode_rises i m j (g.trunc a) = omega arith
  mode_rises i m j (g.round a) = omega arith
  mode_rises i m j (g.round_sat a b c) = omega arith
  mode_rises i m j (g.sat a) = omega arith

  pub fix_rises : (i : ℕ) (f : FixType) (j : ℕ) → IsFix ts i f j → i ≤ j
  fix_rises i f j (g.no_mode a b c d e h) = omega arith
  fix_rises i f j (g.with_mode a b c d e h k l) = omega (arith, mode_rises _ _ _ k)

  subs_rise : (i : ℕ) (ms : List Manifest) (j : ℕ) → IsSubscripts ts i ms j → i ≤ j
  subs_rise i ms j g.no_sub = omega arith
  subs_rise i ms j (g.one_sub a b c) = omega (arith, manifest_rises _ _ _ _ b)
  subs_rise i ms j (g.two_subs a b c d e h) = omega (arith, manifest_rises _ _ _ _ b, manifest_rises _ _ _ _ e)

  delay_rises : (i : ℕ) (d : Option Manifest) (j : ℕ) → IsDelay ts i d j → i ≤ j
  delay_rises i d j g.no_delay = omega arith
  delay_rises i d j (g.delay a b) = omega (arith, manifest_rises _ _ _ _ b)

  pub expr_rises : (r : ExprRule) (i : ℕ) (e : Expr) (j : ℕ) → IsExpr ts r i e j → i ≤ j
  expr_rises r i e j (g.chain a b) = omega (arith, expr_rises _ _ _ _ a, expr_rises _ _ _ _ b)
  expr_rises r i e j g.no_more = omega arith
  expr_rises r i e j (g.one_more o a b) = omega (arith, expr_rises _ _ _ _ a, expr_rises _ _ _ _ b)
  expr_rises r i e j (g.no_comparison a) = expr_rises _ _ _ _ a
  expr_rises r i e j (g.comparison_of a o b) = omega (arith, expr_rises _ _ _ _ a, expr_rises _ _ _ _ b)
  expr_rises r i e j (g.shifts a b) = omega (arith, expr_rises _ _ _ _ a, expr_rises _ _ _ _ b)
  expr_rises r i e j g.no_shift = omega arith
  expr_rises r i e j (g.one_shift o m a) = omega (arith, manifest_rises _ _ _ _ m, expr_rises _ _ _ _ a)
  expr_rises r i e j (g.negative_number a b) = omega arith
  expr_rises r i e j (g.negated o n a) = omega (arith, expr_rises _ _ _ _ a)
  expr_rises r i e j (g.denied o a) = omega (arith, expr_rises _ _ _ _ a)
  expr_rises r i e j (g.primary a) = expr_rises _ _ _ _ a
  expr_rises r i e j (g.number a) = omega arith
  expr_rises r i e j (g.truth a) = omega arith
  expr_rises r i e j (g.place n s d) = omega (arith, subs_rise _ _ _ s, delay_rises _ _ _ d)
  expr_rises r i e j (g.cast_of f o a c) = omega (arith, fix_rises _ _ _ f, expr_rises _ _ _ _ a)
  expr_rises r i e j (g.paren o a c) = omega (arith, expr_rises _ _ _ _ a)
  expr_rises r i e j (g.choice o a b c d) =
      omega (arith, expr_rises _ _ _ _ a, expr_rises _ _ _ _ c, expr_rises _ _ _ _ d)
  expr_rises r i e j (g.one_arm o a b c d) =
      omega (arith, expr_rises _ _ _ _ a, expr_rises _ _ _ _ c, expr_rises _ _ _ _ d)
  expr_rises r i e j (g.last_arm o a c) = omega (arith, expr_rises _ _ _ _ a)

  target_subs_rise : (i : ℕ) (ms : List Manifest) (rs : List Role) (j : ℕ) → IsTargetSubscripts ts i ms rs j → i ≤ j
  target_subs_rise i ms rs j g.no_target_sub = omega arith
  target_subs_rise i ms rs j (g.one_target_sub a b c) = omega (arith, manifest_rises _ _ _ _ b)
  target_subs_rise i ms rs j (g.two_target_subs a b c d e h) =
      omega (arith, manifest_rises _ _ _ _ b, manifest_rises _ _ _ _ e)

  pub target_rises : (i : ℕ) (p : Place) (rs : List Role) (j : ℕ) → IsTarget ts i p rs j → i + 1 ≤ j
  target_rises i p rs j (g.target n s) = target_subs_rise _ _ _ _ s

  pub targets_rise : (i : ℕ) (ps : List Place) (rs : List Role) (j : ℕ) → IsTargets ts i ps rs j → i + 1 ≤ j
  targets_rise i ps rs j (g.last_target a) = target_rises _ _ _ _ a
  targets_rise i ps rs j (g.more_targets a c b) = omega (arith, target_rises _ _ _ _ a, targets_rise _ _ _ _ b)

  pub args_rise : (i : ℕ) (es : List Expr) (rs : List Role) (j : ℕ) → IsArguments ts i es rs j → i ≤ j
  args_rise i es rs j (g.last_arg a) = expr_rises _ _ _ _ a
  args_rise i es rs j (g.more_args a c b) = omega (arith, expr_rises _ _ _ _ a, args_rise _ _ _ _ b)

  signed_rises : (i : ℕ) (l : Lit) (j : ℕ) → IsSigned ts i l j → i ≤ j
  signed_rises i l j (g.positive a) = omega arith
  signed_rises i l j (g.negative a b) = omega arith

  initial_value_rises : (i : ℕ) (l : Lit) (j : ℕ) → IsInitialValue ts i l j → i ≤ j
  initial_value_rises i l j (g.signed a) = signed_rises _ _ _ a
  initial_value_rises i l j (g.truth_value a) = omega arith

  mutual
    pub item_rises : (i : ℕ) (x : Item) (rs : List Role) (j : ℕ) → IsItem ts i x rs j → i + 1 ≤ j
    item_rises i x rs j (g.is_equation p d e s) = omega (arith, target_rises _ _ _ _ p, expr_rises _ _ _ _ e)
    item_rises i x rs j (g.is_call p d n o a c s) = omega (arith, target_rises _ _ _ _ p, args_rise _ _ _ _ a)
    item_rises i x rs j (g.is_calls o p c d n u a v s) = omega (arith, targets_rise _ _ _ _ p, args_rise _ _ _ _ a)
    item_rises i x rs j (g.is_loop o n c lo t hi u v b xs e s) =
        omega (arith, manifest_rises _ _ _ _ lo, manifest_rises _ _ _ _ hi, items_rise _ _ _ _ xs)
    item_rises i x rs j (g.is_initial p o a d v s) =
        omega (arith, target_rises _ _ _ _ p, manifest_rises _ _ _ _ a, initial_value_rises _ _ _ v)

    pub items_rise : (i : ℕ) (xs : Items) (rs : List Role) (j : ℕ) → IsItems ts i xs rs j → i ≤ j
    items_rise i xs rs j g.no_items = omega arith
    items_rise i xs rs j (g.one_item a b) = omega (arith, item_rises _ _ _ _ a, items_rise _ _ _ _ b)
