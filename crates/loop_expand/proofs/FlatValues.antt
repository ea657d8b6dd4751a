-- The flat expression of a typed one has its value, where the elements have the same words.
use Rattle.std.proofs.Common.{◌≡◌, refl, sym, subst, arith, ℕ, ◌<◌, ◌≤◌, length, Option}
use Rattle.std.specs.Prelude.{pos, ◌-ℤ◌}
use Rattle.std.proofs.lemmas.Int.{ints}
use Rattle.lists.specs.Rows.{Rows}
use Rattle.silage_syntax.specs.Tree.{Manifest, Place, Program}
use Rattle.silage_meaning.specs.Instances.{element, Site}
use Rattle.silage_meaning.specs.Value.{Words}
use Rattle.silage_meaning.specs.Solves.{IsSample}
use Rattle.silage_meaning.proofs.Elements.{looks_back_most}
use Rattle.element_rules.specs.declared.elements.Elements.{Elements}
use Rattle.type_rules.specs.TypedTree as typed
use Rattle.type_rules.specs.TypedValue.{HasTypedValue, HaveTypedValues, HasRead}
use Rattle.type_rules.specs.TypedValue as value
use Rattle.signal_graph.specs.Flat as flat
use Rattle.signal_graph.specs.FlatRules.{IsExpr, AreExprs}
use Rattle.signal_graph.specs.Values as flat_words
use Rattle.signal_graph.specs.Values.{value_of, values_of}
use Rattle.signal_graph.proofs.Ready.{flat_ready, result_is}
use Rattle.loop_expand.specs.FlatOf.{IsFlatRead, of_signal, of_table, IsFlatExpr, AreFlatParts}
use Rattle.loop_expand.specs.Kept.{HaveSameWords}

-- a delay that is allowed stays among the samples
pub sample_ago : (rows n ago : ℕ) → n < rows → ago ≤ 1023 → IsSample rows (pos n -ℤ pos ago)
sample_ago rows n ago inside most = record { first = omega (arith, ints); last = omega (arith, ints) }

module _ (p : Program) (es : Elements) (stream : Rows) (words : Words) (numbered : flat_words.Words)
    (same : HaveSameWords es stream words numbered) (n : ℕ) (inside : n < length stream) (s : Site)
    (f : flat.Program) where
  read_given : (place : Place) (delay : Option Manifest) (y : flat.Expr)
      → IsFlatRead p es s place delay y
      → HasRead p s words n place delay (value_of numbered n y)
  read_given place delay _ (of_signal d k ago k' decl is back number_is) =
      value.signal d k ago decl is back
      (same k' (element s.instance d k) (pos n -ℤ pos ago) number_is
      (sample_ago (length stream) n ago inside (looks_back_most s.indices delay ago back)))
  read_given place delay _ (of_table k c v undeclared named placed undelayed word) =
      value.number k c undeclared named placed undelayed word

  mutual
    pub expr_given : (t : typed.TypedExpr) (y : flat.Expr)
        → IsFlatExpr p es s t y
        → IsExpr f y
        → HasTypedValue p s words n t (value_of numbered n y)
    expr_given (typed.raw z) y is sound = subst (λ (x : flat.Expr). value_of numbered n x ≡ z) (sym is) refl
    expr_given (typed.read place delay) y is sound = read_given place delay y is
    expr_given (typed.node o fmt parts amount) y (at, ys, format, these, e) sound =
        let ready = subst (λ (x : flat.Expr). IsExpr f x) e sound in
        subst (λ (x : flat.Expr). HasTypedValue p s words n (typed.node o fmt parts amount) (value_of numbered n x))
        (sym e) (
          at,
          values_of numbered n ys,
          format,
          parts_given parts ys these ready.1,
          result_is o at (values_of numbered n ys) (flat_ready o at ready.0.calculation ready.0.fmt),
        )

    parts_given : (parts : typed.Parts) (ys : flat.Parts)
        → AreFlatParts p es s parts ys
        → AreExprs f ys
        → HaveTypedValues p s words n parts (values_of numbered n ys)
    parts_given typed.no_part ys e sound =
        subst (λ (x : flat.Parts). HaveTypedValues p s words n typed.no_part (values_of numbered n x)) (sym e) tt
    parts_given (typed.part x rest) ys (y, others, is, these, e) sound =
        let sounds = subst (λ (x : flat.Parts). AreExprs f x) e sound in
        subst (λ (z : flat.Parts). HaveTypedValues p s words n (typed.part x rest) (values_of numbered n z)) (sym e)
        (expr_given x y is sounds.0, parts_given rest others these sounds.1)
