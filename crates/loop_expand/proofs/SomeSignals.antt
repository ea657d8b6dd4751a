-- Each function of a program that was read from a source has a parameter and a result.
use Rattle.std.proofs.Common.{◌≡◌, refl, subst, arith, ℕ, zero, suc, ◌≤◌, List, length, slice_get, Some}
use Rattle.lists.proofs.Places.{some_once}
use Rattle.silage_lex.specs.declared.Token.{Token}
use Rattle.silage_syntax.specs.declared.tree.Decl.{Decl}
use Rattle.silage_syntax.specs.Grammar as g
use Rattle.silage_syntax.specs.Grammar.{Role, IsTops, IsDecl, IsList, IsResults, Derives}
use Rattle.silage_syntax.specs.Tree.{Func, Top, function, Program}
use Rattle.loop_expand.specs.Checked.{HasParametersAndResults}

module _ (ts : List Token) where
  some_listed : (i j : ℕ) (ds : List Decl) → IsList ts Decl (IsDecl ts) i ds j → 1 ≤ length ds
  some_listed i j _ (g.last one) = omega arith
  some_listed i j _ (g.more one comma rest) = omega arith

  some_results : (i j : ℕ) (ds : List Decl) → IsResults ts i ds j → 1 ≤ length ds
  some_results i j _ (g.one_result one) = omega arith
  some_results i _ ds (g.results open_ all close) = some_listed _ _ ds all

  abbrev HasBoth : Func → Type 0
  HasBoth f = (1 ≤ length f.params) × (1 ≤ length f.results)

  abbrev HasBothIn : Top → Type 0
  HasBothIn (function f) = HasBoth f
  HasBothIn _ = Unit {0}

  tops_have : (tops : List Top) (i : ℕ) (rs : List Role) (j : ℕ)
      → IsTops ts i tops rs j
      → (k : ℕ) (f : Func)
      → slice_get tops k ≡ Some (function f)
      → HasBoth f
  tops_have tops i rs j g.no_tops k f e = absurd (cc e)
  tops_have tops i rs j (g.one_top {rest = others} first rest) (suc k) f e = tops_have others _ _ _ rest k f e
  tops_have tops i rs j (g.one_top (g.is_table _ _ _ _ _ _ _) rest) zero f e = absurd (cc e)
  tops_have tops i rs j (g.one_top (g.is_function {ps = ps} {rs = results} _ _ _ params _ all _ _ _ _ _ _) rest) zero f
      e =
      subst HasBothIn (some_once refl e) (some_listed _ _ ps params, some_results _ _ results all)

pub parameters_and_results : (ts : List Token) (p : Program) → Derives ts p → HasParametersAndResults p
parameters_and_results ts p (rs, is) k f e = tops_have ts p.tops 0 rs (length ts) is k f e
