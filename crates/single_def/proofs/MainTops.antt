-- What stands at the position of main.
use Rattle.std.proofs.Common.{◌≡◌, ◌∙◌, ℕ, List, map, slice_get, Option, Some, None, option_map, Bor, sym, ap}
use Rattle.std.specs.Option.{option_copied}
use Rattle.std.proofs.lemmas.Option.{slice_get-map}
use Rattle.fault_order.specs.Private.FirstMet.{first}
use Rattle.silage_syntax.specs.declared.tree.ConstDef.{ConstDef}
use Rattle.silage_syntax.specs.declared.tree.Top.{Top as RustTop}
use Rattle.silage_syntax.specs.Tree.{Func, Top, table, function, view_top}
use Rattle.element_rules.specs.ElementRules.{word_rules}

module _ (tops : List RustTop) (k : ℕ) (o : Option (Bor RustTop)) (is : option_copied o ≡ slice_get tops k) where
  pub no_top_at : {A : Type 0} (f : Func) → o ≡ None → slice_get (map view_top tops) k ≡ Some (function f) → A
  no_top_at f none e =
      let missing : None ≡ slice_get (map view_top tops) k =
      sym (slice_get-map view_top tops k ∙ ap (option_map view_top) (sym is)
      ∙ ap (λ o. option_map view_top (option_copied o)) none) in
      absurd (cc (missing, e))

  module _ (t : Bor RustTop) (some : o ≡ Some t) where
    pub top_at : (x : Top) → view_top t.now ≡ x → slice_get (map view_top tops) k ≡ Some x
    top_at x e =
        slice_get-map view_top tops k ∙ ap (option_map view_top) (sym is)
        ∙ ap (λ o. option_map view_top (option_copied o)) some ∙ ap Some e

    pub no_table : {A : Type 0} (c : ConstDef) (f : Func)
        → view_top t.now ≡ table c
        → slice_get (map view_top tops) k ≡ Some (function f)
        → A
    no_table c f e main =
        let there = top_at (table c) e in
        absurd (cc (there, main))

    pub same_function : (g f : Func)
        → view_top t.now ≡ function g
        → slice_get (map view_top tops) k ≡ Some (function f)
        → first (word_rules g) ≡ first (word_rules f)
    same_function g f e main =
        let same : g ≡ f = once (top_at (function g) e) main in
        ap (λ h. first (word_rules h)) same
      where
        once : {o : Option Top} {g f : Func} → o ≡ Some (function g) → o ≡ Some (function f) → g ≡ f
        once a b = cc
