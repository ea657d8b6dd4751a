-- The rules on a conditional and on a loop, one after another, from the lists that they were made of.
use Rattle.std.proofs.Common.{◌≡◌, ℕ, List, Vec, Box, Result, Ok, Err, IsErrAnd, sym, ap, ◌∙◌}
use Rattle.std.specs.Global.{Global}
use Rattle.silage_syntax.specs.declared.tree.Expr.{Expr as RustExpr, Choose}
use Rattle.silage_syntax.specs.declared.tree.Manifest.{Manifest as RustManifest}
use Rattle.silage_syntax.specs.declared.tree.Item.{Item as RustItem, Loop}
use Rattle.silage_syntax.specs.Tree.{view_expr, view_arms, view_manifest, view_item, view_items}
use Rattle.silage_syntax.proofs.Rows.{view_Choose, view_Loop}
use Rattle.fault_order.specs.Rules.{parts}
use Rattle.fault_order.specs.Private.FirstMet.{first, ◌>>◌}
use Rattle.fault_order.proofs.TableFaults.{then_ok, err_is}
use Rattle.name_rules.specs.Contexts.{Context, inside}
use Rattle.name_rules.specs.NameRules.{expr_rules, branch_rules, head_rules, item_rules, items_rules}
use Rattle.name_rules.specs.declared.fault.NameFault.{NameFault}

-- a conditional is met by its branches and then its last value
module _ (c : Context) (e : RustExpr) (at : ℕ) (v : Vec (RustExpr × RustExpr) Global) (b : Box RustExpr Global)
    (is : e ≡ Choose at v b) where
  abbrev first_arms : List (RustExpr × RustExpr) → Result (Unit {0}) NameFault
  first_arms arms = first (parts (branch_rules c (view_arms arms)))

  whole_choice : first (expr_rules c (view_expr e))
      ≡ first_arms v.items >> (first (expr_rules c (view_expr b.value)) >> Ok tt)
  whole_choice = ap (λ x. first (expr_rules c x)) (ap view_expr is ∙ view_Choose at v b)

  pub arms_fail : (arms : List (RustExpr × RustExpr)) (r : Result (Unit {0}) NameFault) (err : NameFault)
      → arms ≡ v.items
      → Err err ≡ first_arms arms
      → IsErrAnd r (λ x. x ≡ err)
      → r ≡ first (expr_rules c (view_expr e))
  arms_fail arms r err a h fails =
      let met : first_arms v.items ≡ Err err = sym (h ∙ ap first_arms a) in
      err_is r err fails ∙ sym (whole_choice ∙ ap (λ x. x >> (first (expr_rules c (view_expr b.value)) >> Ok tt)) met)

  pub arms_pass : (arms : List (RustExpr × RustExpr)) (last : RustExpr) (r : Result (Unit {0}) NameFault)
      → arms ≡ v.items
      → last ≡ b.value
      → Ok tt ≡ first_arms arms
      → r ≡ first (expr_rules c (view_expr last))
      → r ≡ first (expr_rules c (view_expr e))
  arms_pass arms last r a l h g =
      let met : first_arms v.items ≡ Ok tt = sym (h ∙ ap first_arms a) in
      let rest : first (expr_rules c (view_expr b.value)) ≡ r =
      sym (g ∙ ap (λ x. first (expr_rules c (view_expr x))) l) in
      sym (whole_choice ∙ ap (λ x. x >> (first (expr_rules c (view_expr b.value)) >> Ok tt)) met ∙ then_ok _ ∙ rest)

-- a loop is met by its index and bounds and then its items
module _ (c : Context) (x : RustItem) (index : List ℕ) (lo hi : RustManifest) (v : Vec RustItem Global) (at : ℕ)
    (is : x ≡ Loop index lo hi v at) where
  abbrev head : Result (Unit {0}) NameFault
  head = first (head_rules c index (view_manifest lo) (view_manifest hi) at)

  abbrev first_items : List RustItem → Result (Unit {0}) NameFault
  first_items xs = first (parts (items_rules (inside index c) (view_items xs)))

  whole_loop : first (item_rules c (view_item x)) ≡ head >> (first_items v.items >> Ok tt)
  whole_loop = ap (λ y. first (item_rules c y)) (ap view_item is ∙ view_Loop index lo hi v at)

  pub head_fails : (r : Result (Unit {0}) NameFault) (err : NameFault)
      → Err err ≡ head
      → IsErrAnd r (λ e. e ≡ err)
      → r ≡ first (item_rules c (view_item x))
  head_fails r err h fails = err_is r err fails ∙ ap (λ s. s >> (first_items v.items >> Ok tt)) h ∙ sym whole_loop

  pub head_passes : (xs : List RustItem) (r : Result (Unit {0}) NameFault)
      → xs ≡ v.items
      → Ok tt ≡ head
      → r ≡ first_items xs
      → r ≡ first (item_rules c (view_item x))
  head_passes xs r a h g =
      g ∙ ap first_items a ∙ sym (then_ok (first_items v.items)) ∙ ap (λ s. s >> (first_items v.items >> Ok tt)) h
      ∙ sym whole_loop
