-- What holds of a program whose names have no fault.
use Rattle.std.proofs.Common.{◌≡◌, ◌&&◌, ℕ, zero, suc, List, [], ◌∷◌, ◌++◌, map, Bool, true, false, IsTrue, slice_get}
use Rattle.std.proofs.Common.{Some, Result, Ok, Err, refl}
use Rattle.std.specs.List.{list_all}
use Rattle.lists.proofs.Bools.{first_true}
use Rattle.fault_order.specs.Ranked.{IsClear}
use Rattle.fault_order.specs.Rules.{Rules, each, faults}
use Rattle.fault_order.specs.Private.FirstMet.{first, first_in}
use Rattle.fault_order.proofs.FirstFaults.{Answers}
use Rattle.fault_order.proofs.TableFaults.{first_answers, then_parts, rule_holds}
use Rattle.silage_syntax.specs.declared.tree.Decl.{Decl}
use Rattle.silage_syntax.specs.Tree.{Top, table, function, Program}
use Rattle.silage_syntax.specs.Names.{decls}
use Rattle.name_rules.specs.TopNames.{top_name, top_at, top_names}
use Rattle.name_rules.specs.FirstTops.{IsDistinct}
use Rattle.name_rules.specs.Meanings.{are_dims, is_signal_type}
use Rattle.name_rules.specs.NameRules.{decl_rules, signal_rules, top_rules, all_top_rules}
use Rattle.name_rules.specs.NameFaults.{name_faults}
use Rattle.name_rules.specs.declared.fault.NameFault.TheVariants.{Twice}
use Rattle.element_rules.specs.Sizes.{AreAllSized, top_is_sized}

record TopAt (tops : List Top) (k : ℕ) : Type 0 where
  top : Top
  stands : slice_get tops k ≡ Some top

top_at_name : (tops : List Top) (k : ℕ) (name : List ℕ) → slice_get (map top_name tops) k ≡ Some name → TopAt tops k
top_at_name [] k name e = absurd (cc)
top_at_name (t ∷ tops) zero name e = record { top = t; stands = refl }
top_at_name (t ∷ tops) (suc k) name e =
    let rest = top_at_name tops k name e in record { top = rest.top; stands = rest.stands }

pub names_apart : (p : Program) → IsClear (name_faults p) → IsDistinct (top_names p)
names_apart p clear k doubled =
    let at = top_at_name p.tops k doubled.name doubled.here in
    clear (zero ∷ k ∷ []) (Twice (top_at at.top)) (at.top, at.stands, doubled, refl)

pub clear_first : {F : Type 0} (R : Rules F) → IsClear (faults R) → first R ≡ Ok tt
clear_first R clear = by (first R) (first_answers R)
  where
    by : (r : Result (Unit {0}) _) → Answers (faults R) r → r ≡ Ok tt
    by (Ok u) a = refl
    by (Err e) a = absurd (clear a.rank e a.here)

module _ (tops : List (List ℕ)) where
  decls_sized : (signals : List (List ℕ)) (ds : List Decl)
      → first_in (signal_rules tops signals ds) ≡ Ok tt
      → IsTrue (list_all (λ (d : Decl). are_dims d.dims) ds)
  decls_sized signals [] e = refl
  decls_sized signals (d ∷ ds) e =
      let parts =
      then_parts (first (decl_rules tops signals d)) (first_in (signal_rules tops (signals ++ d.name ∷ []) ds)) e in
      let own = then_parts _ _ parts.0 in
      let dims : are_dims d.dims ≡ true = first_true (are_dims d.dims) (is_signal_type d.ty) (rule_holds _ _ own.0) in
      rw dims (decls_sized (signals ++ d.name ∷ []) ds parts.1)

top_sized : (p : Program) (t : Top) → first (top_rules p t) ≡ Ok tt → IsTrue (top_is_sized t)
top_sized p (table c) e = refl
top_sized p (function f) e =
    let parts = then_parts (first_in (signal_rules (top_names p) [] (decls f))) _ e in
    decls_sized (top_names p) [] (decls f) parts.0

true_is : (b : Bool) → IsTrue b → b ≡ true
true_is true h = refl
true_is false h = absurd (cc)

tops_sized : (p : Program) (tops : List Top)
    → first_in (each (top_rules p) tops) ≡ Ok tt
    → IsTrue (list_all top_is_sized tops)
tops_sized p [] e = refl
tops_sized p (t ∷ tops) e =
    let parts = then_parts (first (top_rules p t)) (first_in (each (top_rules p) tops)) e in
    let own : top_is_sized t ≡ true = true_is (top_is_sized t) (top_sized p t parts.0) in
    rw own (tops_sized p tops parts.1)

pub all_sized : (p : Program) → IsClear (name_faults p) → AreAllSized p
all_sized p clear = tops_sized p p.tops (clear_first (all_top_rules p) (λ r f h. clear (suc zero ∷ r) f h))
