-- The tables and functions are typed one after another.
use Rattle.std.proofs.Common.{◌≡◌, ◌≢◌, ◌∙◌, ℕ, ◌+◌, ◌<◌, ◌≤◌, List, [], ◌∷◌, ◌++◌, map, filter_map, drop, length}
use Rattle.std.proofs.Common.{get_or, Result, Ok, Err, IsErrAnd, refl, sym, ap, ap₂, subst, append_assoc, append-nil}
use Rattle.std.proofs.Common.{arith}
use Rattle.std.specs.Prelude.{All}
use Rattle.std.proofs.lemmas.List.{drop_more, drop_all, drop-map, get_or-map, length-map}
use Rattle.fault_order.specs.Rules.{parts, each}
use Rattle.fault_order.specs.Private.FirstMet.{first, ◌>>◌}
use Rattle.silage_syntax.specs.declared.tree.Top.{Top as RustTop}
use Rattle.silage_syntax.specs.Tree.{Top, table, function, Program, view_top}
use Rattle.silage_syntax.specs.Names.{as_table}
use Rattle.type_rules.specs.TypeRules.{top_rules, type_rules}
use Rattle.type_rules.specs.TypedTree.{Typed, TypedFunc, view_typed}
use Rattle.type_rules.specs.Translation.{typed_table, typed_func, typed_funcs, typed_program}
use Rattle.type_rules.specs.declared.fault.TypeFault.{TypeFault}
use Rattle.type_rules.specs.declared.fault.TypeFault.TheVariants.{Memory}
use Rattle.type_rules.specs.declared.typed.Typed.{Typed as RustTyped}
use Rattle.type_rules.specs.declared.typed.TypedConst.{TypedConst}
use Rattle.fix_types.specs.Private.Answers.{GivesAs, with_top}
use Rattle.fix_types.proofs.Given.{first_fails, fault_given}

-- the tables and functions before position i are typed
pub record HasTyped (p : Program) (i : ℕ) (t : Typed) : Type 0 where
  pub met : first (parts (each (top_rules p) (drop i p.tops))) ≡ first (type_rules p)
  pub consts : t.consts ++ map typed_table (filter_map as_table (drop i p.tops))
      ≡ map typed_table (filter_map as_table p.tops)
  pub funcs : t.funcs ++ typed_funcs p i (drop i p.tops) ≡ typed_funcs p 0 p.tops

pub none_typed : (p : Program) → HasTyped p 0 (record { consts = []; funcs = [] })
none_typed p = record { met = refl; consts = refl; funcs = refl }

module _ (p : Program) (i : ℕ) (top : Top) (here : drop i p.tops ≡ top ∷ drop (i + 1) p.tops) (old : Typed)
    (h : HasTyped p i old) where
  abbrev rest : Result (Unit {0}) TypeFault
  rest = first (parts (each (top_rules p) (drop (i + 1) p.tops)))

  whole : first (type_rules p) ≡ first (top_rules p top) >> rest
  whole = sym h.met ∙ ap (λ (ts : List Top). first (parts (each (top_rules p) ts))) here

  pub top_fails : (r : Result RustTyped TypeFault) (e : TypeFault)
      → IsErrAnd r (λ x. x ≡ e)
      → (e ≢ Memory → first (top_rules p top) ≡ Err e)
      → GivesAs view_typed (type_rules p) (typed_program p) r
  top_fails r e fails g =
      fault_given view_typed (type_rules p) (typed_program p) r e fails
      (λ n. whole ∙ first_fails (first (top_rules p top)) rest e (g n))

  pub next_typed : (new : Typed) → first (top_rules p top) ≡ Ok tt → new ≡ with_top p i top old → HasTyped p (i + 1) new
  next_typed new passes is = record {
    met = sym (whole ∙ ap (λ (r : Result (Unit {0}) TypeFault). r >> rest) passes);
    consts =
        ap (λ (t : Typed). t.consts ++ map typed_table (filter_map as_table (drop (i + 1) p.tops))) is ∙ consts_of top
        ∙ ap (λ (ts : List Top). old.consts ++ map typed_table (filter_map as_table ts)) (sym here) ∙ h.consts;
    funcs =
        ap (λ (t : Typed). t.funcs ++ typed_funcs p (i + 1) (drop (i + 1) p.tops)) is ∙ funcs_of top
        ∙ ap (λ (ts : List Top). old.funcs ++ typed_funcs p i ts) (sym here) ∙ h.funcs;
  }
    where
      consts_of : (t : Top)
          → (with_top p i t old).consts ++ map typed_table (filter_map as_table (drop (i + 1) p.tops))
          ≡ old.consts ++ map typed_table (filter_map as_table (t ∷ drop (i + 1) p.tops))
      consts_of (table c) = append_assoc old.consts (typed_table c ∷ []) _
      consts_of (function f) = refl

      funcs_of : (t : Top)
          → (with_top p i t old).funcs ++ typed_funcs p (i + 1) (drop (i + 1) p.tops)
          ≡ old.funcs ++ typed_funcs p i (t ∷ drop (i + 1) p.tops)
      funcs_of (table c) = refl
      funcs_of (function f) = append_assoc old.funcs (typed_func p i f ∷ []) _

pub all_typed : (p : Program) (i : ℕ) (t : RustTyped)
    → length p.tops ≤ i
    → HasTyped p i (view_typed t)
    → GivesAs view_typed (type_rules p) (typed_program p) (Ok t)
all_typed p i t past h =
    let none : drop i p.tops ≡ [] = drop_all i p.tops past in (
      sym h.met ∙ ap (λ (ts : List Top). first (parts (each (top_rules p) ts))) none,
      ap₂ (λ (cs : List TypedConst) (fs : List TypedFunc). record { consts = cs; funcs = fs })
          (sym (append-nil t.consts)
          ∙ ap (λ (ts : List Top). t.consts ++ map typed_table (filter_map as_table ts)) (sym none) ∙ h.consts)
          (sym (append-nil (view_typed t).funcs)
          ∙ ap (λ (ts : List Top). (view_typed t).funcs ++ typed_funcs p i ts) (sym none) ∙ h.funcs),
    )

-- the table or function at a position, as the definitions see it
module _ (ts : List RustTop) (i : ℕ) (x : RustTop) (within : i < length ts) (is : x ≡ get_or ts i x) where
  pub top_here : drop i (map view_top ts) ≡ view_top x ∷ drop (i + 1) (map view_top ts)
  top_here =
      drop-map view_top i ts
      ∙ ap (map view_top) (drop_more ts i x within ∙ ap (λ (y : RustTop). y ∷ drop (i + 1) ts) (sym is))
      ∙ ap (λ (rest : List Top). view_top x ∷ rest) (sym (drop-map view_top (i + 1) ts))

  pub top_at_is : (P : Top → Type 0) → All P (map view_top ts) → P (view_top x)
  top_at_is P all =
      subst P (get_or-map view_top ts i x (view_top x) within ∙ ap view_top (sym is))
      (all i (view_top x) (omega (arith, within, length-map ts view_top)))
