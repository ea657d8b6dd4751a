-- An expression that breaks no rule has the values of its typed expression, and no others.
use Rattle.std.proofs.Common.{◌≡◌, ◌≢◌, ◌∙◌, refl, sym, subst, ap, ℕ, ◌+◌, List, Option, Some, None, ℤ, pos, ◌+ℤ◌, ◌-ℤ◌}
use Rattle.std.proofs.Common.{◌*ℤ◌, neg_ℤ, ◌≤ℤ◌, ◌<ℤ◌, true, false, Ok, ◌⊎◌}
use Rattle.std.specs.Prelude.{slice_get, option_map}
use Rattle.std.specs.Option.{option_or}
use Rattle.std.proofs.lemmas.Option.{slice_get-map}
use Rattle.lists.proofs.Places.{some_once}
use Rattle.fault_order.specs.Rules.{Rules, parts, none, ◌▸◌, unless}
use Rattle.fault_order.specs.Private.FirstMet.{first, ◌>>◌}
use Rattle.fault_order.proofs.TableFaults.{then_parts, rule_holds}
use Rattle.fix_word.specs.Operations.{IsApply, IsTruth, IsSet}
use Rattle.fix_word.specs.Words.{IsForm, IsShape}
use Rattle.fix_word.specs.declared.types.FixType.{FixType}
use Rattle.fix_word.specs.declared.types.Format.{Format}
use Rattle.fix_word.specs.declared.types.SigType.{SigType}
use Rattle.fix_word.specs.declared.types.SigType.TheVariants.{Fix, Bool as Truths}
use Rattle.fix_word.specs.declared.operation.Op.{Op}
use Rattle.fix_word.specs.declared.operation.Op.TheVariants as does
use Rattle.silage_syntax.specs.declared.tree.BinOp.TheVariants as op
use Rattle.silage_syntax.specs.declared.tree.ConstDef.{ConstDef}
use Rattle.silage_syntax.specs.declared.tree.Decl.{Decl}
use Rattle.silage_syntax.specs.declared.tree.Lit.{Lit}
use Rattle.silage_syntax.specs.Tree.{Manifest, Place, Expr, literal, read, negate, not, binary, shift, cast, choose}
use Rattle.silage_syntax.specs.Tree.{Branches, no_branch, branch, Func, Program}
use Rattle.silage_syntax.specs.Names.{table_named}
use Rattle.silage_meaning.specs.Instances.{Site}
use Rattle.silage_meaning.specs.Types.{HasShapeOf, name_type, own_type, factor_type, common_type, table_type}
use Rattle.silage_meaning.specs.Value.{Words, IsValue, IsChosen, IsRead, signal, number, IsEntry, IsFitted}
use Rattle.silage_meaning.specs.Value.{IsConverted, HaveValues, IsProduct, IsComparison, IsCast}
use Rattle.type_rules.specs.TypeRules.{is_same_shape, misfit, name_rules, part_type, is_no_truth, cast_rules}
use Rattle.type_rules.specs.TypeRules.{product_rules, comparison_rules, expr_rules, branch_rules, literal_rules}
use Rattle.type_rules.specs.TypedTree.{TypedExpr, node}
use Rattle.type_rules.specs.TypedValue as typed
use Rattle.type_rules.specs.TypedValue.{HasTypedValue, HasRead}
use Rattle.type_rules.specs.Translation.{word_of, fitted, rounded, no_format, chosen, one, two, typed_against}
use Rattle.type_rules.specs.Translation.{typed_product, typed_cast, typed_expr, typed_choice, one_bit, typed_table}
use Rattle.type_rules.specs.declared.fault.TypeFault.{TypeFault}
use Rattle.type_rules.specs.declared.fault.TypeFault.TheVariants.{Mismatch}
use Rattle.type_rules.specs.Private.Sound.{IsSoundType, IsSound, AreSound, HasSoundTypes}
use Rattle.type_rules.proofs.Literals.{Passes, raw_there, raw_back}
use Rattle.type_rules.proofs.Tests.{shape_is, sound_shape}
use Rattle.type_rules.proofs.TypedForms.{fit_form, form_fit, left_form, form_left, right_form, form_right}
use Rattle.type_rules.proofs.OwnTypes.{own_sound, factor_sound, common_sound}
use Rattle.type_rules.proofs.TypedNodes.{one_given, one_taken, two_given, two_taken, three_given, three_taken}
use Rattle.type_rules.proofs.TypedNodes.{shift_given, shift_taken}

-- the numbers of tables that may be read pass
pub record HasGoodTables (p : Program) : Type 0 where
  pub words : (name : List ℕ) (c : ConstDef) (k : ℕ) (l : Lit)
      → table_named p name ≡ Some c
      → slice_get c.words k ≡ Some l
      → Passes (literal_rules l (Fix c.ty))

pub two_pass : (A B : Rules TypeFault) → Passes (parts (A ▸ B ▸ none)) → Passes A × Passes B
two_pass A B h =
    let q = then_parts (first A) (first B >> Ok tt) h in
    (q.0, (then_parts (first B) (Ok tt) q.1).0)

pub three_pass : (A B C : Rules TypeFault) → Passes (parts (A ▸ B ▸ C ▸ none)) → Passes A × Passes B × Passes C
three_pass A B C h =
    let q = then_parts (first A) (first B >> (first C >> Ok tt)) h in
    let r = then_parts (first B) (first C >> Ok tt) q.1 in
    (q.0, r.0, (then_parts (first C) (Ok tt) r.1).0)

module _ (p : Program) (s : Site) (words : Words) (n : ℕ) where
  abbrev f : Func
  f = s.function

  abbrev Has : TypedExpr → ℤ → Type 0
  Has t v = HasTypedValue p s words n t v

  abbrev Is : Expr → SigType → ℤ → Type 0
  Is x ty v = IsValue p s words n x ty v

  -- the typed expression has the values of the expression, and no others
  pub record Same (x : Expr) (ty : SigType) (t : TypedExpr) : Type 0 where
    pub there : (v : ℤ) → IsValue p s words n x ty v → HasTypedValue p s words n t v
    pub back : (v : ℤ) → HasTypedValue p s words n t v → IsValue p s words n x ty v

  -- an operation on both parts
  module _ (o : Op) (fmt : Format) (R : ℤ → ℤ → ℤ → Type 0) (to : (a b v : ℤ) → R a b v → IsApply o fmt a b (pos 0) v)
      (from : (a b v : ℤ) → IsApply o fmt a b (pos 0) v → R a b v) (x y : Expr) (r q : SigType) (t u : TypedExpr)
      (e : Same x r t) (g : Same y q u) (v : ℤ) where
    both_there : HaveValues (IsValue p s words n x) r (IsValue p s words n y) q (λ a b. R a b v)
        → Has (node o fmt (two t u) None) v
    both_there h = two_given p s words n o fmt t u h.0 h.1 v (e.there h.0 h.2) (g.there h.1 h.3) (to h.0 h.1 v h.4)

    both_back : Has (node o fmt (two t u) None) v
        → HaveValues (IsValue p s words n x) r (IsValue p s words n y) q (λ a b. R a b v)
    both_back h =
        let k = two_taken p s words n o fmt t u v h in (k.0, k.1, e.back k.0 k.2, g.back k.1 k.3, from k.0 k.1 v k.4)

  -- the same with the operands in the other order
  module _ (o : Op) (fmt : Format) (R : ℤ → ℤ → ℤ → Type 0) (to : (a b v : ℤ) → R a b v → IsApply o fmt b a (pos 0) v)
      (from : (a b v : ℤ) → IsApply o fmt b a (pos 0) v → R a b v) (x y : Expr) (r q : SigType) (t u : TypedExpr)
      (e : Same x r t) (g : Same y q u) (v : ℤ) where
    turned_there : HaveValues (IsValue p s words n x) r (IsValue p s words n y) q (λ a b. R a b v)
        → Has (node o fmt (two u t) None) v
    turned_there h = two_given p s words n o fmt u t h.1 h.0 v (g.there h.1 h.3) (e.there h.0 h.2) (to h.0 h.1 v h.4)

    turned_back : Has (node o fmt (two u t) None) v
        → HaveValues (IsValue p s words n x) r (IsValue p s words n y) q (λ a b. R a b v)
    turned_back h =
        let k = two_taken p s words n o fmt u t v h in (k.1, k.0, e.back k.1 k.3, g.back k.0 k.2, from k.1 k.0 v k.4)

  fitted_to : (t : FixType) (q v : ℤ) → IsFitted t q v → IsForm q (fitted t) v
  fitted_to t q v h = fit_form t q v h.fitted

  fitted_from : (t : FixType) → IsShape t.shape → (q v : ℤ) → IsForm q (fitted t) v → IsFitted t q v
  fitted_from t shape q v h = record { shape = shape; fitted = form_fit t q v h }

  negate_same : (at : ℕ) (x : Expr) (t : FixType) (u : TypedExpr)
      → IsShape t.shape
      → Same x (Fix t) u
      → Same (negate at x) (Fix t) (node does.Neg (fitted t) (one u) None)
  negate_same at x t u shape e = record {
    there = λ v h.
        one_given p s words n does.Neg (fitted t) u h.0 v (e.there h.0 h.1) (fitted_to t (neg_ℤ h.0) v h.2);
    back = λ v h.
        let k = one_taken p s words n does.Neg (fitted t) u v h in
        (k.0, e.back k.0 k.1, fitted_from t shape (neg_ℤ k.0) v k.2);
  }

  not_same : (at : ℕ) (x : Expr) (u : TypedExpr)
      → Same x Truths u
      → Same (not at x) Truths (node does.Not no_format (one u) None)
  not_same at x u e = record {
    there = λ v h. one_given p s words n does.Not no_format u h.0 v (e.there h.0 h.1) h.2;
    back = λ v h. let k = one_taken p s words n does.Not no_format u v h in (k.0, e.back k.0 k.1, k.2);
  }

  left_same : (at : ℕ) (x : Expr) (amount : Manifest) (t : FixType) (u : TypedExpr)
      → IsShape t.shape
      → Same x (Fix t) u
      → Same (shift at true x amount) (Fix t) (node does.Pass (one_bit true t) (one u) (Some amount))
  left_same at x amount t u shape e = record {
    there = λ v h.
        shift_given p s words n does.Pass (one_bit true t) u amount h.0 h.1 v (e.there h.0 h.2) h.3
        (left_form t h.0 h.1 v h.4.fitted);
    back = λ v h. let k = shift_taken p s words n does.Pass (one_bit true t) u amount v h in
        (k.0, k.1, e.back k.0 k.2, k.3, record { shape = shape; fitted = form_left t k.0 k.1 v k.4 });
  }

  right_same : (at : ℕ) (x : Expr) (amount : Manifest) (t : FixType) (u : TypedExpr)
      → IsShape t.shape
      → Same x (Fix t) u
      → Same (shift at false x amount) (Fix t) (node does.Pass (one_bit false t) (one u) (Some amount))
  right_same at x amount t u shape e = record {
    there = λ v h.
        shift_given p s words n does.Pass (one_bit false t) u amount h.0 h.1 v (e.there h.0 h.2) h.3
        (right_form t h.0 h.1 v h.4.form);
    back = λ v h. let k = shift_taken p s words n does.Pass (one_bit false t) u amount v h in
        (k.0, k.1, e.back k.0 k.2, k.3, record { shape = shape; form = form_right t k.0 k.1 v k.4 });
  }

  -- a sum, a difference, and an operator on truth values
  add_same : (at : ℕ) (x y : Expr) (t : FixType) (u w : TypedExpr)
      → IsShape t.shape
      → Same x (Fix t) u
      → Same y (Fix t) w
      → Same (binary at op.Add x y) (Fix t) (node does.Add (fitted t) (two u w) None)
  add_same at x y t u w shape e g = record {
    there = λ v h.
        both_there does.Add (fitted t) (λ a b v. IsFitted t (a +ℤ b) v) (λ a b v k. fitted_to t (a +ℤ b) v k)
        (λ a b v k. fitted_from t shape (a +ℤ b) v k) x y (Fix t) (Fix t) u w e g v h;
    back = λ v h.
        both_back does.Add (fitted t) (λ a b v. IsFitted t (a +ℤ b) v) (λ a b v k. fitted_to t (a +ℤ b) v k)
        (λ a b v k. fitted_from t shape (a +ℤ b) v k) x y (Fix t) (Fix t) u w e g v h;
  }

  sub_same : (at : ℕ) (x y : Expr) (t : FixType) (u w : TypedExpr)
      → IsShape t.shape
      → Same x (Fix t) u
      → Same y (Fix t) w
      → Same (binary at op.Sub x y) (Fix t) (node does.Sub (fitted t) (two u w) None)
  sub_same at x y t u w shape e g = record {
    there = λ v h.
        both_there does.Sub (fitted t) (λ a b v. IsFitted t (a -ℤ b) v) (λ a b v k. fitted_to t (a -ℤ b) v k)
        (λ a b v k. fitted_from t shape (a -ℤ b) v k) x y (Fix t) (Fix t) u w e g v h;
    back = λ v h.
        both_back does.Sub (fitted t) (λ a b v. IsFitted t (a -ℤ b) v) (λ a b v k. fitted_to t (a -ℤ b) v k)
        (λ a b v k. fitted_from t shape (a -ℤ b) v k) x y (Fix t) (Fix t) u w e g v h;
  }

  and_same : (at : ℕ) (x y : Expr) (u w : TypedExpr)
      → Same x Truths u
      → Same y Truths w
      → Same (binary at op.And x y) Truths (node does.And no_format (two u w) None)
  and_same at x y u w e g = record {
    there = λ v h.
        both_there does.And no_format (λ a b v. IsTruth (IsSet a × IsSet b) v) (λ a b v k. k) (λ a b v k. k) x y Truths
        Truths u w e g v h;
    back = λ v h.
        both_back does.And no_format (λ a b v. IsTruth (IsSet a × IsSet b) v) (λ a b v k. k) (λ a b v k. k) x y Truths
        Truths u w e g v h;
  }

  or_same : (at : ℕ) (x y : Expr) (u w : TypedExpr)
      → Same x Truths u
      → Same y Truths w
      → Same (binary at op.Or x y) Truths (node does.Or no_format (two u w) None)
  or_same at x y u w e g = record {
    there = λ v h.
        both_there does.Or no_format (λ a b v. IsTruth (IsSet a ⊎ IsSet b) v) (λ a b v k. k) (λ a b v k. k) x y Truths
        Truths u w e g v h;
    back = λ v h.
        both_back does.Or no_format (λ a b v. IsTruth (IsSet a ⊎ IsSet b) v) (λ a b v k. k) (λ a b v k. k) x y Truths
        Truths u w e g v h;
  }

  -- what holds of a part against each type at which it passes
  abbrev pub SameIfPasses : Expr → SigType → Type 0
  SameIfPasses x ty = Passes (expr_rules p f x ty) → Same x ty (typed_expr p f x ty)

  -- a product of factors with these types
  module _ (x y : Expr) (t : FixType) (at : ℕ) where
    pub record SameProduct (left right : Option SigType) : Type 0 where
      pub there : (v : ℤ)
          → IsProduct left right (IsValue p s words n x) (IsValue p s words n y) t v
          → Has (typed_product left right (typed_expr p f x) (typed_expr p f y) t) v
      pub back : (v : ℤ)
          → Has (typed_product left right (typed_expr p f x) (typed_expr p f y) t) v
          → IsProduct left right (IsValue p s words n x) (IsValue p s words n y) t v

    product_same : IsShape t.shape
        → (left right : Option SigType)
        → Passes (product_rules left right (expr_rules p f x) (expr_rules p f y) at)
        → ((ty : SigType) → left ≡ Some ty → SameIfPasses x ty)
        → ((ty : SigType) → right ≡ Some ty → SameIfPasses y ty)
        → SameProduct left right
    product_same shape None right h e g = absurd (cc h)
    product_same shape (Some Truths) right h e g = absurd (cc h)
    product_same shape (Some (Fix r)) None h e g = absurd (cc h)
    product_same shape (Some (Fix r)) (Some Truths) h e g = absurd (cc h)
    product_same shape (Some (Fix r)) (Some (Fix q)) h e g =
        let k = two_pass (expr_rules p f x (Fix r)) (expr_rules p f y (Fix q)) h in
        let a = e (Fix r) refl k.0 in
        let b = g (Fix q) refl k.1 in
        record { there = λ v i. go a b v i; back = λ v i. come a b v i }
      where
        fmt : Format
        fmt = rounded t (pos (r.shape.f + q.shape.f) -ℤ pos t.shape.f)

        R : ℤ → ℤ → ℤ → Type 0
        R a b v = IsConverted t (a *ℤ b) (r.shape.f + q.shape.f) v

        go : Same x (Fix r) (typed_expr p f x (Fix r))
            → Same y (Fix q) (typed_expr p f y (Fix q))
            → (v : ℤ)
            → HaveValues (IsValue p s words n x) (Fix r) (IsValue p s words n y) (Fix q)
            (λ a b. IsConverted t (a *ℤ b) (r.shape.f + q.shape.f) v)
            → Has (node does.Mul (rounded t (pos (r.shape.f + q.shape.f) -ℤ pos t.shape.f))
            (two (typed_expr p f x (Fix r)) (typed_expr p f y (Fix q))) None)
            v
        go a b v i =
            both_there does.Mul (rounded t (pos (r.shape.f + q.shape.f) -ℤ pos t.shape.f))
            (λ a b v. IsConverted t (a *ℤ b) (r.shape.f + q.shape.f) v) (λ a b v k. k.conv)
            (λ a b v k. record { shape = shape; conv = k }) x y (Fix r) (Fix q) _ _ a b v i

        come : Same x (Fix r) (typed_expr p f x (Fix r))
            → Same y (Fix q) (typed_expr p f y (Fix q))
            → (v : ℤ)
            → Has (node does.Mul (rounded t (pos (r.shape.f + q.shape.f) -ℤ pos t.shape.f))
            (two (typed_expr p f x (Fix r)) (typed_expr p f y (Fix q))) None)
            v
            → HaveValues (IsValue p s words n x) (Fix r) (IsValue p s words n y) (Fix q)
            (λ a b. IsConverted t (a *ℤ b) (r.shape.f + q.shape.f) v)
        come a b v i =
            both_back does.Mul (rounded t (pos (r.shape.f + q.shape.f) -ℤ pos t.shape.f))
            (λ a b v. IsConverted t (a *ℤ b) (r.shape.f + q.shape.f) v) (λ a b v k. k.conv)
            (λ a b v k. record { shape = shape; conv = k }) x y (Fix r) (Fix q) _ _ a b v i

  -- a comparison of sides of this type
  module _ (x y : Expr) (at : ℕ) where
    -- as they stand
    module _ (o : Op) (R : ℤ → ℤ → Type 0) (to : (a b v : ℤ) → IsTruth (R a b) v → IsApply o no_format a b (pos 0) v)
        (from : (a b v : ℤ) → IsApply o no_format a b (pos 0) v → IsTruth (R a b) v) where
      pub record SameComparison (common : Option SigType) : Type 0 where
        pub there : (v : ℤ)
            → IsComparison common R (IsValue p s words n x) (IsValue p s words n y) v
            → Has (node o no_format
            (two (typed_against (typed_expr p f x) common) (typed_against (typed_expr p f y) common)) None)
            v
        pub back : (v : ℤ)
            → Has (node o no_format
            (two (typed_against (typed_expr p f x) common) (typed_against (typed_expr p f y) common)) None)
            v
            → IsComparison common R (IsValue p s words n x) (IsValue p s words n y) v

      comparison_same : (common : Option SigType)
          → Passes (comparison_rules common (expr_rules p f x) (expr_rules p f y) at)
          → ((ty : SigType) → common ≡ Some ty → SameIfPasses x ty)
          → ((ty : SigType) → common ≡ Some ty → SameIfPasses y ty)
          → SameComparison common
      comparison_same None h e g = absurd (cc h)
      comparison_same (Some Truths) h e g = absurd (cc h)
      comparison_same (Some (Fix r)) h e g =
          let k = two_pass (expr_rules p f x (Fix r)) (expr_rules p f y (Fix r)) h in
          record {
            there = λ v i.
                both_there o no_format (λ a b v. IsTruth (R a b) v) to from x y (Fix r) (Fix r) _ _ (e (Fix r) refl k.0)
                (g (Fix r) refl k.1) v i;
            back = λ v i.
                both_back o no_format (λ a b v. IsTruth (R a b) v) to from x y (Fix r) (Fix r) _ _ (e (Fix r) refl k.0)
                (g (Fix r) refl k.1) v i;
          }

    -- with the sides in the other order
    module _ (o : Op) (R : ℤ → ℤ → Type 0) (to : (a b v : ℤ) → IsTruth (R a b) v → IsApply o no_format b a (pos 0) v)
        (from : (a b v : ℤ) → IsApply o no_format b a (pos 0) v → IsTruth (R a b) v) where
      pub record SameTurned (common : Option SigType) : Type 0 where
        pub there : (v : ℤ)
            → IsComparison common R (IsValue p s words n x) (IsValue p s words n y) v
            → Has (node o no_format
            (two (typed_against (typed_expr p f y) common) (typed_against (typed_expr p f x) common)) None)
            v
        pub back : (v : ℤ)
            → Has (node o no_format
            (two (typed_against (typed_expr p f y) common) (typed_against (typed_expr p f x) common)) None)
            v
            → IsComparison common R (IsValue p s words n x) (IsValue p s words n y) v

      turned_same : (common : Option SigType)
          → Passes (comparison_rules common (expr_rules p f x) (expr_rules p f y) at)
          → ((ty : SigType) → common ≡ Some ty → SameIfPasses x ty)
          → ((ty : SigType) → common ≡ Some ty → SameIfPasses y ty)
          → SameTurned common
      turned_same None h e g = absurd (cc h)
      turned_same (Some Truths) h e g = absurd (cc h)
      turned_same (Some (Fix r)) h e g =
          let k = two_pass (expr_rules p f x (Fix r)) (expr_rules p f y (Fix r)) h in
          record {
            there = λ v i.
                turned_there o no_format (λ a b v. IsTruth (R a b) v) to from x y (Fix r) (Fix r) _ _
                (e (Fix r) refl k.0) (g (Fix r) refl k.1) v i;
            back = λ v i.
                turned_back o no_format (λ a b v. IsTruth (R a b) v) to from x y (Fix r) (Fix r) _ _
                (e (Fix r) refl k.0) (g (Fix r) refl k.1) v i;
          }

  -- a cast of a part with this type of its own
  module _ (x : Expr) (c t : FixType) (at : ℕ) where
    pub record SameCast (own : Option SigType) : Type 0 where
      pub there : (v : ℤ) → IsCast own (IsValue p s words n x) c v → Has (typed_cast own (typed_expr p f x) c) v
      pub back : (v : ℤ) → Has (typed_cast own (typed_expr p f x) c) v → IsCast own (IsValue p s words n x) c v

    cast_same : IsShape c.shape
        → (own : Option SigType)
        → Passes (cast_rules own (expr_rules p f x) c t at)
        → ((ty : SigType) → own ≡ Some ty → SameIfPasses x ty)
        → SameIfPasses x (Fix c)
        → SameCast own
    cast_same shape None h e g =
        let k =
        three_pass (unless (is_same_shape (Fix c) (Fix t)) (Mismatch at)) (unless (is_no_truth None) (Mismatch at))
        (expr_rules p f x (Fix c)) h in
        let same = g k.2 in
        record { there = λ v i. same.there v i; back = λ v i. same.back v i }
    cast_same shape (Some Truths) h e g =
        let k =
        three_pass (unless (is_same_shape (Fix c) (Fix t)) (Mismatch at))
        (unless (is_no_truth (Some Truths)) (Mismatch at)) (expr_rules p f x Truths) h in
        absurd (cc (k.1))
    cast_same shape (Some (Fix r)) h e g =
        let k =
        three_pass (unless (is_same_shape (Fix c) (Fix t)) (Mismatch at))
        (unless (is_no_truth (Some (Fix r))) (Mismatch at)) (expr_rules p f x (Fix r)) h in
        let same = e (Fix r) refl k.2 in
        record {
          there = λ v i.
              one_given p s words n does.Pass (rounded c (pos r.shape.f -ℤ pos c.shape.f)) (typed_expr p f x (Fix r))
              i.0 v (same.there i.0 i.1) i.2.conv;
          back = λ v i.
              let q =
              one_taken p s words n does.Pass (rounded c (pos r.shape.f -ℤ pos c.shape.f))
              (typed_expr p f x (Fix r)) v i in
              (q.0, same.back q.0 q.1, record { shape = shape; conv = q.2 });
        }

  -- a read
  module _ (tables : HasGoodTables p) where
    entry_there : (c : ConstDef) (k : ℕ) (ty : SigType) (v : ℤ)
        → IsEntry c k ty v
        → slice_get (typed_table c).words k ≡ Some v
    entry_there c k ty v h =
        slice_get-map (λ l. word_of l (Fix c.ty)) c.words k ∙ ap (option_map (λ l. word_of l (Fix c.ty))) h.entry
        ∙ ap Some (sym (raw_there h.number (Fix c.ty) v h.word))

    entry_back : (name : List ℕ) (c : ConstDef) (k : ℕ) (ty : SigType) (v : ℤ)
        → table_named p name ≡ Some c
        → HasShapeOf (Fix c.ty) ty
        → (o : Option Lit)
        → slice_get c.words k ≡ o
        → option_map (λ l. word_of l (Fix c.ty)) o ≡ Some v
        → IsEntry c k ty v
    entry_back name c k ty v named shape None e h = absurd (cc h)
    entry_back name c k ty v named shape (Some l) e h =
        let same : v ≡ word_of l (Fix c.ty) = sym (some_once refl h) in
        record {
          shape = shape;
          number = l;
          entry = e;
          word = raw_back l (Fix c.ty) v (tables.words name c k l named e) same;
        }

    has_shape : (declared : Option SigType) (ty wanted : SigType) (at : ℕ)
        → declared ≡ Some ty
        → Passes (name_rules declared wanted at)
        → HasShapeOf ty wanted
    has_shape None ty wanted at e h = absurd (cc e)
    has_shape (Some r) ty wanted at e h =
        subst (λ (q : SigType). HasShapeOf q wanted) (some_once refl e)
        (shape_is r wanted (rule_holds (is_same_shape r wanted) (misfit wanted at) h))

    read_there : (place : Place) (delay : Option Manifest) (ty : SigType) (v : ℤ)
        → IsRead p s words n place delay ty v
        → HasRead p s words n place delay v
    read_there place delay ty v (signal d k ago decl is back shape e) = typed.signal d k ago decl is back e
    read_there place delay ty v (number k c undeclared named offset undelayed entry) =
        typed.number k c undeclared named offset undelayed (entry_there c k ty v entry)

    read_back : (place : Place) (delay : Option Manifest) (ty : SigType) (v : ℤ)
        → Passes (name_rules (name_type p f place.name) ty place.at)
        → HasRead p s words n place delay v
        → IsRead p s words n place delay ty v
    read_back place delay ty v h (typed.signal d k ago decl is back e) =
        let has : name_type p f place.name ≡ Some decl.ty =
        ap (λ (o : Option (ℕ × Decl)).
        option_or (option_map (λ (d : ℕ × Decl). d.1.ty) o) (table_type (table_named p place.name)))
        is.named in
        signal d k ago decl is back (has_shape (name_type p f place.name) decl.ty ty place.at has h) e
    read_back place delay ty v h (typed.number k c undeclared named offset undelayed got) =
        let none : name_type p f place.name ≡ table_type (table_named p place.name) =
        ap (λ (o : Option (ℕ × Decl)).
        option_or (option_map (λ (d : ℕ × Decl). d.1.ty) o) (table_type (table_named p place.name)))
        undeclared in
        let has : name_type p f place.name ≡ Some (Fix c.ty) = none ∙ ap table_type named in
        number k c undeclared named offset undelayed
        (entry_back place.name c k ty v named (has_shape (name_type p f place.name) (Fix c.ty) ty place.at has h)
        (slice_get c.words k) refl (sym (slice_get-map (λ l. word_of l (Fix c.ty)) c.words k) ∙ got))

    -- a conditional
    pub record SameChoice (branches : Branches) (ty : SigType) (last : Expr) : Type 0 where
      pub there : (v a : ℤ)
          → IsValue p s words n last ty a
          → IsChosen p s words n branches ty a v
          → Has (typed_choice p f branches ty (typed_expr p f last ty)) v
      pub back : (v : ℤ)
          → Has (typed_choice p f branches ty (typed_expr p f last ty)) v
          → (a : ℤ) × IsValue p s words n last ty a × IsChosen p s words n branches ty a v

    none_same : (ty : SigType) (last : Expr) → Same last ty (typed_expr p f last ty) → SameChoice no_branch ty last
    none_same ty last e = record {
      there = λ v a h is. e.there v (subst (λ (z : ℤ). IsValue p s words n last ty z) (sym is) h);
      back = λ v h. (v, e.back v h, refl);
    }

    branch_same : (condition x : Expr) (rest : Branches) (ty : SigType) (last : Expr)
        → Same condition Truths (typed_expr p f condition Truths)
        → Same x ty (typed_expr p f x ty)
        → SameChoice rest ty last
        → SameChoice (branch condition x rest) ty last
    branch_same condition x rest ty last e g r = record {
      there = λ v a h is.
          three_given p s words n does.Sel (chosen ty) _ _ _ is.0 is.1 is.2 v (e.there is.0 is.3) (g.there is.1 is.4)
          (r.there is.2 a h is.5) is.6;
      back = λ v h.
          let k =
          three_taken p s words n does.Sel (chosen ty) (typed_expr p f condition Truths) (typed_expr p f x ty)
          (typed_choice p f rest ty (typed_expr p f last ty)) v h in
          let q = r.back k.2 k.5 in
          (q.0, q.1, (k.0, k.1, k.2, e.back k.0 k.3, g.back k.1 k.4, q.2, k.6));
    }

    choice_values : (at : ℕ) (branches : Branches) (ty : SigType) (last : Expr)
        → SameChoice branches ty last
        → Same (choose at branches last) ty (typed_choice p f branches ty (typed_expr p f last ty))
    choice_values at branches ty last r = record {
      there = λ v h. r.there v h.0 h.1 h.2;
      back = λ v h. r.back v h;
    }

    module _ (types : HasSoundTypes p f) where
      abbrev common : Expr → Expr → Option SigType
      common x y = common_type p f x y

      mutual
        pub same_values : (x : Expr) (ty : SigType)
            → IsSound x
            → IsSoundType ty
            → Passes (expr_rules p f x ty)
            → Same x ty (typed_expr p f x ty)
        same_values (literal l) ty sound ok h =
            record { there = λ v i. raw_there l ty v i; back = λ v i. raw_back l ty v h i }
        same_values (read place delay) ty sound ok h =
            record { there = λ v i. read_there place delay ty v i; back = λ v i. read_back place delay ty v h i }
        same_values (negate at x) (Fix t) sound ok h =
            negate_same at x t _ (sound_shape t ok) (same_values x (Fix t) sound ok h)
        same_values (negate at x) Truths sound ok h = absurd (cc h)
        same_values (not at x) (Fix t) sound ok h = absurd (cc h)
        same_values (not at x) Truths sound ok h = not_same at x _ (same_values x Truths sound refl h)
        same_values (shift at true x amount) (Fix t) sound ok h =
            left_same at x amount t _ (sound_shape t ok) (same_values x (Fix t) sound ok h)
        same_values (shift at false x amount) (Fix t) sound ok h =
            right_same at x amount t _ (sound_shape t ok) (same_values x (Fix t) sound ok h)
        same_values (shift at left x amount) Truths sound ok h = absurd (cc h)
        same_values (cast at c x) (Fix t) sound ok h =
            let k =
            three_pass (unless (is_same_shape (Fix c) (Fix t)) (Mismatch at))
            (unless (is_no_truth (own_type p f x)) (Mismatch at)) (expr_rules p f x (part_type (own_type p f x) c))
            h in
            let shape : c.shape ≡ t.shape =
            shape_is (Fix c) (Fix t) (rule_holds (is_same_shape (Fix c) (Fix t)) (Mismatch at) k.0) in
            let r =
            cast_same x c t at (sound_shape c sound.0) (own_type p f x) h
            (λ ty e g. same_values x ty sound.1 (own_sound p f types x sound.1 ty e) g)
            (λ g. same_values x (Fix c) sound.1 sound.0 g) in
            record { there = λ v i. r.there v i.1; back = λ v i. (shape, r.back v i) }
        same_values (cast at c x) Truths sound ok h = absurd (cc h)
        same_values (choose at branches last) ty sound ok h =
            let k = two_pass (parts (branch_rules p f branches ty)) (expr_rules p f last ty) h in
            choice_values at branches ty last
            (same_choice branches ty sound.0 ok k.0 last (same_values last ty sound.1 ok k.1))
        same_values (binary at op.Add x y) (Fix t) sound ok h =
            let k = two_pass (expr_rules p f x (Fix t)) (expr_rules p f y (Fix t)) h in
            add_same at x y t _ _ (sound_shape t ok) (same_values x (Fix t) sound.0 ok k.0)
            (same_values y (Fix t) sound.1 ok k.1)
        same_values (binary at op.Sub x y) (Fix t) sound ok h =
            let k = two_pass (expr_rules p f x (Fix t)) (expr_rules p f y (Fix t)) h in
            sub_same at x y t _ _ (sound_shape t ok) (same_values x (Fix t) sound.0 ok k.0)
            (same_values y (Fix t) sound.1 ok k.1)
        same_values (binary at op.Mul x y) (Fix t) sound ok h =
            let r = product_same x y t at (sound_shape t ok) (factor_type p f x y) (factor_type p f y x) h
            (λ ty e g. same_values x ty sound.0 (factor_sound p f types x y sound.0 sound.1 ty e) g)
            (λ ty e g. same_values y ty sound.1 (factor_sound p f types y x sound.1 sound.0 ty e) g) in
            record { there = λ v i. r.there v i; back = λ v i. r.back v i }
        same_values (binary at op.Lt x y) (Fix t) sound ok h = absurd (cc h)
        same_values (binary at op.Le x y) (Fix t) sound ok h = absurd (cc h)
        same_values (binary at op.Eq x y) (Fix t) sound ok h = absurd (cc h)
        same_values (binary at op.Ne x y) (Fix t) sound ok h = absurd (cc h)
        same_values (binary at op.Gt x y) (Fix t) sound ok h = absurd (cc h)
        same_values (binary at op.Ge x y) (Fix t) sound ok h = absurd (cc h)
        same_values (binary at op.And x y) (Fix t) sound ok h = absurd (cc h)
        same_values (binary at op.Or x y) (Fix t) sound ok h = absurd (cc h)
        same_values (binary at op.Add x y) Truths sound ok h = absurd (cc h)
        same_values (binary at op.Sub x y) Truths sound ok h = absurd (cc h)
        same_values (binary at op.Mul x y) Truths sound ok h = absurd (cc h)
        same_values (binary at op.Lt x y) Truths sound ok h =
            let r = comparison_same x y at does.Lt (λ a b. a <ℤ b) (λ a b v k. k) (λ a b v k. k) (common x y) h
            (λ ty e g. same_values x ty sound.0 (common_sound p f types x y sound.0 sound.1 ty e) g)
            (λ ty e g. same_values y ty sound.1 (common_sound p f types x y sound.0 sound.1 ty e) g) in
            record { there = λ v i. r.there v i; back = λ v i. r.back v i }
        same_values (binary at op.Le x y) Truths sound ok h =
            let r = comparison_same x y at does.Le (λ a b. a ≤ℤ b) (λ a b v k. k) (λ a b v k. k) (common x y) h
            (λ ty e g. same_values x ty sound.0 (common_sound p f types x y sound.0 sound.1 ty e) g)
            (λ ty e g. same_values y ty sound.1 (common_sound p f types x y sound.0 sound.1 ty e) g) in
            record { there = λ v i. r.there v i; back = λ v i. r.back v i }
        same_values (binary at op.Eq x y) Truths sound ok h =
            let r = comparison_same x y at does.Eq (λ a b. a ≡ b) (λ a b v k. k) (λ a b v k. k) (common x y) h
            (λ ty e g. same_values x ty sound.0 (common_sound p f types x y sound.0 sound.1 ty e) g)
            (λ ty e g. same_values y ty sound.1 (common_sound p f types x y sound.0 sound.1 ty e) g) in
            record { there = λ v i. r.there v i; back = λ v i. r.back v i }
        same_values (binary at op.Ne x y) Truths sound ok h =
            let r = comparison_same x y at does.Ne (λ a b. a ≢ b) (λ a b v k. k) (λ a b v k. k) (common x y) h
            (λ ty e g. same_values x ty sound.0 (common_sound p f types x y sound.0 sound.1 ty e) g)
            (λ ty e g. same_values y ty sound.1 (common_sound p f types x y sound.0 sound.1 ty e) g) in
            record { there = λ v i. r.there v i; back = λ v i. r.back v i }
        same_values (binary at op.Gt x y) Truths sound ok h =
            let r = turned_same x y at does.Lt (λ a b. b <ℤ a) (λ a b v k. k) (λ a b v k. k) (common x y) h
            (λ ty e g. same_values x ty sound.0 (common_sound p f types x y sound.0 sound.1 ty e) g)
            (λ ty e g. same_values y ty sound.1 (common_sound p f types x y sound.0 sound.1 ty e) g) in
            record { there = λ v i. r.there v i; back = λ v i. r.back v i }
        same_values (binary at op.Ge x y) Truths sound ok h =
            let r = turned_same x y at does.Le (λ a b. b ≤ℤ a) (λ a b v k. k) (λ a b v k. k) (common x y) h
            (λ ty e g. same_values x ty sound.0 (common_sound p f types x y sound.0 sound.1 ty e) g)
            (λ ty e g. same_values y ty sound.1 (common_sound p f types x y sound.0 sound.1 ty e) g) in
            record { there = λ v i. r.there v i; back = λ v i. r.back v i }
        same_values (binary at op.And x y) Truths sound ok h =
            let k = two_pass (expr_rules p f x Truths) (expr_rules p f y Truths) h in
            and_same at x y _ _ (same_values x Truths sound.0 refl k.0) (same_values y Truths sound.1 refl k.1)
        same_values (binary at op.Or x y) Truths sound ok h =
            let k = two_pass (expr_rules p f x Truths) (expr_rules p f y Truths) h in
            or_same at x y _ _ (same_values x Truths sound.0 refl k.0) (same_values y Truths sound.1 refl k.1)

        pub same_choice : (branches : Branches) (ty : SigType)
            → AreSound branches
            → IsSoundType ty
            → Passes (parts (branch_rules p f branches ty))
            → (last : Expr)
            → Same last ty (typed_expr p f last ty)
            → SameChoice branches ty last
        same_choice no_branch ty sound ok h last e = none_same ty last e
        same_choice (branch condition x rest) ty sound ok h last e =
            let k =
            then_parts (first (parts (expr_rules p f condition Truths ▸ expr_rules p f x ty ▸ none)))
            (first (parts (branch_rules p f rest ty))) h in
            let q = two_pass (expr_rules p f condition Truths) (expr_rules p f x ty) k.0 in
            branch_same condition x rest ty last (same_values condition Truths sound.0 refl q.0)
            (same_values x ty sound.1 ok q.1) (same_choice rest ty sound.2 ok k.1 last e)
