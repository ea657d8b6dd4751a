-- Where the rows of `given` leave what is defined.
use Rattle.std.proofs.Common.{◌≡◌, ◌≢◌, ◌∙◌, ◌<◌, ◌≤◌, ◌+◌, ◌||◌, ◌&&◌, inl, inr, ℕ, zero, suc, List, [], ◌∷◌, length}
use Rattle.std.proofs.Common.{Bool, true, false, slice_get, Some, refl, ap, subst, arith}
use Rattle.std.specs.Prelude.{nat_eq}
use Rattle.std.specs.List.{range_with_len}
use Rattle.std.proofs.lemmas.Bool.Decides.{eqb_tells}
use Rattle.std.proofs.lemmas.Bool.{or_right}
use Rattle.silage_syntax.specs.declared.tree.Decl.{Decl}
use Rattle.silage_syntax.specs.Names.{element_count}
use Rattle.element_rules.specs.Tables.{given, Table, mark, Row, each, each_from, Context, is_defined, after}
use Rattle.element_rules.specs.Tables.{after_row}
use Rattle.element_rules.specs.ElementRules.{each_place}

module _ (e j : ℕ) where
  abbrev IsBefore : Context → Bool → Type 0
  IsBefore context b = is_defined context e j ≡ b

  module _ (d : ℕ) where
    abbrev gives : ℕ → Table
    gives k = mark (given d k)

    stays_given : (n a : ℕ) (context : Context)
        → IsBefore context true
        → IsBefore (after_row context (each gives (range_with_len a n))) true
    stays_given zero a context h = h
    stays_given (suc n) a context h =
        stays_given n (a + 1) (after context (gives a))
        (ap (λ (b : Bool). nat_eq e d && nat_eq j a || b) h ∙ or_right (nat_eq e d && nat_eq j a) true refl)

    is_given : (n a : ℕ) (context : Context)
        → e ≡ d
        → a ≤ j
        → j < a + n
        → IsBefore (after_row context (each gives (range_with_len a n))) true
    is_given zero a context same least most = absurd (omega arith)
    is_given (suc n) a context same least most = elim (eqb_tells j a) [
      | inl here ↦ elim (eqb_tells e d) [
        | inl both ↦
            let now : IsBefore (after context (gives a)) true = rw (both.0, here.0) refl in
            stays_given n (a + 1) (after context (gives a)) now
        | inr other ↦ absurd (other.1 same)
      ]
      | inr later ↦ let apart = later.1 in is_given n (a + 1) (after context (gives a)) same (omega arith) (omega arith)
    ]

    is_other : (n a : ℕ) (context : Context)
        → e ≢ d
        → IsBefore context false
        → IsBefore (after_row context (each gives (range_with_len a n))) false
    is_other zero a context other h = h
    is_other (suc n) a context other h = elim (eqb_tells e d) [
      | inl same ↦ absurd (other same.1)
      | inr apart ↦
          let now : IsBefore (after context (gives a)) false = rw (apart.0, h) refl in
          is_other n (a + 1) (after context (gives a)) other now
    ]

  abbrev param_row : ℕ → List Decl → Row
  param_row a ps = each_from (λ d decl. each_place (given d) decl) a ps

  params_stay : (a : ℕ) (ps : List Decl) (context : Context)
      → IsBefore context true
      → IsBefore (after_row context (param_row a ps)) true
  params_stay a [] context h = h
  params_stay a (x ∷ ps) context h = params_stay (a + 1) ps _ (stays_given a (element_count x.dims) 0 context h)

  pub param_given : (a : ℕ) (ps : List Decl) (context : Context) (i : ℕ) (decl : Decl)
      → e ≡ a + i
      → slice_get ps i ≡ Some decl
      → j < element_count decl.dims
      → IsBefore (after_row context (param_row a ps)) true
  param_given a [] context i decl same stands within = absurd (cc (stands))
  param_given a (x ∷ ps) context zero decl same stands within =
      let is : decl ≡ x = cc (stands) in
      let less = subst (λ (y : Decl). j < element_count y.dims) is within in
      params_stay (a + 1) ps _ (is_given a (element_count x.dims) 0 context (omega arith) (omega arith) (omega arith))
  param_given a (x ∷ ps) context (suc i) decl same stands within =
      param_given (a + 1) ps _ i decl (omega arith) stands within

  pub past_params : (a : ℕ) (ps : List Decl) (context : Context)
      → a + length ps ≤ e
      → IsBefore context false
      → IsBefore (after_row context (param_row a ps)) false
  past_params a [] context past h = h
  past_params a (x ∷ ps) context past h =
      past_params (a + 1) ps _ (omega arith)
      (is_other a (element_count x.dims) 0 context (λ same. absurd (omega (arith, same))) h)
