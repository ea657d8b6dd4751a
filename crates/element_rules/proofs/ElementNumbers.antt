-- The elements of declarations are numbered one behind the other.
use Rattle.std.proofs.Common.{◌≡◌, ◌∙◌, ◌<◌, ◌+◌, ◌&&◌, inl, inr, ℕ, zero, suc, List, [], ◌∷◌, take, slice_get, Some}
use Rattle.std.proofs.Common.{refl, sym, ap, subst, arith}
use Rattle.std.specs.Prelude.{nat_eq}
use Rattle.std.proofs.lemmas.Bool.Decides.{eqb_tells}
use Rattle.std.proofs.lemmas.List.Sums.{sum_by-cons}
use Rattle.silage_syntax.specs.declared.tree.Decl.{Decl}
use Rattle.silage_syntax.specs.Tree.{Func}
use Rattle.silage_syntax.specs.Names.{decls, declared, element_count}
use Rattle.silage_meaning.proofs.Elements.{declared_at}
use Rattle.element_rules.specs.Sizes.{first_of}

-- the declaration at a position has this row-major place
pub record IsPlace (ds : List Decl) (d k : ℕ) : Type 0 where
  pub decl : Decl
  pub stands : slice_get ds d ≡ Some decl
  pub within : k < element_count decl.dims

pub behind_first : (x : Decl) (ds : List Decl) (d k : ℕ) → IsPlace (x ∷ ds) (suc d) k → IsPlace ds d k
behind_first x ds d k h = record { decl = h.decl; stands = h.stands; within = h.within }

in_first : (x : Decl) (ds : List Decl) (k : ℕ) → IsPlace (x ∷ ds) zero k → k < element_count x.dims
in_first x ds k h =
    let same : h.decl ≡ x = cc (h.stands) in subst (λ (y : Decl). k < element_count y.dims) same h.within

pub first_behind : (x : Decl) (ds : List Decl) (d : ℕ)
    → first_of (x ∷ ds) (suc d) ≡ element_count x.dims + first_of ds d
first_behind x ds d = sum_by-cons (λ (d : Decl). element_count d.dims) x (take d ds)

-- one number is that of one place
pub same_place : (ds : List Decl) (d e k j : ℕ)
    → IsPlace ds d k
    → IsPlace ds e j
    → first_of ds d + k ≡ first_of ds e + j
    → (d ≡ e) × (k ≡ j)
same_place [] d e k j h g same = absurd (cc (h.stands))
same_place (x ∷ ds) zero zero k j h g same = (refl, omega arith)
same_place (x ∷ ds) zero (suc e) k j h g same =
    let less = in_first x ds k h in let first = first_behind x ds e in absurd (omega arith)
same_place (x ∷ ds) (suc d) zero k j h g same =
    let less = in_first x ds j g in let first = first_behind x ds d in absurd (omega arith)
same_place (x ∷ ds) (suc d) (suc e) k j h g same =
    let first = first_behind x ds d in
    let other = first_behind x ds e in
    let rest = same_place ds d e k j (behind_first x ds d k h) (behind_first x ds e j g) (omega arith) in
    (ap suc rest.0, rest.1)

both : (a b c d m n : ℕ) → (m ≡ n → (a ≡ b) × (c ≡ d)) → (a ≡ b → c ≡ d → m ≡ n) → nat_eq m n ≡ nat_eq a b && nat_eq c d
both a b c d m n to from = elim (eqb_tells m n) [
  | inl same ↦ elim (eqb_tells a b) [
    | inl p ↦ elim (eqb_tells c d) [
      | inl q ↦ same.0 ∙ sym (rw (p.0, q.0) refl)
      | inr q ↦ absurd (q.1 (to same.1).1)
    ]
    | inr p ↦ absurd (p.1 (to same.1).0)
  ]
  | inr other ↦ elim (eqb_tells a b) [
    | inl p ↦ elim (eqb_tells c d) [
      | inl q ↦ absurd (other.1 (from p.1 q.1))
      | inr q ↦ other.0 ∙ sym (rw (p.0, q.0) refl)
    ]
    | inr p ↦ other.0 ∙ sym (rw p.0 refl)
  ]
]

pub is_same_place : (ds : List Decl) (d e k j : ℕ)
    → IsPlace ds d k
    → IsPlace ds e j
    → nat_eq (first_of ds d + k) (first_of ds e + j) ≡ nat_eq d e && nat_eq k j
is_same_place ds d e k j h g =
    both d e k j (first_of ds d + k) (first_of ds e + j) (same_place ds d e k j h g) (λ p q. rw (p, q) refl)

pub declared_stands : (f : Func) (name : List ℕ) (q : ℕ × Decl)
    → declared f name ≡ Some q
    → slice_get (decls f) q.0 ≡ Some q.1
declared_stands f name q e = declared_at f name q.0 q.1 e
