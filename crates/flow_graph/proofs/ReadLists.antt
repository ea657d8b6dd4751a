-- The lists of what elements read without a delay have exactly that.
use Rattle.std.proofs.Common.{◌≡◌, ℕ, inl, inr, List, [], ◌∷◌, ◌++◌, refl, sym, ap, subst, true, false, Bool, eqb-true}
use Rattle.std.specs.Prelude.{◌==◌, Contains, if◌then◌else◌}
use Rattle.std.specs.List.{flat_map}
use Rattle.std.proofs.lemmas.List.Elements.{Contains-push, Contains-append_left, Contains-append_right}
use Rattle.std.proofs.lemmas.List.Elements.{Contains-append_cases}
use Rattle.lists.proofs.Places.{none_there, only_there}
use Rattle.signal_graph.specs.declared.flat.FlatExpr.{FlatExpr}
use Rattle.signal_graph.specs.Flat.{Expr, raw, read, calculation, Parts, no_part, part, Body, word, value, view_expr}
use Rattle.signal_graph.specs.Expressions.{view_exprs}
use Rattle.signal_graph.specs.Values.{Reads, PartsRead, BodyReads}
use Rattle.flow_graph.specs.Private.ReadsNow.{reads_now, parts_read_now, body_reads_now}

pub row_reads : (xs : List FlatExpr) → parts_read_now (view_exprs xs) ≡ flat_map (λ x. reads_now (view_expr x)) xs
row_reads [] = refl
row_reads (x ∷ xs) = ap (λ ys. reads_now (view_expr x) ++ ys) (row_reads xs)

-- a read without a delay, by its test
now_only : (e d ago : ℕ) (b : Bool) → (ago == 0) ≡ b → Contains (if b then e ∷ [] else []) d → (d ≡ e) × (0 ≡ ago)
now_only e d ago true is has = (sym (only_there e d has), sym (eqb-true ago 0 is))
now_only e d ago false is has = none_there d has

now_there : (e d ago : ℕ) → (d ≡ e) × (0 ≡ ago) → Contains (if (ago == 0) then e ∷ [] else []) d
now_there e d ago (same, zero_ago) =
    let P : ℕ → ℕ → Type 0 = λ k x. Contains (if (k == 0) then e ∷ [] else []) x in
    subst (λ k. P k d) zero_ago (subst (λ x. P 0 x) (sym same) (Contains-push [] e))

mutual
  pub listed_read : (x : Expr) (d : ℕ) → Contains (reads_now x) d → Reads x d 0
  listed_read (raw m) d has = none_there d has
  listed_read (read e ago) d has = now_only e d ago (ago == 0) refl has
  listed_read (calculation o fmt parts) d has = listed_part_read parts d has

  listed_part_read : (parts : Parts) (d : ℕ) → Contains (parts_read_now parts) d → PartsRead parts d 0
  listed_part_read no_part d has = none_there d has
  listed_part_read (part x rest) d has = elim (Contains-append_cases (reads_now x) (parts_read_now rest) d has) [
    | inl here ↦ inl (listed_read x d here)
    | inr there ↦ inr (listed_part_read rest d there)
  ]

mutual
  pub read_listed : (x : Expr) (d : ℕ) → Reads x d 0 → Contains (reads_now x) d
  read_listed (raw m) d r = absurd r
  read_listed (read e ago) d r = now_there e d ago r
  read_listed (calculation o fmt parts) d r = part_read_listed parts d r

  part_read_listed : (parts : Parts) (d : ℕ) → PartsRead parts d 0 → Contains (parts_read_now parts) d
  part_read_listed no_part d r = absurd r
  part_read_listed (part x rest) d (inl r) =
      Contains-append_left (reads_now x) (parts_read_now rest) d (read_listed x d r)
  part_read_listed (part x rest) d (inr r) =
      Contains-append_right (reads_now x) (parts_read_now rest) d (part_read_listed rest d r)

pub listed_body_read : (b : Body) (d : ℕ) → Contains (body_reads_now b) d → BodyReads b d 0
listed_body_read (word j) d has = none_there d has
listed_body_read (value x) d has = listed_read x d has

pub body_read_listed : (b : Body) (d : ℕ) → BodyReads b d 0 → Contains (body_reads_now b) d
body_read_listed (word j) d r = absurd r
body_read_listed (value x) d r = read_listed x d r
