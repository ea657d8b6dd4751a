-- A value depends on what its expression reads, and on no other words.
use Rattle.std.proofs.Common.{◌≡◌, refl, sym, ◌∙◌, ap, ℕ, inl, inr, true, false, Option, Some, None, ℤ, pos, ◌-ℤ◌}
use Rattle.fix_word.specs.declared.types.FixType.{FixType}
use Rattle.fix_word.specs.declared.types.SigType.{SigType}
use Rattle.fix_word.specs.declared.types.SigType.TheVariants as sig
use Rattle.silage_syntax.specs.declared.tree.BinOp.TheVariants as op
use Rattle.silage_syntax.specs.Tree.{Manifest, Place, Expr, literal, read, negate, not, binary, shift, cast, choose}
use Rattle.silage_syntax.specs.Tree.{Branches, no_branch, branch, Program}
use Rattle.silage_meaning.specs.Instances.{Element, element, Site}
use Rattle.silage_meaning.specs.Types.{own_type}
use Rattle.silage_meaning.specs.Value.{Words, Part, IsProduct, IsComparison, IsCast, IsRead, signal, number as entry}
use Rattle.silage_meaning.specs.Value.{IsValue, IsChosen}
use Rattle.lists.specs.Rows.{Rows}
use Rattle.silage_meaning.specs.Solves.{Source, word, value, same, number, Gives}
use Rattle.silage_meaning.specs.Rules.{ReadsAt, reads_at, Reads, BranchesRead, SourceReads}

-- each value of the first is one of the second
abbrev Follows : Part → Part → Type 0
Follows x y = (ty : SigType) (v : ℤ) → x ty v → y ty v

product_follows : (r s : Option SigType) (x y z w : Part) (t : FixType) (v : ℤ)
    → Follows x z
    → Follows y w
    → IsProduct r s x y t v
    → IsProduct r s z w t v
product_follows (Some (sig.Fix r)) (Some (sig.Fix s)) x y z w t v f g (a, b, xa, yb, h) = (a, b, f _ a xa, g _ b yb, h)
product_follows _ _ x y z w t v f g h = absurd h

comparison_follows : (r : Option SigType) (R : ℤ → ℤ → Type 0) (x y z w : Part) (v : ℤ)
    → Follows x z
    → Follows y w
    → IsComparison r R x y v
    → IsComparison r R z w v
comparison_follows (Some (sig.Fix r)) R x y z w v f g (a, b, xa, yb, h) = (a, b, f _ a xa, g _ b yb, h)
comparison_follows _ R x y z w v f g h = absurd h

cast_follows : (r : Option SigType) (x z : Part) (t : FixType) (v : ℤ) → Follows x z → IsCast r x t v → IsCast r z t v
cast_follows (Some (sig.Fix r)) x z t v f (a, xa, h) = (a, f _ a xa, h)
cast_follows (Some sig.Bool) x z t v f h = absurd h
cast_follows None x z t v f h = f _ v h

-- two maps agree on what is read, at sample n
abbrev pub Agree : Words → Words → ℕ → (Element → ℕ → Type 0) → Type 0
Agree a b n R = (e : Element) (ago : ℕ) → R e ago → a e (pos n -ℤ pos ago) ≡ b e (pos n -ℤ pos ago)

module _ (p : Program) (s : Site) (a b : Words) (n : ℕ) where
  read_local : (place : Place) (d : Option Manifest)
      → Agree a b n (ReadsAt s place d)
      → Follows (IsRead p s a n place d) (IsRead p s b n place d)
  read_local place d agree ty v (signal i k ago decl is back shape e) =
      signal i k ago decl is back shape (e ∙ agree (element s.instance i k) ago (reads_at i k decl is back refl))
  read_local place d agree ty v (entry k c none named placed no_delay is) = entry k c none named placed no_delay is

  mutual
    pub value_local : (x : Expr) → Agree a b n (Reads s x) → Follows (IsValue p s a n x) (IsValue p s b n x)
    value_local (literal l) agree ty v h = h
    value_local (read place d) agree ty v h = read_local place d agree ty v h
    value_local (negate at x) agree (sig.Fix t) v (i, xi, h) = (i, value_local x agree _ i xi, h)
    value_local (not at x) agree sig.Bool v (i, xi, h) = (i, value_local x agree _ i xi, h)
    value_local (binary at op.Add x y) agree (sig.Fix t) v (i, j, xi, yj, h) =
        (i, j, value_local x (λ e k r. agree e k (inl r)) _ i xi, value_local y (λ e k r. agree e k (inr r)) _ j yj, h)
    value_local (binary at op.Sub x y) agree (sig.Fix t) v (i, j, xi, yj, h) =
        (i, j, value_local x (λ e k r. agree e k (inl r)) _ i xi, value_local y (λ e k r. agree e k (inr r)) _ j yj, h)
    value_local (binary at op.Mul x y) agree (sig.Fix t) v h =
        product_follows _ _ _ _ _ _ t v (value_local x (λ e k r. agree e k (inl r)))
        (value_local y (λ e k r. agree e k (inr r))) h
    value_local (binary at op.Lt x y) agree sig.Bool v h =
        comparison_follows _ _ _ _ _ _ v (value_local x (λ e k r. agree e k (inl r)))
        (value_local y (λ e k r. agree e k (inr r))) h
    value_local (binary at op.Le x y) agree sig.Bool v h =
        comparison_follows _ _ _ _ _ _ v (value_local x (λ e k r. agree e k (inl r)))
        (value_local y (λ e k r. agree e k (inr r))) h
    value_local (binary at op.Eq x y) agree sig.Bool v h =
        comparison_follows _ _ _ _ _ _ v (value_local x (λ e k r. agree e k (inl r)))
        (value_local y (λ e k r. agree e k (inr r))) h
    value_local (binary at op.Ne x y) agree sig.Bool v h =
        comparison_follows _ _ _ _ _ _ v (value_local x (λ e k r. agree e k (inl r)))
        (value_local y (λ e k r. agree e k (inr r))) h
    value_local (binary at op.Gt x y) agree sig.Bool v h =
        comparison_follows _ _ _ _ _ _ v (value_local x (λ e k r. agree e k (inl r)))
        (value_local y (λ e k r. agree e k (inr r))) h
    value_local (binary at op.Ge x y) agree sig.Bool v h =
        comparison_follows _ _ _ _ _ _ v (value_local x (λ e k r. agree e k (inl r)))
        (value_local y (λ e k r. agree e k (inr r))) h
    value_local (binary at op.And x y) agree sig.Bool v (i, j, xi, yj, h) =
        (i, j, value_local x (λ e k r. agree e k (inl r)) _ i xi, value_local y (λ e k r. agree e k (inr r)) _ j yj, h)
    value_local (binary at op.Or x y) agree sig.Bool v (i, j, xi, yj, h) =
        (i, j, value_local x (λ e k r. agree e k (inl r)) _ i xi, value_local y (λ e k r. agree e k (inr r)) _ j yj, h)
    value_local (shift at true x amount) agree (sig.Fix t) v (i, k, xi, is, h) =
        (i, k, value_local x agree _ i xi, is, h)
    value_local (shift at false x amount) agree (sig.Fix t) v (i, k, xi, is, h) =
        (i, k, value_local x agree _ i xi, is, h)
    value_local (cast at c x) agree (sig.Fix t) v h =
        (h.0, cast_follows (own_type p s.function x) _ _ c v (value_local x agree) h.1)
    value_local (choose at branches last) agree ty v (i, xi, h) = (
      i,
      value_local last (λ e k r. agree e k (inr r)) ty i xi,
      chosen_local branches (λ e k r. agree e k (inl r)) ty i v h,
    )
    value_local _ agree _ v h = absurd h

    pub chosen_local : (branches : Branches)
        → Agree a b n (BranchesRead s branches)
        → (ty : SigType) (last v : ℤ)
        → IsChosen p s a n branches ty last v
        → IsChosen p s b n branches ty last v
    chosen_local no_branch agree ty last v h = h
    chosen_local (branch condition x rest) agree ty last v (i, j, l, ci, xj, rl, h) = (
      i,
      j,
      l,
      value_local condition (λ e k r. agree e k (inl r)) sig.Bool i ci,
      value_local x (λ e k r. agree e k (inr (inl r))) ty j xj,
      chosen_local rest (λ e k r. agree e k (inr (inr r))) ty last l rl,
      h,
    )

now : (a : Words) (e : Element) (n : ℕ) → pos n ≡ pos n -ℤ pos 0 → a e (pos n) ≡ a e (pos n -ℤ pos 0)
now a e n h = ap (a e) h

-- what a source gives depends only on what it reads
pub source_local : (p : Program) (stream : Rows) (a b : Words) (n : ℕ) (source : Source) (v : ℤ)
    → pos n ≡ pos n -ℤ pos 0
    → Agree a b n (SourceReads source)
    → Gives p stream a n source v
    → Gives p stream b n source v
source_local p stream a b n (word j) v zero agree h = h
source_local p stream a b n (value s x ty) v zero agree h = value_local p s a b n x agree ty v h
source_local p stream a b n (same e theirs ours) v zero agree h =
    (h.0, h.1 ∙ now a e n zero ∙ agree e 0 (refl, refl) ∙ sym (now b e n zero))
source_local p stream a b n (number c k ty) v zero agree h = h
