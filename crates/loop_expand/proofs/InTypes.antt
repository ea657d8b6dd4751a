-- The value of an expression is in the type that it is checked against, where the words that it reads are in theirs.
use Rattle.std.proofs.Common.{◌≡◌, refl, sym, subst, arith, ℕ, ◌≤◌, inl, inr, true, false, slice_get, Option, Some}
use Rattle.std.proofs.Common.{None}
use Rattle.std.proofs.Common.{ℤ, pos}
use Rattle.std.specs.Prelude.{◌-ℤ◌}
use Rattle.std.proofs.lemmas.Int.{ints}
use Rattle.fix_word.specs.Operations.{IsTruth, IsChoice}
use Rattle.fix_word.specs.Words.{IsWord, IsWidth, IsFit, IsForm}
use Rattle.fix_word.specs.Values.{fit_of, form_of}
use Rattle.fix_word.specs.declared.types.FixType.{FixType}
use Rattle.fix_word.specs.declared.types.Format.{Format}
use Rattle.fix_word.specs.declared.types.Mode.{Mode}
use Rattle.fix_word.specs.declared.types.SigType.{SigType}
use Rattle.fix_word.specs.declared.types.SigType.TheVariants as sig
use Rattle.fix_word.proofs.Forms.{fit_is, fit_word, fit_unique, form_is, form_word, form_unique}
use Rattle.silage_syntax.specs.declared.tree.BinOp.TheVariants as op
use Rattle.silage_syntax.specs.declared.tree.Decl.{Decl}
use Rattle.silage_syntax.specs.Tree.{Manifest, Place, Expr, literal, read, negate, not, binary, shift, cast, choose}
use Rattle.silage_syntax.specs.Tree.{Branches, no_branch, branch, Func, Program}
use Rattle.silage_syntax.specs.Names.{decls}
use Rattle.silage_meaning.specs.Instances.{Element, element, IsInstance, Site}
use Rattle.silage_meaning.specs.Types.{IsInType, HasShapeOf, own_type}
use Rattle.silage_meaning.specs.Value.{Words, Part, IsFitted, IsShifted, IsConverted, IsEntry, IsProduct, IsComparison}
use Rattle.silage_meaning.specs.Value.{IsCast, IsRead, signal, number, IsValue, IsChosen}
use Rattle.silage_meaning.specs.Rules.{ReadsAt, reads_at, Reads, BranchesRead}
use Rattle.silage_meaning.proofs.Elements.{declared_at}
use Rattle.loop_expand.proofs.FlatInits.{raw_in_type}
use Rattle.loop_expand.proofs.ProgramKeeps.{in_type_back}

pub in_shape : (a b : SigType) (v : ℤ) → HasShapeOf a b → IsInType a v → IsInType b v
in_shape (sig.Fix s) (sig.Fix t) v same is = subst (λ shape. IsWord shape.w v) same is
in_shape (sig.Fix s) sig.Bool v same is = absurd same
in_shape sig.Bool (sig.Fix t) v same is = absurd same
in_shape sig.Bool sig.Bool v same is = is

pub entry_in_type : (c : _) (k : ℕ) (ty : SigType) (v : ℤ) → IsEntry c k ty v → IsInType ty v
entry_in_type c k ty v is =
    in_shape (sig.Fix c.ty) ty v is.shape
    (in_type_back (sig.Fix c.ty) v (raw_in_type is.number (sig.Fix c.ty) v is.word))

fit_in_width : (q : ℤ) (w : ℕ) (mode : Mode) (v : ℤ) → 1 ≤ w → IsFit q w mode v → IsWord w v
fit_in_width q w mode v some is =
    subst (IsWord w) (fit_unique q w mode (fit_of q w mode) v some (fit_is q w mode some) is) (fit_word q w mode some)

form_in_width : (q : ℤ) (fmt : Format) (v : ℤ) → IsWidth fmt.width → IsForm q fmt v → IsWord fmt.width v
form_in_width q fmt v width is =
    subst (IsWord fmt.width) (form_unique q fmt (form_of q fmt) v width (form_is q fmt width) is)
    (form_word q fmt width)

fitted_in : (t : FixType) (q v : ℤ) → IsFitted t q v → IsInType (sig.Fix t) v
fitted_in t q v is = fit_in_width q t.shape.w t.mode v is.shape.width.narrowest is.fitted

shifted_in : (t : FixType) (q : ℤ) (k : ℕ) (v : ℤ) → IsShifted t q k v → IsInType (sig.Fix t) v
shifted_in t q k v is = form_in_width q _ v is.shape.width is.form

converted_in : (t : FixType) (q : ℤ) (places : ℕ) (v : ℤ) → IsConverted t q places v → IsInType (sig.Fix t) v
converted_in t q places v is = form_in_width q _ v is.shape.width is.conv

zero_in : IsInType sig.Bool (pos 0)
zero_in = (omega (arith, ints), omega (arith, ints))

one_in : IsInType sig.Bool (pos 1)
one_in = (omega (arith, ints), omega (arith, ints))

truth_in : (P : Type 0) (v : ℤ) → IsTruth P v → IsInType sig.Bool v
truth_in P v (inl holds) = subst (IsInType sig.Bool) (sym holds.1) one_in
truth_in P v (inr fails) = subst (IsInType sig.Bool) (sym fails.1) zero_in

product_in : (r s : Option SigType) (x y : Part) (t : FixType) (v : ℤ)
    → IsProduct r s x y t v
    → IsInType (sig.Fix t) v
product_in (Some (sig.Fix r)) (Some (sig.Fix s)) x y t v (a, b, xa, yb, is) = converted_in t _ _ v is
product_in _ _ x y t v is = absurd is

comparison_in : (r : Option SigType) (R : ℤ → ℤ → Type 0) (x y : Part) (v : ℤ)
    → IsComparison r R x y v
    → IsInType sig.Bool v
comparison_in (Some (sig.Fix r)) R x y v (a, b, xa, yb, is) = truth_in _ v is
comparison_in _ R x y v is = absurd is

cast_in : (r : Option SigType) (x : Part) (t : FixType) (v : ℤ)
    → ((w : ℤ) → x (sig.Fix t) w → IsInType (sig.Fix t) w)
    → IsCast r x t v
    → IsInType (sig.Fix t) v
cast_in (Some (sig.Fix r)) x t v own (a, xa, is) = converted_in t a _ v is
cast_in (Some sig.Bool) x t v own is = absurd is
cast_in None x t v own is = own v is

-- the word of the element at this sample is in each type with which the element is declared
abbrev pub IsTyped : Program → Words → Element → ℤ → Type 0
IsTyped p words e m =
    (g : Func) (decl : Decl)
    → IsInstance p e.instance g
    → slice_get (decls g) e.declaration ≡ Some decl
    → IsInType decl.ty (words e m)

-- so are all that are read at sample n
abbrev pub AreTyped : Program → Words → ℕ → (Element → ℕ → Type 0) → Type 0
AreTyped p words n R = (e : Element) (ago : ℕ) → R e ago → IsTyped p words e (pos n -ℤ pos ago)

module _ (p : Program) (s : Site) (instance : IsInstance p s.instance s.function) (words : Words) (n : ℕ) where
  read_in_type : (place : Place) (delay : Option Manifest)
      → AreTyped p words n (ReadsAt s place delay)
      → (ty : SigType) (v : ℤ)
      → IsRead p s words n place delay ty v
      → IsInType ty v
  read_in_type place delay typed ty v (signal d k ago decl is back shape e) =
      subst (IsInType ty) (sym e)
      (in_shape decl.ty ty _ shape
      (typed (element s.instance d k) ago (reads_at d k decl is back refl) s.function decl instance
      (declared_at s.function place.name d decl is.named)))
  read_in_type place delay typed ty v (number k c none named placed no_delay is) = entry_in_type c k ty v is

  mutual
    pub value_in_type : (x : Expr)
        → AreTyped p words n (Reads s x)
        → (ty : SigType) (v : ℤ)
        → IsValue p s words n x ty v
        → IsInType ty v
    value_in_type (literal l) typed ty v h = in_type_back ty v (raw_in_type l ty v h)
    value_in_type (read place d) typed ty v h = read_in_type place d typed ty v h
    value_in_type (negate at x) typed (sig.Fix t) v (a, xa, h) = fitted_in t _ v h
    value_in_type (not at x) typed sig.Bool v (a, xa, h) = truth_in _ v h
    value_in_type (binary at op.Add x y) typed (sig.Fix t) v (a, b, xa, yb, h) = fitted_in t _ v h
    value_in_type (binary at op.Sub x y) typed (sig.Fix t) v (a, b, xa, yb, h) = fitted_in t _ v h
    value_in_type (binary at op.Mul x y) typed (sig.Fix t) v h = product_in _ _ _ _ t v h
    value_in_type (binary at op.Lt x y) typed sig.Bool v h = comparison_in _ _ _ _ v h
    value_in_type (binary at op.Le x y) typed sig.Bool v h = comparison_in _ _ _ _ v h
    value_in_type (binary at op.Eq x y) typed sig.Bool v h = comparison_in _ _ _ _ v h
    value_in_type (binary at op.Ne x y) typed sig.Bool v h = comparison_in _ _ _ _ v h
    value_in_type (binary at op.Gt x y) typed sig.Bool v h = comparison_in _ _ _ _ v h
    value_in_type (binary at op.Ge x y) typed sig.Bool v h = comparison_in _ _ _ _ v h
    value_in_type (binary at op.And x y) typed sig.Bool v (a, b, xa, yb, h) = truth_in _ v h
    value_in_type (binary at op.Or x y) typed sig.Bool v (a, b, xa, yb, h) = truth_in _ v h
    value_in_type (shift at true x amount) typed (sig.Fix t) v (a, k, xa, is, h) = fitted_in t _ v h
    value_in_type (shift at false x amount) typed (sig.Fix t) v (a, k, xa, is, h) = shifted_in t a k v h
    value_in_type (cast at c x) typed (sig.Fix t) v h =
        subst (λ shape. IsWord shape.w v) h.0
        (cast_in (own_type p s.function x) (IsValue p s words n x) c v
        (λ w xw. value_in_type x typed (sig.Fix c) w xw) h.1)
    value_in_type (choose at branches last) typed ty v (a, xa, h) =
        chosen_in_type branches (λ e k r. typed e k (inl r)) ty a v
        (value_in_type last (λ e k r. typed e k (inr r)) ty a xa) h
    value_in_type _ typed _ v h = absurd h

    chosen_in_type : (branches : Branches)
        → AreTyped p words n (BranchesRead s branches)
        → (ty : SigType) (last v : ℤ)
        → IsInType ty last
        → IsChosen p s words n branches ty last v
        → IsInType ty v
    chosen_in_type no_branch typed ty last v is h = subst (IsInType ty) (sym h) is
    chosen_in_type (branch condition x rest) typed ty last v is (a, b, c, ca, xb, rc, h) =
        by
        (value_in_type x (λ e k r. typed e k (inr (inl r))) ty b xb)
        (chosen_in_type rest (λ e k r. typed e k (inr (inr r))) ty last c is rc)
        h
      where
        by : IsInType ty b → IsInType ty c → IsChoice a b c v → IsInType ty v
        by first others (inl set) = subst (IsInType ty) (sym set.1) first
        by first others (inr unset) = subst (IsInType ty) (sym unset.1) others
