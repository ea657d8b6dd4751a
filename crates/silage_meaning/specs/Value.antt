-- The value of an expression against an expected type, by the rows of the typing table. A part that has no value, or a
-- type that does not fit, leaves the whole without a value.
use Rattle.std.specs.Prelude.{◌≡◌, ◌≢◌, ◌⊎◌, ℕ, ◌+◌, ◌^◌, true, false, slice_get, Option, Some, None, ℤ, pos, ◌+ℤ◌}
use Rattle.std.specs.Prelude.{◌-ℤ◌, ◌*ℤ◌, neg_ℤ, ◌≤ℤ◌, ◌<ℤ◌}
use Rattle.fix_word.specs.Operations.{IsTruth, IsSet, IsChoice}
use Rattle.fix_word.specs.Words.{IsShape, IsFit, IsForm, IsConv}
use Rattle.fix_word.specs.declared.types.FixType.{FixType}
use Rattle.fix_word.specs.declared.types.SigType.{SigType}
use Rattle.fix_word.specs.declared.types.SigType.TheVariants.{Fix, Bool}
use Rattle.silage_syntax.specs.declared.tree.BinOp.TheVariants as op
use Rattle.silage_syntax.specs.declared.tree.ConstDef.{ConstDef}
use Rattle.silage_syntax.specs.declared.tree.Decl.{Decl}
use Rattle.silage_syntax.specs.declared.tree.Lit.{Lit}
use Rattle.silage_syntax.specs.Tree.{Manifest, Place, Expr, literal, read, negate, not, binary, shift, cast, choose}
use Rattle.silage_syntax.specs.Tree.{Branches, no_branch, branch, Program}
use Rattle.silage_syntax.specs.Manifests.{IsAmount, LooksBack}
use Rattle.silage_syntax.specs.Names.{declared, table_named, IsOffset}
use Rattle.silage_meaning.specs.Instances.{Element, element, Site, IsSignal}
use Rattle.silage_meaning.specs.Types.{HasShapeOf, IsRawWord, own_type, factor_type, common_type}

-- the word of each element at each sample
abbrev pub Words : Type 0
Words = Element → ℤ → ℤ

-- which values a part has against each type
abbrev pub Part : Type 1
Part = SigType → ℤ → Type 0

-- v is the exact number q, brought to the type's width by its mode
pub record IsFitted (t : FixType) (q v : ℤ) : Type 0 where
  pub shape : IsShape t.shape
  pub fitted : IsFit q t.shape.w t.mode v

-- v is the word q shifted right by k bits in the type
pub record IsShifted (t : FixType) (q : ℤ) (k : ℕ) (v : ℤ) : Type 0 where
  pub shape : IsShape t.shape
  pub form : IsForm q (record { shift = pos k; mode = t.mode; width = t.shape.w }) v

-- v is q, which has this many bits after the binary point, requantised to the type
pub record IsConverted (t : FixType) (q : ℤ) (places : ℕ) (v : ℤ) : Type 0 where
  pub shape : IsShape t.shape
  pub conv : IsConv q (pos places) t.shape t.mode v

-- v is number k of the table, against the type
pub record IsEntry (c : ConstDef) (k : ℕ) (ty : SigType) (v : ℤ) : Type 0 where
  pub shape : HasShapeOf (Fix c.ty) ty
  pub number : Lit
  pub entry : slice_get c.words k ≡ Some number
  pub word : IsRawWord number (Fix c.ty) v

-- the parts have values against these types that are in the relation
abbrev pub HaveValues : Part → SigType → Part → SigType → (ℤ → ℤ → Type 0) → Type 0
HaveValues x r y s R = (a b : ℤ) × x r a × y s b × R a b

-- a product, where the factors are checked against these types
abbrev pub IsProduct : Option SigType → Option SigType → Part → Part → FixType → ℤ → Type 0
IsProduct (Some (Fix r)) (Some (Fix s)) x y t v =
    HaveValues x (Fix r) y (Fix s) (λ a b. IsConverted t (a *ℤ b) (r.shape.f + s.shape.f) v)
IsProduct _ _ x y t v = ⊥

-- a comparison, where both sides are checked against this type
abbrev pub IsComparison : Option SigType → (ℤ → ℤ → Type 0) → Part → Part → ℤ → Type 0
IsComparison (Some (Fix t)) R x y v = HaveValues x (Fix t) y (Fix t) (λ a b. IsTruth (R a b) v)
IsComparison _ R x y v = ⊥

-- a cast to a type, of a part that has this type of its own, or none
abbrev pub IsCast : Option SigType → Part → FixType → ℤ → Type 0
IsCast (Some (Fix r)) x t v = (a : ℤ) × x (Fix r) a × IsConverted t a r.shape.f v
IsCast (Some Bool) x t v = ⊥
IsCast None x t v = x (Fix t) v

-- In the program, at a site, over words, at sample n.
module _ (p : Program) (s : Site) (words : Words) (n : ℕ) where
  -- a signal, this many samples ago, or a number of a table
  pub data IsRead (place : Place) (delay : Option Manifest) (ty : SigType) (v : ℤ) : Type 0 where
    signal : (d k ago : ℕ) (decl : Decl)
        → IsSignal s place d decl k
        → LooksBack s.indices delay ago
        → HasShapeOf decl.ty ty
        → v ≡ words (element s.instance d k) (pos n -ℤ pos ago)
        → IsRead place delay ty v
    number : (k : ℕ) (c : ConstDef)
        → declared s.function place.name ≡ None
        → table_named p place.name ≡ Some c
        → IsOffset s.indices c.dims place.subs k
        → delay ≡ None
        → IsEntry c k ty v
        → IsRead place delay ty v

  -- the type that an expression has of its own, that against which a factor is checked, and that of two sides
  abbrev own : Expr → Option SigType
  own x = own_type p s.function x

  abbrev factor : Expr → Expr → Option SigType
  factor x other = factor_type p s.function x other

  abbrev common : Expr → Expr → Option SigType
  common x y = common_type p s.function x y

  abbrev mutual
    -- v is the value of the expression against the type
    pub IsValue : Expr → SigType → ℤ → Type 0
    IsValue (literal l) ty v = IsRawWord l ty v
    IsValue (read place delay) ty v = IsRead place delay ty v
    IsValue (negate at x) (Fix t) v = (a : ℤ) × IsValue x (Fix t) a × IsFitted t (neg_ℤ a) v
    IsValue (not at x) Bool v = (a : ℤ) × IsValue x Bool a × IsTruth (a ≡ pos 0) v
    IsValue (binary at op.Add x y) (Fix t) v =
        HaveValues (IsValue x) (Fix t) (IsValue y) (Fix t) (λ a b. IsFitted t (a +ℤ b) v)
    IsValue (binary at op.Sub x y) (Fix t) v =
        HaveValues (IsValue x) (Fix t) (IsValue y) (Fix t) (λ a b. IsFitted t (a -ℤ b) v)
    IsValue (binary at op.Mul x y) (Fix t) v = IsProduct (factor x y) (factor y x) (IsValue x) (IsValue y) t v
    IsValue (binary at op.Lt x y) Bool v = IsComparison (common x y) (λ a b. a <ℤ b) (IsValue x) (IsValue y) v
    IsValue (binary at op.Le x y) Bool v = IsComparison (common x y) (λ a b. a ≤ℤ b) (IsValue x) (IsValue y) v
    IsValue (binary at op.Eq x y) Bool v = IsComparison (common x y) (λ a b. a ≡ b) (IsValue x) (IsValue y) v
    IsValue (binary at op.Ne x y) Bool v = IsComparison (common x y) (λ a b. a ≢ b) (IsValue x) (IsValue y) v
    IsValue (binary at op.Gt x y) Bool v = IsComparison (common x y) (λ a b. b <ℤ a) (IsValue x) (IsValue y) v
    IsValue (binary at op.Ge x y) Bool v = IsComparison (common x y) (λ a b. b ≤ℤ a) (IsValue x) (IsValue y) v
    IsValue (binary at op.And x y) Bool v =
        HaveValues (IsValue x) Bool (IsValue y) Bool (λ a b. IsTruth (IsSet a × IsSet b) v)
    IsValue (binary at op.Or x y) Bool v =
        HaveValues (IsValue x) Bool (IsValue y) Bool (λ a b. IsTruth (IsSet a ⊎ IsSet b) v)
    IsValue (shift at true x amount) (Fix t) v =
        (a : ℤ) × (k : ℕ) × IsValue x (Fix t) a × IsAmount s.indices amount k × IsFitted t (a *ℤ pos (2 ^ k)) v
    IsValue (shift at false x amount) (Fix t) v =
        (a : ℤ) × (k : ℕ) × IsValue x (Fix t) a × IsAmount s.indices amount k × IsShifted t a k v
    IsValue (cast at c x) (Fix t) v = (c.shape ≡ t.shape) × IsCast (own x) (IsValue x) c v
    IsValue (choose at branches last) ty v = (a : ℤ) × IsValue last ty a × IsChosen branches ty a v
    IsValue _ _ v = ⊥

    -- v is the value after the first condition that is true, or else the last value
    pub IsChosen : Branches → SigType → (last : ℤ) → ℤ → Type 0
    IsChosen no_branch ty last v = v ≡ last
    IsChosen (branch condition x rest) ty last v =
        (a b c : ℤ) × IsValue condition Bool a × IsValue x ty b × IsChosen rest ty last c × IsChoice a b c v
