-- The type that an expression has of its own has an allowed size.
use Rattle.std.proofs.Common.{◌≡◌, ◌⊎◌, inl, inr, refl, subst, Option, Some, None}
use Rattle.std.specs.Option.{option_or}
use Rattle.lists.proofs.Places.{some_once}
use Rattle.fix_word.specs.declared.types.SigType.{SigType}
use Rattle.fix_word.specs.declared.types.SigType.TheVariants.{Fix, Bool as Truths}
use Rattle.silage_syntax.specs.declared.tree.BinOp.TheVariants as op
use Rattle.silage_syntax.specs.declared.tree.Lit.TheVariants.{Number, Truth}
use Rattle.silage_syntax.specs.Tree.{Expr, literal, read, negate, not, binary, shift, cast, choose, Branches, no_branch}
use Rattle.silage_syntax.specs.Tree.{branch, Func, Program}
use Rattle.silage_meaning.specs.Types.{own_type, branches_type, factor_type, common_type}
use Rattle.type_rules.specs.Private.Sound.{IsSoundType, IsSound, AreSound, HasSoundTypes}

pub from_either : {A : Type 0} (a b : Option A) (x : A) → option_or a b ≡ Some x → (a ≡ Some x) ⊎ (b ≡ Some x)
from_either None b x e = inr e
from_either (Some y) b x e = inl e

sound_truth : (ty : SigType) → Some Truths ≡ Some ty → IsSoundType ty
sound_truth (Fix t) e = absurd (cc)
sound_truth Truths e = refl

sound_none : (ty : SigType) → None ≡ Some ty → IsSoundType ty
sound_none ty e = absurd (cc)

sound_some : (r ty : SigType) → IsSoundType r → Some r ≡ Some ty → IsSoundType ty
sound_some r ty h e = subst (λ (q : SigType). IsSoundType q) (some_once refl e) h

module _ (p : Program) (f : Func) (types : HasSoundTypes p f) where
  either_sound : (a b : Option SigType) (ty : SigType)
      → (a ≡ Some ty → IsSoundType ty)
      → (b ≡ Some ty → IsSoundType ty)
      → option_or a b ≡ Some ty
      → IsSoundType ty
  either_sound None b ty g h e = h e
  either_sound (Some r) b ty g h e = g e

  mutual
    pub own_sound : (x : Expr) → IsSound x → (ty : SigType) → own_type p f x ≡ Some ty → IsSoundType ty
    own_sound (literal (Number negative digits places at)) h ty e = sound_none ty e
    own_sound (literal (Truth value at)) h ty e = sound_truth ty e
    own_sound (read place delay) h ty e = types.names place.name ty e
    own_sound (negate at x) h ty e = own_sound x h ty e
    own_sound (not at x) h ty e = sound_truth ty e
    own_sound (binary at op.Add x y) h ty e =
        either_sound (own_type p f x) (own_type p f y) ty (λ g. own_sound x h.0 ty g) (λ g. own_sound y h.1 ty g) e
    own_sound (binary at op.Sub x y) h ty e =
        either_sound (own_type p f x) (own_type p f y) ty (λ g. own_sound x h.0 ty g) (λ g. own_sound y h.1 ty g) e
    own_sound (binary at op.Mul x y) h ty e = sound_none ty e
    own_sound (binary at op.Lt x y) h ty e = sound_truth ty e
    own_sound (binary at op.Le x y) h ty e = sound_truth ty e
    own_sound (binary at op.Eq x y) h ty e = sound_truth ty e
    own_sound (binary at op.Ne x y) h ty e = sound_truth ty e
    own_sound (binary at op.Gt x y) h ty e = sound_truth ty e
    own_sound (binary at op.Ge x y) h ty e = sound_truth ty e
    own_sound (binary at op.And x y) h ty e = sound_truth ty e
    own_sound (binary at op.Or x y) h ty e = sound_truth ty e
    own_sound (shift at left x amount) h ty e = own_sound x h ty e
    own_sound (cast at c x) h ty e = sound_some (Fix c) ty h.0 e
    own_sound (choose at branches last) h ty e =
        either_sound (branches_type p f branches) (own_type p f last) ty (λ g. branches_sound branches h.0 ty g)
        (λ g. own_sound last h.1 ty g) e

    pub branches_sound : (branches : Branches)
        → AreSound branches
        → (ty : SigType)
        → branches_type p f branches ≡ Some ty
        → IsSoundType ty
    branches_sound no_branch h ty e = sound_none ty e
    branches_sound (branch condition x rest) h ty e =
        either_sound (own_type p f x) (branches_type p f rest) ty (λ g. own_sound x h.1 ty g)
        (λ g. branches_sound rest h.2 ty g) e

  pub factor_sound : (x y : Expr)
      → IsSound x
      → IsSound y
      → (ty : SigType)
      → factor_type p f x y ≡ Some ty
      → IsSoundType ty
  factor_sound (literal (Number negative digits places at)) y h k ty e = own_sound y k ty e
  factor_sound (literal (Truth value at)) y h k ty e = own_sound (literal (Truth value at)) h ty e
  factor_sound (read place delay) y h k ty e = own_sound (read place delay) h ty e
  factor_sound (negate at x) y h k ty e = own_sound (negate at x) h ty e
  factor_sound (not at x) y h k ty e = own_sound (not at x) h ty e
  factor_sound (binary at o x z) y h k ty e = own_sound (binary at o x z) h ty e
  factor_sound (shift at left x amount) y h k ty e = own_sound (shift at left x amount) h ty e
  factor_sound (cast at c x) y h k ty e = own_sound (cast at c x) h ty e
  factor_sound (choose at branches last) y h k ty e = own_sound (choose at branches last) h ty e

  pub common_sound : (x y : Expr)
      → IsSound x
      → IsSound y
      → (ty : SigType)
      → common_type p f x y ≡ Some ty
      → IsSoundType ty
  common_sound x y h k ty e =
      either_sound (own_type p f x) (own_type p f y) ty (λ g. own_sound x h ty g) (λ g. own_sound y k ty g) e
