-- The names of an expression are known: those of its parts, and of one that has a flat expression.
use Rattle.std.proofs.Common.{◌≡◌, ◌<◌, ◌≤◌, ◌+◌, ◌∙◌, ℕ, zero, suc, List, [], ◌∷◌, length, get_or, Option, Some, sym}
use Rattle.std.proofs.Common.{subst, ap, arith, pos}
use Rattle.std.specs.Prelude.{is_some}
use Rattle.std.proofs.lemmas.Int.{ints}
use Rattle.std.proofs.lemmas.Option.{slice_get_within}
use Rattle.silage_syntax.specs.Names.{decls, declared, IsOffset}
use Rattle.element_rules.specs.Sizes.{first_of}
use Rattle.fix_word.specs.declared.types.Format.{Format}
use Rattle.fix_word.specs.declared.operation.Op.{Op}
use Rattle.signal_graph.specs.Operations.{Class, input, output, constant, quantised, truth, choice, memory, class_of}
use Rattle.signal_graph.specs.FlatRules.{IsFlatFormat}
use Rattle.type_rules.specs.TypedValue.{HasFormat, as_it_is, by_amount}
use Rattle.type_rules.specs.declared.typed.TypedConst.{TypedConst}
use Rattle.lists.proofs.Places.{some_once}
use Rattle.loop_expand.specs.Private.Amounts.{IsShift, IsKnownAmount}
use Rattle.silage_syntax.specs.declared.tree.Decl.{Decl}
use Rattle.silage_meaning.specs.Instances.{element, Site, IsSignal}
use Rattle.silage_syntax.specs.Manifests.{Indices, LooksBack, no_delay}
use Rattle.silage_syntax.specs.Tree.{Manifest, Place, Program}
use Rattle.element_rules.specs.declared.elements.Elements.{Elements}
use Rattle.type_rules.specs.TypedTree as typed
use Rattle.type_rules.specs.declared.typed.TypedExpr.{TypedExpr}
use Rattle.signal_graph.specs.Flat as flat
use Rattle.element_rules.specs.Numbers.{IsNumberOf}
use Rattle.loop_expand.specs.FlatOf.{IsFlatExpr, AreFlatParts, of_signal, of_table, IsFlatRead}
use Rattle.loop_expand.specs.Private.Facts.{signal_named}
use Rattle.loop_expand.specs.Private.Known.{IsKnown, IsPlaced, IsKnownRead, IsKnownExpr, AreKnownParts}
use Rattle.loop_expand.specs.Private.Rows.{typed_exprs}
use Rattle.loop_expand.specs.Private.Scopes.{Signal, Scope, total}
use Rattle.loop_expand.proofs.FlatReads.{IsScope, signal_found, signal_unknown, table_is}
use Rattle.loop_expand.proofs.TypedSound.{HasFormats, IsAllowed, AreAllowed}

-- how many raw words, reads and operations there are
abbrev mutual
  pub size_of : typed.TypedExpr → ℕ
  size_of (typed.raw z) = 1
  size_of (typed.read place delay) = 1
  size_of (typed.node o fmt parts amount) = 1 + size_in parts

  pub size_in : typed.Parts → ℕ
  size_in typed.no_part = 1
  size_in (typed.part x rest) = size_of x + size_in rest

some : (ys : typed.Parts) → 1 ≤ size_in ys
some typed.no_part = omega arith
some (typed.part y ys) = omega (arith, some ys)

pub smaller : (parts : List TypedExpr) (i : ℕ) (x : TypedExpr)
    → i < length parts
    → x ≡ get_or parts i x
    → size_of (typed.view_expr x) < size_in (typed_exprs parts)
smaller [] i x less e = absurd (omega arith)
smaller (y ∷ parts) zero x less e = omega (arith, ap (λ z. size_of (typed.view_expr z)) e, some (typed_exprs parts))
smaller (y ∷ parts) (suc i) x less e = omega (arith, smaller parts i x (omega arith) e)

pub known_at : (c : Scope) (indices : Indices) (parts : List TypedExpr) (i : ℕ) (x : TypedExpr)
    → i < length parts
    → x ≡ get_or parts i x
    → AreKnownParts c indices (typed_exprs parts)
    → IsKnownExpr c indices (typed.view_expr x)
known_at c indices [] i x less e all = absurd (omega arith)
known_at c indices (y ∷ parts) zero x less e all = subst (λ z. IsKnownExpr c indices (typed.view_expr z)) (sym e) all.0
known_at c indices (y ∷ parts) (suc i) x less e all = known_at c indices parts i x (omega arith) e all.1

-- the shift of a format that is allowed
plain_shift : IsShift (pos 0)
plain_shift = record { lowest = omega (arith, ints); highest = omega (arith, ints) }

shift_allowed : (class : Class) (at : Format) → IsFlatFormat class at → IsShift at.shift
shift_allowed quantised at is = record { lowest = is.lowest; highest = is.highest }
shift_allowed choice at is = subst (λ (z : Format). IsShift z.shift) (sym is.plain) plain_shift
shift_allowed truth at is = subst (λ (z : Format). IsShift z.shift) (sym is) plain_shift
shift_allowed input at is = subst (λ (z : Format). IsShift z.shift) (sym is) plain_shift
shift_allowed output at is = subst (λ (z : Format). IsShift z.shift) (sym is) plain_shift
shift_allowed constant at is = subst (λ (z : Format). IsShift z.shift) (sym is) plain_shift
shift_allowed memory at is = subst (λ (z : Format). IsShift z.shift) (sym is) plain_shift

module _ (p : Program) (es : Elements) (s : Site) (c : Scope) (is : IsScope p es s.instance s.function c)
    (all : total c ≡ length es.elements) where
  pub signal_there : (name : List ℕ) (d : ℕ) (decl : Decl)
      → declared s.function name ≡ Some (d, decl)
      → (q : Signal) × (signal_named c.signals name ≡ Some q)
  signal_there name d decl named =
      (_, ap (λ (ss : List Signal). signal_named ss name) is.signals ∙ signal_found s.function name d decl named)

  pub signal_known : (name : List ℕ) (d : ℕ) (decl : Decl) → declared s.function name ≡ Some (d, decl) → IsKnown c name
  signal_known name d decl named none = let q = signal_there name d decl named in absurd (cc (sym none ∙ q.1))

  -- its subscripts pick an element
  pub signal_placed : (place : Place) (d k n : ℕ) (decl : Decl)
      → IsSignal s place d decl k
      → IsNumberOf es n (element s.instance d k)
      → IsPlaced c s.indices place
  signal_placed place d k n decl signal number q found =
      let there : signal_named c.signals place.name
      ≡ Some (record { decl = decl; first = first_of (decls s.function) d }) =
      ap (λ (ss : List Signal). signal_named ss place.name) is.signals
      ∙ signal_found s.function place.name d decl signal.named in
      let same = some_once there found in
      let less : c.first + first_of (decls s.function) d + k < total c =
      omega (arith, is.number n d k number, slice_get_within es.elements n _ number.listed, all) in (
        k,
        subst (λ (z : Signal). IsOffset s.indices z.decl.dims place.subs k) same signal.placed,
        subst (λ (z : Signal). c.first + z.first + k < total c) same less,
      )

  read_known : (place : Place) (delay : Option Manifest) (y : flat.Expr)
      → IsFlatRead p es s place delay y
      → IsKnownRead c s.indices place delay
  read_known place delay _ (of_signal d k ago number decl signal looks numbered) = record {
    known = signal_known place.name d decl signal.named;
    placed = signal_placed place d k number decl signal numbered;
    entry = λ t none. let q = signal_there place.name d decl signal.named in absurd (cc (sym none ∙ q.1));
    back = (ago, looks);
  }
  read_known place delay _ (of_table k t v unknown named placed none word) = record {
    known = λ no. ap is_some (table_is p es s c is place.name t named);
    placed = λ q found.
        absurd (cc (sym
        (ap (λ (ss : List Signal). signal_named ss place.name) is.signals
        ∙ signal_unknown s.function place.name unknown) ∙ found));
    entry = λ u no found.
        let same = some_once (table_is p es s c is place.name t named) found in
        (k, subst (λ (z : TypedConst). IsOffset s.indices z.dims place.subs k) same placed);
    back = (0, subst (λ o. LooksBack s.indices o 0) (sym none) no_delay);
  }

  amount_known : (o : Op) (fmt : Format) (amount : Option Manifest) (at : Format)
      → HasFormats o fmt amount
      → HasFormat s.indices fmt amount at
      → IsKnownAmount s.indices fmt amount
  amount_known o fmt _ _ allowed as_it_is = tt
  amount_known o fmt _ _ allowed (by_amount {k = k} is) =
      (k, is.value, shift_allowed (class_of o) _ (allowed s.indices _ (by_amount is)).0)

  mutual
    pub flat_known : (x : typed.TypedExpr) (y : flat.Expr)
        → IsAllowed x
        → IsFlatExpr p es s x y
        → IsKnownExpr c s.indices x
    flat_known (typed.raw z) y allowed h = tt
    flat_known (typed.read place delay) y allowed h = read_known place delay y h
    flat_known (typed.node o fmt parts amount) y allowed (at, ys, format, all, e) =
        (amount_known o fmt amount at allowed.2 format, parts_known parts ys allowed.3 all)

    parts_known : (parts : typed.Parts) (ys : flat.Parts)
        → AreAllowed parts
        → AreFlatParts p es s parts ys
        → AreKnownParts c s.indices parts
    parts_known typed.no_part ys allowed h = tt
    parts_known (typed.part x rest) ys allowed (y, others, one, all, e) =
        (flat_known x y allowed.0 one, parts_known rest others allowed.1 all)
