-- The flat program of a program: one element for each scalar signal of an instance, with what defines it there, where
-- the index of each loop around has its value.
use Rattle.std.specs.Prelude.{◌≡◌, ℕ, List, map, length, slice_get, Contains, Option, Some, None, ℤ}
use Rattle.std.specs.List.{AllZip}
use Rattle.std.specs.List.Sorted.{IsStrictlyIncreasing}
use Rattle.silage_syntax.specs.declared.tree.ConstDef.{ConstDef}
use Rattle.silage_syntax.specs.declared.tree.Decl.{Decl}
use Rattle.silage_syntax.specs.declared.tree.Lit.{Lit}
use Rattle.silage_syntax.specs.Tree.{Manifest, Place, Program}
use Rattle.silage_syntax.specs.Manifests.{LooksBack}
use Rattle.silage_syntax.specs.Names.{declared, table_named, IsOffset}
use Rattle.silage_meaning.specs.Instances.{Element, element, IsElement, Site, IsSignal, outputs}
use Rattle.silage_meaning.specs.Types.{IsRawWord}
use Rattle.silage_meaning.specs.Solves.{Source, word, value, same, number, IsDefined, IsPreset, input_types}
use Rattle.element_rules.specs.declared.elements.Elements.{Elements}
use Rattle.type_rules.specs.TypedTree as typed
use Rattle.type_rules.specs.TypedValue.{HasFormat}
use Rattle.type_rules.specs.Translation.{typed_expr, typed_table}
use Rattle.signal_graph.specs.Flat as flat
use Rattle.element_rules.specs.Numbers.{IsNumberOf}
use Rattle.fix_word.specs.declared.types.Format.{Format}
use Rattle.fix_word.specs.declared.types.SigType.{SigType}

-- the raw word of number k of a table
abbrev pub IsTableWord : ConstDef → ℕ → ℤ → Type 0
IsTableWord c k v = slice_get (typed_table c).words k ≡ Some v

-- At a site of a program whose elements have these numbers.
module _ (p : Program) (es : Elements) (s : Site) where
  -- a signal is read by its number, with the delay worked out, and a table's number is a raw word
  pub data IsFlatRead (place : Place) (delay : Option Manifest) : flat.Expr → Type 0 where
    of_signal : (d k ago number : ℕ) (decl : Decl)
        → IsSignal s place d decl k
        → LooksBack s.indices delay ago
        → IsNumberOf es number (element s.instance d k)
        → IsFlatRead place delay (flat.read number ago)
    of_table : (k : ℕ) (c : ConstDef) (v : ℤ)
        → declared s.function place.name ≡ None
        → table_named p place.name ≡ Some c
        → IsOffset s.indices c.dims place.subs k
        → delay ≡ None
        → IsTableWord c k v
        → IsFlatRead place delay (flat.raw v)

  abbrev mutual
    -- the flat expression of a typed one; the amount of a shift is in its format
    pub IsFlatExpr : typed.TypedExpr → flat.Expr → Type 0
    IsFlatExpr (typed.raw z) y = y ≡ flat.raw z
    IsFlatExpr (typed.read place delay) y = IsFlatRead place delay y
    IsFlatExpr (typed.node o fmt parts amount) y =
        (at : Format) × (ys : flat.Parts) × HasFormat s.indices fmt amount at × AreFlatParts parts ys
        × (y ≡ flat.calculation o at ys)

    pub AreFlatParts : typed.Parts → flat.Parts → Type 0
    AreFlatParts typed.no_part ys = ys ≡ flat.no_part
    AreFlatParts (typed.part x rest) ys =
        (y : flat.Expr) × (others : flat.Parts) × IsFlatExpr x y × AreFlatParts rest others
        × (ys ≡ flat.part y others)

-- the initial values that the program gives the element, each at its k for sample -k, by rising k
pub record AreInitsOf (p : Program) (e : Element) (inits : List (ℕ × ℤ)) : Type 0 where
  pub rise : IsStrictlyIncreasing (map (λ (i : ℕ × ℤ). i.0) inits)
  pub given : (k : ℕ) (v : ℤ)
      → Contains inits (k, v)
      → (l : Lit) × (ty : SigType) × IsPreset p e k l ty × IsRawWord l ty v
  pub all : (k : ℕ) (l : Lit) (ty : SigType)
      → IsPreset p e k l ty
      → (v : ℤ) × IsRawWord l ty v × Contains inits (k, v)

-- In a program whose elements have these numbers.
module _ (p : Program) (es : Elements) where
  -- what defines an element, as a body: a word of the input row, the expression in the instance and turns in which it
  -- is, the other element, or the number of the table
  abbrev pub IsBodyOf : Source → flat.Body → Type 0
  IsBodyOf (word j) body = body ≡ flat.word j
  IsBodyOf (value s x ty) body =
      (y : flat.Expr) × IsFlatExpr p es s (typed_expr p s.function x ty) y × (body ≡ flat.value y)
  IsBodyOf (same e theirs ours) body = (k : ℕ) × IsNumberOf es k e × (body ≡ flat.value (flat.read k 0))
  IsBodyOf (number c k ty) body = (v : ℤ) × IsTableWord c k v × (body ≡ flat.value (flat.raw v))

  -- what the flat program has in the place of an element: its type, its definition and its initial values
  pub record IsFlatElement (e : Element) (x : flat.Element) : Type 0 where
    pub is : IsElement p e
    pub ty : x.ty ≡ is.decl.ty
    pub source : Source
    pub defined : IsDefined p e source
    pub body : IsBodyOf source x.body
    pub inits : AreInitsOf p e x.inits

  -- the flat program has each element of the program, by its number
  pub record IsFlatOf (f : flat.Program) : Type 0 where
    pub count : length f.elems ≡ length es.elements
    pub elements : (k : ℕ) (e : Element) (x : flat.Element)
        → IsNumberOf es k e
        → slice_get f.elems k ≡ Some x
        → IsFlatElement e x
    pub inputs : f.inputs ≡ input_types p
    pub outs : AllZip (IsNumberOf es) f.outs (outputs p)
