-- A sound flat program, one fact for each rule.
use Rattle.std.specs.Prelude.{◌≡◌, ℕ, ◌^◌, ◌<◌, ◌≤◌, length, slice_get, All, sum_by, IsSomeAnd, Some}
use Rattle.fix_word.specs.Words.{IsWord, IsWidth, IsMachineWord, IsFormat}
use Rattle.fix_word.specs.declared.operation.Op.{Op}
use Rattle.fix_word.specs.declared.types.Format.{Format}
use Rattle.fix_word.specs.declared.types.SigType.{SigType}
use Rattle.signal_graph.specs.Operations.{Class, quantised, truth, choice, operands, class_of, IsCalculation}
use Rattle.signal_graph.specs.Rules.{max_delay, IsWithin, IsType, width_of, IsInType, plain, AreInits}
use Rattle.signal_graph.specs.Flat.{Expr, raw, read, calculation, Parts, no_part, part, Body, word, value, Element}
use Rattle.signal_graph.specs.Flat.{Program, count, size_of_body}

-- a choice's format
pub record IsChoiceFormat (fmt : Format) : Type 0 where
  pub width : IsWidth fmt.width
  pub plain : fmt ≡ plain fmt.width

-- the format of a calculation in a flat program
abbrev pub IsFlatFormat : Class → Format → Type 0
IsFlatFormat quantised fmt = IsFormat fmt
IsFlatFormat choice fmt = IsChoiceFormat fmt
IsFlatFormat _ fmt = fmt ≡ plain 0

-- a calculation with this many parts
pub record IsCalculationOf (o : Op) (format : Format) (part_count : ℕ) : Type 0 where
  pub calculation : IsCalculation (class_of o)
  pub parts : part_count ≡ operands o
  pub fmt : IsFlatFormat (class_of o) format

-- the words of a calculation have w bits; for a choice that is so where its choices' have
abbrev pub GivesWidth : Class → Format → (ChoicesFit : Type 0) → (w : ℕ) → Type 0
GivesWidth quantised fmt ChoicesFit w = fmt.width ≡ w
GivesWidth truth fmt ChoicesFit w = w ≡ 2
GivesWidth choice fmt ChoicesFit w = (fmt.width ≡ w) × ChoicesFit
GivesWidth _ fmt ChoicesFit w = ⊥

module _ (p : Program) where
  -- the element that is read is there, and the delay is not too long
  pub record IsRead (e ago : ℕ) : Type 0 where
    pub element : e < length p.elems
    pub delay : ago ≤ max_delay

  abbrev mutual
    pub IsExpr : Expr → Type 0
    IsExpr (raw m) = IsMachineWord m
    IsExpr (read e ago) = IsRead e ago
    IsExpr (calculation o fmt parts) = IsCalculationOf o fmt (count parts) × AreExprs parts

    pub AreExprs : Parts → Type 0
    AreExprs no_part = Unit {0}
    AreExprs (part x rest) = IsExpr x × AreExprs rest

  abbrev mutual
    -- the expression's words have w bits
    pub Fits : Expr → (w : ℕ) → Type 0
    Fits (raw m) w = IsWord w m
    Fits (read e ago) w = IsSomeAnd (slice_get p.elems e) (λ (element : Element). width_of element.ty ≡ w)
    Fits (calculation o fmt parts) w = GivesWidth (class_of o) fmt (ChoicesFit parts w) w

    -- the same of all parts but the first, which is the condition
    pub ChoicesFit : Parts → (w : ℕ) → Type 0
    ChoicesFit no_part w = Unit {0}
    ChoicesFit (part condition choices) w = AllFit choices w

    pub AllFit : Parts → (w : ℕ) → Type 0
    AllFit no_part w = Unit {0}
    AllFit (part x rest) w = Fits x w × AllFit rest w

  -- an expression for an element of the type
  pub record IsValueOf (ty : SigType) (x : Expr) : Type 0 where
    pub sound : IsExpr x
    pub fits : Fits x (width_of ty)

  -- an input word has the element's type
  abbrev pub IsBodyOf : SigType → Body → Type 0
  IsBodyOf ty (word j) = slice_get p.inputs j ≡ Some ty
  IsBodyOf ty (value x) = IsValueOf ty x

  pub record IsElement (element : Element) : Type 0 where
    pub ty : IsType element.ty
    pub body : IsBodyOf element.ty element.body
    pub inits : AreInits (IsInType element.ty) element.inits

-- the flat program is sound
pub record IsFlat (p : Program) : Type 0 where
  pub input_count : IsWithin 1 16 (length p.inputs)
  pub inputs : All IsType p.inputs
  pub out_count : IsWithin 1 16 (length p.outs)
  pub outs : All (λ (e : ℕ). e < length p.elems) p.outs
  pub element_count : length p.elems ≤ 8192
  pub elements : All (IsElement p) p.elems
  pub size : sum_by (λ (element : Element). size_of_body element.body) p.elems ≤ 2 ^ 17
