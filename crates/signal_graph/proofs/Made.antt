-- What is made at the places of a sound program is sound.
use Rattle.std.proofs.Common.{◌≡◌, refl, sym, subst, ap, ◌∙◌, arith, ℕ, ◌+◌, ◌-◌, ◌<◌, ◌≤◌, Bool, true, false, List, []}
use Rattle.std.proofs.Common.{◌∷◌, length}
use Rattle.std.specs.Prelude.{slice_get, All, Some}
use Rattle.std.proofs.lemmas.Int.{ints}
use Rattle.std.proofs.lemmas.Option.{same_Some, slice_get_within}
use Rattle.std.proofs.lemmas.List.{length-append}
use Rattle.std.proofs.lemmas.List.Elements.{All-nil, All-cons, All-append, All-push, All-same, All-contains}
use Rattle.fix_word.specs.Words.{IsWidth, IsMachineWord}
use Rattle.fix_word.specs.declared.operation.Op.{Op}
use Rattle.fix_word.specs.declared.operation.Op.TheVariants as op
use Rattle.fix_word.specs.declared.types.Format.{Format}
use Rattle.signal_graph.specs.Operations.{Class, quantised, truth, choice, class_of, operands}
use Rattle.signal_graph.specs.Rules.{max_delay, plain}
use Rattle.signal_graph.specs.Flat.{Expr, raw, read, calculation, Parts, no_part, part, Body, word, value, Program}
use Rattle.signal_graph.specs.Flat.{size, count}
use Rattle.signal_graph.specs.FlatRules.{IsCalculationOf, GivesWidth, IsExpr, AreExprs, ChoicesFit, IsBodyOf, IsFlat}
use Rattle.signal_graph.specs.FlatSolves.{no_element, element_of}
use Rattle.signal_graph.specs.GraphOf.{Operand, number, place, element, Made, nothing, constant, input, operation}
use Rattle.signal_graph.specs.GraphOf.{operand_at, operands_from, made_by, made_by_parts, has_pass, pass, Site}
use Rattle.signal_graph.specs.GraphOf.{node_width}
use Rattle.signal_graph.proofs.Members.{at_member}
use Rattle.signal_graph.proofs.Places.{made_of, IsPlace}
use Rattle.signal_graph.proofs.Parts.{length_made}
use Rattle.signal_graph.proofs.Bodies.{its_width, input_made, with_pass, value_made, pass_made, calculation_made}
use Rattle.signal_graph.proofs.Bodies.{word_made}
use Rattle.signal_graph.proofs.Fits.{type_bits}

-- the delay of the operand is allowed
abbrev pub IsOperand : Operand → Type 0
IsOperand (number m) = Unit {0}
IsOperand (place k) = Unit {0}
IsOperand (element e ago) = ago ≤ max_delay

-- the width of an operation's node
abbrev pub width_made : Made → ℕ
width_made (operation o fmt operands) = node_width (class_of o) fmt
width_made _ = 0

count_operands : (k : ℕ) (parts : Parts) → length (operands_from k parts) ≡ count parts
count_operands k no_part = refl
count_operands k (part x rest) = omega (arith, count_operands (k + size x) rest)

-- a Pass has a format and an operand
pass_calculation : (w : ℕ) → IsWidth w → IsCalculationOf op.Pass (plain w) 1
pass_calculation w bits = record {
  calculation = tt {0};
  parts = refl;
  fmt = record { lowest = omega (arith, ints); highest = omega (arith, ints); width = bits };
}

gives_width : (class : Class) (fmt : Format) (C : Type 0) (w : ℕ) → GivesWidth class fmt C w → node_width class fmt ≡ w
gives_width quantised fmt C w h = h
gives_width truth fmt C w h = sym h
gives_width choice fmt C w h = h.0
gives_width _ fmt C w h = absurd h

module _ (p : Program) where
  abbrev pub IsSoundMade : Made → Type 0
  IsSoundMade nothing = Unit {0}
  IsSoundMade (constant m) = IsMachineWord m
  IsSoundMade (input j) = j < length p.inputs
  IsSoundMade (operation o fmt operands) = IsCalculationOf o fmt (length operands) × All IsOperand operands

  single : (m : Made) → IsSoundMade m → All IsSoundMade (m ∷ [])
  single m h = All-cons IsSoundMade m [] h (All-nil IsSoundMade)

  operand_sound : (x : Expr) (k : ℕ) → IsExpr p x → IsOperand (operand_at k x)
  operand_sound (raw m) k is = tt {0}
  operand_sound (read e ago) k is = is.delay
  operand_sound (calculation o fmt parts) k is = tt {0}

  operands_sound : (parts : Parts) (k : ℕ) → AreExprs p parts → All IsOperand (operands_from k parts)
  operands_sound no_part k are = All-nil IsOperand
  operands_sound (part x rest) k are =
      All-cons IsOperand (operand_at (k + size x - 1) x) (operands_from (k + size x) rest)
      (operand_sound x (k + size x - 1) are.0) (operands_sound rest (k + size x) are.1)

  mutual
    sound_made : (x : Expr) (k : ℕ) → IsExpr p x → All IsSoundMade (made_by k x)
    sound_made (raw m) k is = single (constant m) is
    sound_made (read e ago) k is = single nothing (tt {0})
    sound_made (calculation o fmt parts) k is =
        All-push IsSoundMade (made_by_parts k parts) (operation o fmt (operands_from k parts))
        (sound_parts parts k is.1)
        (subst (λ (n : ℕ). IsCalculationOf o fmt n) (sym (count_operands k parts)) is.0, operands_sound parts k is.1)

    sound_parts : (parts : Parts) (k : ℕ) → AreExprs p parts → All IsSoundMade (made_by_parts k parts)
    sound_parts no_part k are = All-nil IsSoundMade
    sound_parts (part x rest) k are =
        All-append IsSoundMade (made_by k x) (made_by_parts (k + size x) rest) (sound_made x k are.0)
        (sound_parts rest (k + size x) are.1)

  module _ (sound : IsFlat p) (e : ℕ) (el : e < length p.elems) where
    its_body : (body : Body) → (element_of p e).body ≡ body → IsBodyOf p (element_of p e).ty body
    its_body body h = subst (λ (b : Body). IsBodyOf p (element_of p e).ty b) h (sound.elements e no_element el).body

    pub its_bits : IsWidth (its_width p e)
    its_bits = type_bits (element_of p e).ty (sound.elements e no_element el).ty

    value_sound : (x : Expr) (b : Bool) → IsExpr p x → All IsSoundMade (with_pass p e x b)
    value_sound x true is =
        All-append IsSoundMade (made_by 0 x) (pass (its_width p e) x ∷ []) (sound_made x 0 is)
        (single (pass (its_width p e) x) (
          pass_calculation (its_width p e) its_bits,
          All-cons IsOperand (operand_at 0 x) [] (operand_sound x 0 is) (All-nil IsOperand),
        ))
    value_sound x false is = All-append IsSoundMade (made_by 0 x) [] (sound_made x 0 is) (All-nil IsSoundMade)

    body_sound : (body : Body) → (element_of p e).body ≡ body → All IsSoundMade (made_of p e)
    body_sound (word j) h =
        All-same IsSoundMade (made_of p e) (input j ∷ []) (input_made p e j h)
        (single (input j) (slice_get_within p.inputs j (element_of p e).ty (its_body (word j) h)))
    body_sound (value x) h =
        All-same IsSoundMade (made_of p e) (with_pass p e x (has_pass p e x)) (value_made p e x (has_pass p e x) h refl)
        (value_sound x (has_pass p e x) (its_body (value x) h).sound)

    pub all_sound : All IsSoundMade (made_of p e)
    all_sound = body_sound (element_of p e).body refl

    -- what is made at the last place of an element has its width
    last_is : (k l : ℕ) (m n : Made)
        → slice_get (made_of p e) k ≡ Some m
        → slice_get (made_of p e) l ≡ Some n
        → k + 1 ≡ length (made_of p e)
        → l + 1 ≡ length (made_of p e)
        → m ≡ n
    last_is k l m n at there last also =
        let same : k ≡ l = omega arith in
        same_Some m n (sym at ∙ ap (λ (i : ℕ). slice_get (made_of p e) i) same ∙ there)

    count_value : (x : Expr) (b : Bool)
        → (element_of p e).body ≡ value x
        → has_pass p e x ≡ b
        → length (made_of p e) ≡ length (with_pass p e x b)
    count_value x b h is = ap (λ (ms : List Made). length ms) (value_made p e x b h is)

    last_of_value : (x : Expr) (b : Bool)
        → (element_of p e).body ≡ value x
        → has_pass p e x ≡ b
        → (k : ℕ) (o : Op) (fmt : Format) (os : List Operand)
        → slice_get (made_of p e) k ≡ Some (operation o fmt os)
        → k + 1 ≡ length (made_of p e)
        → node_width (class_of o) fmt ≡ its_width p e
    last_of_value x true h is k o fmt os at last =
        let also : size x + 1 ≡ length (made_of p e) =
        omega
        (arith, count_value x true h is, length-append (made_by 0 x) (pass (its_width p e) x ∷ []), length_made 0 x) in
        ap width_made
        (last_is k (size x) (operation o fmt os) (pass (its_width p e) x) at (pass_made p e x h is) last also)
    last_of_value (raw m) false h is k o fmt os at last =
        let also : 0 + 1 ≡ length (made_of p e) = omega (arith, count_value (raw m) false h is) in
        absurd (differ (constant m) (last_is k 0 (operation o fmt os) (constant m) at (word_made p e m h) last also))
      where
        differ : (made : Made) → operation o fmt os ≡ constant m → ⊥
        differ made same = cc
    last_of_value (read d ago) false h is k o fmt os at last =
        let also : 0 + 1 ≡ length (made_of p e) = omega (arith, count_value (read d ago) false h is) in
        absurd (differ (last_is k 0 (operation o fmt os) nothing at there last also))
      where
        differ : operation o fmt os ≡ nothing → ⊥
        differ same = cc

        there : slice_get (made_of p e) 0 ≡ Some nothing
        there = ap (λ (ms : List Made). slice_get ms 0) (value_made p e (read d ago) false h is)
    last_of_value (calculation q f parts) false h is k o fmt os at last =
        let x = calculation q f parts in
        let also : size x - 1 + 1 ≡ length (made_of p e) =
        omega (arith, count_value x false h is, length-append (made_by 0 x) [], length_made 0 x) in
        ap width_made
        (last_is k (size x - 1) (operation o fmt os) (operation q f (operands_from 0 parts)) at
        (calculation_made p e q f parts h) last also)
        ∙ gives_width (class_of q) f (ChoicesFit p parts (its_width p e)) (its_width p e) (its_body (value x) h).fits

    last_of_body : (body : Body)
        → (element_of p e).body ≡ body
        → (k : ℕ) (o : Op) (fmt : Format) (os : List Operand)
        → slice_get (made_of p e) k ≡ Some (operation o fmt os)
        → k + 1 ≡ length (made_of p e)
        → node_width (class_of o) fmt ≡ its_width p e
    last_of_body (word j) h k o fmt os at last =
        let also : 0 + 1 ≡ length (made_of p e) =
        omega (arith, ap (λ (ms : List Made). length ms) (input_made p e j h)) in
        absurd
        (differ
        (last_is k 0 (operation o fmt os) (input j) at (ap (λ (ms : List Made). slice_get ms 0) (input_made p e j h))
        last also))
      where
        differ : operation o fmt os ≡ input j → ⊥
        differ same = cc
    last_of_body (value x) h k o fmt os at last = last_of_value x (has_pass p e x) h refl k o fmt os at last

    pub last_width : (k : ℕ) (o : Op) (fmt : Format) (os : List Operand)
        → slice_get (made_of p e) k ≡ Some (operation o fmt os)
        → k + 1 ≡ length (made_of p e)
        → node_width (class_of o) fmt ≡ its_width p e
    last_width = last_of_body (element_of p e).body refl

  pub place_sound : (sound : IsFlat p) (s : Site) → IsPlace p s → IsSoundMade s.made
  place_sound sound s is =
      All-contains IsSoundMade (made_of p s.element) s.made (all_sound sound s.element is.element)
      (at_member (made_of p s.element) s.place s.made is.made)
