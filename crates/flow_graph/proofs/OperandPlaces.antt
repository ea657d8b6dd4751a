-- The operands of what is made at the places of an element name nodes that are there.
use Rattle.std.proofs.Common.{◌≡◌, refl, subst, ℕ, ◌+◌, ◌-◌, ◌<◌, Bool, true, false, [], ◌∷◌, length}
use Rattle.std.specs.Prelude.{slice_get, All, Some}
use Rattle.std.proofs.lemmas.Bool.{false≢true}
use Rattle.std.proofs.lemmas.List.Elements.{All-nil, All-cons, All-append, All-push, All-same}
use Rattle.signal_graph.specs.Flat.{Expr, raw, read, calculation, Parts, no_part, part, Body, word, value, Program}
use Rattle.signal_graph.specs.Flat.{size}
use Rattle.signal_graph.specs.FlatRules.{IsExpr, AreExprs, IsBodyOf, IsFlat}
use Rattle.signal_graph.specs.FlatSolves.{no_element, element_of}
use Rattle.signal_graph.specs.GraphOf.{Operand, number, place, element, Made, nothing, constant, input, operation}
use Rattle.signal_graph.specs.GraphOf.{operand_at, operands_from, made_by, made_by_parts, has_pass, pass}
use Rattle.signal_graph.proofs.Places.{made_of}
use Rattle.signal_graph.proofs.Numbers.{MakesNode}
use Rattle.signal_graph.proofs.Parts.{Stands, stands_first, calculation_stands, parts_stand, first_stands, rest_stands}
use Rattle.signal_graph.proofs.Bodies.{its_width, input_made, with_pass, value_made, value_stands, word_made}

module _ (p : Program) (e : ℕ) where
  -- the operand names a node
  abbrev pub IsNaming : Operand → Type 0
  IsNaming (number m) = (k : ℕ) × (slice_get (made_of p e) k ≡ Some (constant m))
  IsNaming (place k) = (made : Made) × (slice_get (made_of p e) k ≡ Some made) × MakesNode made
  IsNaming (element d ago) = d < length p.elems

  abbrev pub AreNaming : Made → Type 0
  AreNaming (operation o fmt os) = All IsNaming os
  AreNaming _ = Unit {0}

  one : (x : Expr) (k : ℕ)
      → IsExpr p x
      → Stands (made_of p e) k (made_by k x)
      → IsNaming (operand_at (k + size x - 1) x)
  one (raw m) k is stands = (k, stands_first (made_of p e) k (constant m) stands)
  one (read d ago) k is stands = is.element
  one (calculation o fmt parts) k is stands = (
    operation o fmt (operands_from k parts),
    calculation_stands (made_of p e) k o fmt parts stands,
    tt {0},
  )

  several : (parts : Parts) (k : ℕ)
      → AreExprs p parts
      → Stands (made_of p e) k (made_by_parts k parts)
      → All IsNaming (operands_from k parts)
  several no_part k are stands = All-nil IsNaming
  several (part x rest) k are stands =
      All-cons IsNaming (operand_at (k + size x - 1) x) (operands_from (k + size x) rest)
      (one x k are.0 (first_stands (made_of p e) k x rest stands))
      (several rest (k + size x) are.1 (rest_stands (made_of p e) k x rest stands))

  mutual
    named : (x : Expr) (k : ℕ) → IsExpr p x → Stands (made_of p e) k (made_by k x) → All AreNaming (made_by k x)
    named (raw m) k is stands = All-cons AreNaming (constant m) [] (tt {0}) (All-nil AreNaming)
    named (read d ago) k is stands = All-cons AreNaming nothing [] (tt {0}) (All-nil AreNaming)
    named (calculation o fmt parts) k is stands =
        let inner = parts_stand (made_of p e) k o fmt parts stands in
        All-push AreNaming (made_by_parts k parts) (operation o fmt (operands_from k parts))
        (parts_named parts k is.1 inner) (several parts k is.1 inner)

    parts_named : (parts : Parts) (k : ℕ)
        → AreExprs p parts
        → Stands (made_of p e) k (made_by_parts k parts)
        → All AreNaming (made_by_parts k parts)
    parts_named no_part k are stands = All-nil AreNaming
    parts_named (part x rest) k are stands =
        All-append AreNaming (made_by k x) (made_by_parts (k + size x) rest)
        (named x k are.0 (first_stands (made_of p e) k x rest stands))
        (parts_named rest (k + size x) are.1 (rest_stands (made_of p e) k x rest stands))

  pass_named : (x : Expr)
      → has_pass p e x ≡ true
      → (element_of p e).body ≡ value x
      → IsExpr p x
      → AreNaming (pass (its_width p e) x)
  pass_named (raw m) is h sound = All-cons IsNaming (number m) [] (0, word_made p e m h) (All-nil IsNaming)
  pass_named (read d ago) is h sound = All-cons IsNaming (element d ago) [] sound.element (All-nil IsNaming)
  pass_named (calculation o fmt parts) is h sound = absurd (false≢true is)

  value_named : (x : Expr) (b : Bool)
      → has_pass p e x ≡ b
      → (element_of p e).body ≡ value x
      → IsExpr p x
      → All AreNaming (with_pass p e x b)
  value_named x true is h sound =
      All-append AreNaming (made_by 0 x) (pass (its_width p e) x ∷ []) (named x 0 sound (value_stands p e x h))
      (All-cons AreNaming (pass (its_width p e) x) [] (pass_named x is h sound) (All-nil AreNaming))
  value_named x false is h sound =
      All-append AreNaming (made_by 0 x) [] (named x 0 sound (value_stands p e x h)) (All-nil AreNaming)

  module _ (sound : IsFlat p) (el : e < length p.elems) where
    its_body : (body : Body) → (element_of p e).body ≡ body → IsBodyOf p (element_of p e).ty body
    its_body body h =
        subst (λ (b : Body). IsBodyOf p (element_of p e).ty b) h (sound.elements e no_element el).body

    body_named : (body : Body) → (element_of p e).body ≡ body → All AreNaming (made_of p e)
    body_named (word j) h =
        All-same AreNaming (made_of p e) (input j ∷ []) (input_made p e j h)
        (All-cons AreNaming (input j) [] (tt {0}) (All-nil AreNaming))
    body_named (value x) h =
        All-same AreNaming (made_of p e) (with_pass p e x (has_pass p e x)) (value_made p e x (has_pass p e x) h refl)
        (value_named x (has_pass p e x) refl h (its_body (value x) h).sound)

    pub all_named : All AreNaming (made_of p e)
    all_named = body_named (element_of p e).body refl
