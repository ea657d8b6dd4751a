-- What stands at the places of an element, by its body.
use Rattle.std.proofs.Common.{◌≡◌, refl, sym, ap, ◌∙◌, subst, arith, ℕ, ◌+◌, ◌-◌, Bool, true, if◌then◌else◌, List, []}
use Rattle.std.proofs.Common.{◌∷◌, ◌++◌, length}
use Rattle.std.specs.Prelude.{ℤ, slice_get, Some}
use Rattle.lists.proofs.Places.{at_left, at_right}
use Rattle.fix_word.specs.declared.operation.Op.{Op}
use Rattle.fix_word.specs.declared.types.Format.{Format}
use Rattle.signal_graph.specs.Rules.{width_of}
use Rattle.signal_graph.specs.Flat.{Expr, raw, calculation, Parts, Body, word, value, Program, size}
use Rattle.signal_graph.specs.FlatSolves.{element_of}
use Rattle.signal_graph.specs.GraphOf.{Made, constant, input, operation, made_by, made_by_body, has_pass, pass}
use Rattle.signal_graph.specs.GraphOf.{operands_from}
use Rattle.signal_graph.proofs.Places.{made_of}
use Rattle.signal_graph.proofs.Parts.{length_made, Stands, calculation_stands}

module _ (p : Program) (e : ℕ) where
  abbrev pub its_width : ℕ
  its_width = width_of (element_of p e).ty

  pub input_made : (j : ℕ) → (element_of p e).body ≡ word j → made_of p e ≡ input j ∷ []
  input_made j h = ap (λ (b : Body). made_by_body p e its_width b) h

  abbrev pub with_pass : Expr → Bool → List Made
  with_pass x b = made_by 0 x ++ (if b then pass its_width x ∷ [] else [])

  pub value_made : (x : Expr) (b : Bool)
      → (element_of p e).body ≡ value x
      → has_pass p e x ≡ b
      → made_of p e ≡ with_pass x b
  value_made x b h is = ap (λ (body : Body). made_by_body p e its_width body) h ∙ ap (λ (c : Bool). with_pass x c) is

  -- the places of its expression come first
  pub value_stands : (x : Expr) → (element_of p e).body ≡ value x → Stands (made_of p e) 0 (made_by 0 x)
  value_stands x h i m at =
      let place : 0 + i ≡ i = omega arith in
      rw place (subst (λ (ms : List Made). slice_get ms i ≡ Some m) (sym (value_made x (has_pass p e x) h refl))
      (at_left (made_by 0 x) (if has_pass p e x then pass its_width x ∷ [] else []) i m at))

  -- then comes its Pass
  pub pass_made : (x : Expr)
      → (element_of p e).body ≡ value x
      → has_pass p e x ≡ true
      → slice_get (made_of p e) (size x) ≡ Some (pass its_width x)
  pass_made x h is =
      let place : length (made_by 0 x) + 0 ≡ size x = omega (arith, length_made 0 x) in
      subst (λ (ms : List Made). slice_get ms (size x) ≡ Some (pass its_width x)) (sym (value_made x true h is))
      (subst (λ (i : ℕ). slice_get (with_pass x true) i ≡ Some (pass its_width x)) place
      (at_right (made_by 0 x) (pass its_width x ∷ []) (length (made_by 0 x) + 0) 0 (pass its_width x) refl refl))

  pub calculation_made : (o : Op) (fmt : Format) (parts : Parts)
      → (element_of p e).body ≡ value (calculation o fmt parts)
      → slice_get (made_of p e) (size (calculation o fmt parts) - 1) ≡ Some (operation o fmt (operands_from 0 parts))
  calculation_made o fmt parts h =
      let place : 0 + size (calculation o fmt parts) - 1 ≡ size (calculation o fmt parts) - 1 = omega arith in
      subst (λ (i : ℕ). slice_get (made_of p e) i ≡ Some (operation o fmt (operands_from 0 parts))) place
      (calculation_stands (made_of p e) 0 o fmt parts (value_stands (calculation o fmt parts) h))

  pub word_made : (m : ℤ) → (element_of p e).body ≡ value (raw m) → slice_get (made_of p e) 0 ≡ Some (constant m)
  word_made m h = value_stands (raw m) h 0 (constant m) refl
