-- A sound flat program is sound with other outputs too.
use Rattle.std.proofs.Common.{sym, subst, ℕ, ◌<◌, List, length}
use Rattle.std.specs.List.{All}
use Rattle.std.proofs.lemmas.List.{length-map}
use Rattle.std.proofs.lemmas.List.Elements.{All-weaker}
use Rattle.fix_word.specs.declared.types.Format.{Format}
use Rattle.fix_word.specs.declared.types.SigType.{SigType}
use Rattle.signal_graph.specs.Operations.{Class, input, output, constant, quantised, truth, choice, memory, class_of}
use Rattle.signal_graph.specs.Rules.{IsWithin}
use Rattle.signal_graph.specs.Flat.{Expr, raw, read, calculation, Parts, no_part, part, Body, word, value, Element}
use Rattle.signal_graph.specs.Flat.{Program, view, view_elem}
use Rattle.signal_graph.specs.FlatRules.{GivesWidth, IsExpr, AreExprs, Fits, ChoicesFit, AllFit, IsBodyOf, IsElement}
use Rattle.signal_graph.specs.FlatRules.{IsFlat}
use Rattle.signal_graph.specs.declared.flat.FlatProgram.{FlatProgram}

abbrev with_outs : Program → List ℕ → Program
with_outs p outs = record p { outs = outs }

gives : (class : Class) (fmt : Format) (A B : Type 0) (w : ℕ)
    → (A → B)
    → GivesWidth class fmt A w
    → GivesWidth class fmt B w
gives input fmt A B w f h = h
gives output fmt A B w f h = h
gives constant fmt A B w f h = h
gives quantised fmt A B w f h = h
gives truth fmt A B w f h = h
gives choice fmt A B w f h = (h.0, f h.1)
gives memory fmt A B w f h = h

module _ (p : Program) (outs : List ℕ) where
  mutual
    expr : (x : Expr) → IsExpr p x → IsExpr (with_outs p outs) x
    expr (raw m) h = h
    expr (read e ago) h = record { element = h.element; delay = h.delay }
    expr (calculation o fmt parts) h = (h.0, exprs parts h.1)

    exprs : (parts : Parts) → AreExprs p parts → AreExprs (with_outs p outs) parts
    exprs no_part h = h
    exprs (part x rest) h = (expr x h.0, exprs rest h.1)

  mutual
    fits : (x : Expr) (w : ℕ) → Fits p x w → Fits (with_outs p outs) x w
    fits (raw m) w h = h
    fits (read e ago) w h = h
    fits (calculation o fmt parts) w h =
        gives (class_of o) fmt (ChoicesFit p parts w) (ChoicesFit (with_outs p outs) parts w) w (choices parts w) h

    choices : (parts : Parts) (w : ℕ) → ChoicesFit p parts w → ChoicesFit (with_outs p outs) parts w
    choices no_part w h = h
    choices (part condition rest) w h = all_fit rest w h

    all_fit : (parts : Parts) (w : ℕ) → AllFit p parts w → AllFit (with_outs p outs) parts w
    all_fit no_part w h = h
    all_fit (part x rest) w h = (fits x w h.0, all_fit rest w h.1)

  body : (ty : SigType) (b : Body) → IsBodyOf p ty b → IsBodyOf (with_outs p outs) ty b
  body ty (word j) h = h
  body ty (value x) h = record { sound = expr x h.sound; fits = fits x _ h.fits }

  element : (e : Element) → IsElement p e → IsElement (with_outs p outs) e
  element e h = record { ty = h.ty; body = body e.ty e.body h.body; inits = h.inits }

  with_outputs : IsFlat p
      → IsWithin 1 16 (length outs)
      → All (λ (e : ℕ). e < length p.elems) outs
      → IsFlat (with_outs p outs)
  with_outputs is count within = record {
    input_count = is.input_count;
    inputs = is.inputs;
    out_count = count;
    outs = within;
    element_count = is.element_count;
    elements = All-weaker (IsElement p) (IsElement (with_outs p outs)) element p.elems is.elements;
    size = is.size;
  }

-- the outputs are elements
pub flat_with : (p : FlatProgram) (outs : List ℕ)
    → IsFlat (view p)
    → IsWithin 1 16 (length outs)
    → All (λ (e : ℕ). e < length p.elems) outs
    → IsFlat (view (record p { outs = outs }))
flat_with p outs is count within =
    with_outputs (view p) outs is count
    (subst (λ n. All (λ (e : ℕ). e < n) outs) (sym (length-map p.elems view_elem)) within)
