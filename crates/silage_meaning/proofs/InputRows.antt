-- A row has a word for each element.
use Rattle.std.proofs.Common.{◌≡◌, refl, sym, ◌∙◌, ap₂, ℕ, ◌+◌, List, [], ◌∷◌, length, length-append, Option}
use Rattle.std.proofs.Common.{Some, None, ℤ}
use Rattle.std.proofs.lemmas.List.{length-replicate}
use Rattle.std.proofs.lemmas.List.FromFn.{length-map-range_with_len}
use Rattle.lists.proofs.Zips.{zip_length}
use Rattle.silage_syntax.specs.declared.tree.Decl.{Decl}
use Rattle.silage_syntax.specs.Tree.{Func, Program}
use Rattle.silage_syntax.specs.Names.{element_count, main_of}
use Rattle.silage_meaning.specs.Instances.{Instance, main, element, elements_from, parameters_of, results_of, inputs}
use Rattle.silage_meaning.specs.Instances.{outputs}
use Rattle.silage_meaning.specs.Types.{IsInType, word_types}
use Rattle.silage_meaning.specs.Solves.{types_of, input_types, output_types, IsRow}

elements_types : (i : Instance) (ds : List Decl) (d : ℕ) → length (elements_from i d ds) ≡ length (word_types ds)
elements_types i [] d = refl
elements_types i (x ∷ ds) d =
    length-append _ _
    ∙ ap₂ ◌+◌ (length-map-range_with_len (element i d) 0 (element_count x.dims)
    ∙ sym (length-replicate (element_count x.dims) x.ty))
    (elements_types i ds (d + 1))
    ∙ sym (length-append _ _)

inputs_of : (o : Option Func) → length (parameters_of o) ≡ length (types_of (λ f. f.params) o)
inputs_of None = refl
inputs_of (Some f) = elements_types main f.params 0

outputs_of : (o : Option Func) → length (results_of o) ≡ length (types_of (λ f. f.results) o)
outputs_of None = refl
outputs_of (Some f) = elements_types main f.results (length f.params)

pub inputs_length : (p : Program) → length (inputs p) ≡ length (input_types p)
inputs_length p = inputs_of (main_of p)

pub outputs_length : (p : Program) → length (outputs p) ≡ length (output_types p)
outputs_length p = outputs_of (main_of p)

pub row_length : (p : Program) (row : List ℤ) → IsRow p row → length row ≡ length (inputs p)
row_length p row is = zip_length IsInType (input_types p) row is ∙ sym (inputs_length p)
