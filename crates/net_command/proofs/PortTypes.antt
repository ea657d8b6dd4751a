-- The types of the words of a flat program, and what `ports_of` answers.
use Rattle.std.proofs.Common.{◌≡◌, ◌∙◌, ◌<◌, ℕ, List, length, get_or, refl, ap, ap₂, sym, subst, Result}
use Rattle.std.specs.Prelude.{IsErrAnd}
use Rattle.std.proofs.lemmas.List.{get_or-map}
use Rattle.fix_word.specs.declared.types.SigType.{SigType}
use Rattle.front_end.specs.ProgramFlat.{IsProgramFlat}
use Rattle.loop_expand.specs.InTypes.{flat_output_types}
use Rattle.net_command.specs.Ports.{program_ports, AnswersPorts}
use Rattle.net_fit.specs.declared.ports.Ports.{Ports}
use Rattle.signal_graph.specs.Flat as flat
use Rattle.signal_graph.specs.FlatSolves.{element_of, no_element}
use Rattle.signal_graph.specs.declared.flat.FlatElem.{FlatElem}
use Rattle.signal_graph.specs.declared.flat.FlatProgram.{FlatProgram}
use Rattle.silage_meaning.specs.Solves.{output_types}
use Rattle.silage_syntax.specs.Tree.{Program}
use Rattle.silc_files.proofs.Results.{error_is}
use Rattle.statuses.specs.declared.status.Status.{Status}
use Rattle.statuses.specs.declared.status.Status.TheVariants.{Memory}

pub type_at : (f : FlatProgram) (k : ℕ) (d : FlatElem)
    → k < length f.elems
    → (element_of (flat.view f) k).ty ≡ (get_or f.elems k d).ty
type_at f k d h = ap (λ (e : flat.Element). e.ty) (get_or-map flat.view_elem f.elems k d no_element h)

-- they are those of the program
pub ports_are : (p : Program) (f : flat.Program) (ports : Ports)
    → IsProgramFlat p f
    → flat_output_types f ≡ output_types p
    → ports.inputs ≡ f.inputs
    → ports.outs ≡ flat_output_types f
    → ports ≡ program_ports p
ports_are p f ports flat_of same inputs outs =
    ap₂ (λ (i o : List SigType). (let ports : Ports = record { inputs = i; outs = o } in ports))
    (inputs ∙ flat_of.flat_of.inputs) (outs ∙ same)

-- where the call answers an error
pub no_ports : (r : Result Ports Status) (told : Status) (p : Program)
    → IsErrAnd r (λ (status : Status). status ≡ told)
    → told ≡ Memory
    → AnswersPorts p r
no_ports r told p is memory =
    subst (λ (x : Result Ports Status). AnswersPorts p x) (sym (error_is r told is Memory memory)) refl
